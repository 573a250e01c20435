-- Take, rule by rule: a rule that a transition hits gives way to its heirs.
use Rattle.std.specs.Prelude.{ℕ, Bool, true, false, not, ◌&&◌, List, [], ◌∷◌, ◌++◌, length}
use Rattle.std.specs.Int.Bits.{bit_or}
use Rattle.table.specs.Lists.{any, cons_if, filter, each, remove, insert_all}
use Rattle.panel.specs.Masks.{on, bits_where}
use Rattle.panel.specs.Rules.{narrows}
use Rattle.panel.specs.Transitions.{state, spared}
use Rattle.panel.specs.Contacts.{free, candidate, near}
use Rattle.prime.specs.Sheets.{permits}

-- the heirs of the hit rule b: its candidates that narrow no kept rule
unfoldable pub heirs_of : ℕ → List ℕ → ℕ → ℕ → List ℕ
heirs_of n kept t b =
    each n (λ v. cons_if (free v b && not (permits kept (candidate b v (state t)))) (candidate b v (state t)) [])

-- the heirs of each rule of a list of hit rules
unfoldable pub heirs_of_all : ℕ → List ℕ → ℕ → List ℕ → List ℕ
heirs_of_all n kept t [] = []
heirs_of_all n kept t (b ∷ bs) = heirs_of n kept t b ++ heirs_of_all n kept t bs

-- the spared rules, with the heirs of the hit ones put in their places
unfoldable pub take_steps : ℕ → List ℕ → ℕ → List ℕ
take_steps n s t =
    insert_all (heirs_of_all n (filter (spared t) s) t (filter (λ w. not (spared t w)) s)) (filter (spared t) s)

-- one step in place: b leaves the table, and its heirs come; s is the sheet at the start
unfoldable pub replaced : ℕ → List ℕ → ℕ → List ℕ → ℕ → List ℕ
replaced n s t tab b = insert_all (heirs_of n (filter (spared t) s) t b) (remove b tab)

-- c narrows a rule of the table that t spares
unfoldable pub blocked : ℕ → ℕ → List ℕ → Bool
blocked t c tab = any (λ r. spared t r && narrows c r) tab

-- the candidate of b on the relay v is an heir, as far as the table tells
unfoldable pub heir_by : ℕ → ℕ → ℕ → List ℕ → Bool
heir_by t b v tab = free v b && not (blocked t (candidate b v (state t)) tab)

-- the heirs of b, as far as the table tells
unfoldable pub heirs_in : ℕ → ℕ → ℕ → List ℕ → List ℕ
heirs_in n t b tab = each n (λ v. cons_if (heir_by t b v tab) (candidate b v (state t)) [])

-- the relays whose candidates of b are heirs, as far as the table tells
unfoldable pub heir_mask : ℕ → ℕ → ℕ → List ℕ → ℕ
heir_mask n t b tab = bits_where n (λ v. heir_by t b v tab)

-- the contacts, as bits of the word, that single rules of a list have beyond b, added to those seen before
unfoldable pub near_all : ℕ → ℕ → List ℕ → ℕ
near_all b seen [] = seen
near_all b seen (r ∷ part) = near_all b (bit_or seen (near b r)) part

-- the candidates of b, against the state i, on the relays of a mask
unfoldable pub picked : ℕ → ℕ → ℕ → ℕ → List ℕ
picked n mask b i = each n (λ v. cons_if (on v mask) (candidate b v i) [])

abbrev pub one_or : Bool → ℕ → ℕ
one_or true k = 1
one_or false k = k

-- how many words of the new sheet come from the rule r: itself, or its heirs
unfoldable pub weight : ℕ → List ℕ → ℕ → ℕ → ℕ
weight n s t r = one_or (spared t r) (length (heirs_of n (filter (spared t) s) t r))
