-- Take in place: what is counted before anything is written, and what a visit of one rule does to the table.
use Rattle.std.specs.Prelude.{◌≡◌, Bool, true, false, not, ◌||◌, cond, List, ℕ, zero, suc, ◌+◌, ◌*◌, ◌≤◌, ◌<◌, eqb, ⊤, length, take, drop, get_or}
use Rattle.table.specs.Lists.{one_if, filter, increasing, insert_all, remove}
use Rattle.table.specs.Surgery.{Holds}
use Rattle.panel.specs.Masks.{on}
use Rattle.panel.specs.Rules.{valid_rule}
use Rattle.panel.specs.Transitions.{state, spared}
use Rattle.prime.specs.Sheets.{take_sheet, struck_count, added_count}
use Rattle.heirs.specs.Heirs.{heirs_of_all, heir_mask, picked}
use Rattle.sheet.specs.declared.Table.{Table}
use Rattle.sheet.specs.declared.Tally.{Tally}

-- what a take reports: the rules of the old sheet absent from the new, and the reverse
unfoldable pub tally_of : ℕ → List ℕ → ℕ → Tally
tally_of n s t = record { struck = struck_count s (take_sheet n s t); added = added_count s (take_sheet n s t) }

-- how many relays below n are on in the mask
unfoldable pub on_count : ℕ → ℕ → ℕ
on_count zero mask = 0
on_count (suc v) mask = on_count v mask + one_if (on v mask)

-- the hit rules of a list
unfoldable pub hits : ℕ → List ℕ → List ℕ
hits t s = filter (λ w. not (spared t w)) s

-- after the rules before k: what they strike and add, and what is left
pub record Tallying (n t : ℕ) (s : List ℕ) (k struck added : ℕ) : Type 0 where
  pub inside : k ≤ length s
  pub few : struck ≤ k
  pub not_many : added ≤ 10 * k
  pub struck_left : struck + length (hits t (drop k s)) ≡ length (hits t s)
  pub added_left : added + length (heirs_of_all n (filter (spared t) s) t (hits t (drop k s))) ≡ length (heirs_of_all n (filter (spared t) s) t (hits t s))

-- u is the first relay below n that is on in the mask, or n where none is
pub record FirstOn (n mask u : ℕ) : Type 0 where
  pub inside : u ≤ n
  pub off_before : (v : ℕ) → v < u → on v mask ≡ false
  pub on_here : u < n → on u mask ≡ true

-- the rule b stays for now: it is spared, or it has an heir and not all hit rules go yet
unfoldable pub stays : Bool → ℕ → ℕ → ℕ → List ℕ → Bool
stays all n t b tab = spared t b || not (all || eqb (heir_mask n t b tab) 0)

-- the table with b gone and its candidates on the relays of the mask put in
unfoldable pub planted : ℕ → ℕ → ℕ → ℕ → List ℕ → List ℕ
planted n mask b i tab = insert_all (picked n mask b i) (remove b tab)

-- the table after a visit of its rule b
unfoldable pub visited : Bool → ℕ → ℕ → ℕ → List ℕ → List ℕ
visited all n t b tab = cond (stays all n t b tab) tab (planted n (heir_mask n t b tab) b (state t) tab)

-- candidates can be put into the table one after the other: it stays in order, and there is room
pub record Plantable (n mask b i : ℕ) (tab : List ℕ) (room : ℕ) : Type 0 where
  pub in_order : (v : ℕ) → v ≤ n → increasing (insert_all (picked v mask b i) tab) ≡ true
  pub fits : length (insert_all (picked n mask b i) tab) ≤ room

-- the rule at a place of a table of `have` words can be visited
pub record Visitable (all : Bool) (n t : ℕ) (s : List ℕ) (have at : ℕ) : Type 0 where
  pub size : n ≤ 10
  pub inside : at < have
  pub fits : have ≤ length s
  pub sorted : increasing (take have s) ≡ true
  pub rule : valid_rule n (get_or s at 0) ≡ true
  pub plants : stays all n t (get_or s at 0) (take have s) ≡ false
      → Plantable n (heir_mask n t (get_or s at 0) (take have s)) (get_or s at 0) (state t) (remove (get_or s at 0) (take have s)) (length s)

-- the table after visits of the rules in front of the place k, from the last of them to the first
unfoldable pub swept : Bool → ℕ → ℕ → ℕ → List ℕ → List ℕ
swept all n t zero tab = tab
swept all n t (suc k) tab = swept all n t k (visited all n t (get_or tab k 0) tab)

-- each of these visits can be made, wherever a slice of that room has the table
unfoldable pub Sweepable : Bool → ℕ → ℕ → ℕ → ℕ → List ℕ → Type 0
Sweepable all n t room zero tab = ⊤
Sweepable all n t room (suc k) tab =
    ((s : List ℕ) (have : ℕ) → Holds s have room tab → Visitable all n t s have k) × Sweepable all n t room k (visited all n t (get_or tab k 0) tab)

-- the rules of the table a: the first of its lent words
abbrev pub rules_of : Table → List ℕ
rules_of a = take a.have a.words.now

-- the table a became b, whose rules are tab: the same lent words, and as many
pub record Became (a : Table) (tab : List ℕ) (b : Table) : Type 0 where
  pub same_reference : b.words.ghost_name ≡ a.words.ghost_name
  pub holds : Holds b.words.now b.have (length a.words.now) tab
