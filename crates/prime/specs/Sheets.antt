-- The sheet of a set of transitions, good sheets, and what fresh, take, join and apply make of sheets.
use Rattle.std.specs.Prelude.{ℕ, Bool, true, not, ◌&&◌, ◌||◌, List, [], ◌∷◌, eqb}
use Rattle.table.specs.Lists.{any, all, filter, each, increasing, missing}
use Rattle.panel.specs.Masks.{bits_where}
use Rattle.panel.specs.Rules.{rule_word, head, valid_rule, covers, narrows, rules}
use Rattle.panel.specs.Transitions.{state, rests, spared}

-- ---- the smallest rules that pass a test

-- q passes at w, and at no other rule of its head whose body the body of w contains
unfoldable pub least : ℕ → (ℕ → Bool) → ℕ → Bool
least n q w = q w && not (any (λ r. narrows w r && (q r && not (eqb r w))) (rules n))

-- the smallest rules that pass q, in the order of their words
unfoldable pub sheet_where : ℕ → (ℕ → Bool) → List ℕ
sheet_where n q = filter (least n q) (rules n)

-- ---- the sheet of a set of transitions

-- the state i is negative for h: some successor of i in es has h off
unfoldable pub negative : List ℕ → ℕ → ℕ → Bool
negative es h i = any (λ t. eqb (state t) i && rests t h) es

-- every transition of es spares w: its body covers no negative state of its head
unfoldable pub consistent : List ℕ → ℕ → Bool
consistent es w = all (λ t. spared t w) es

-- all prime rules of all heads: the smallest consistent ones
unfoldable pub sheet_of : ℕ → List ℕ → List ℕ
sheet_of n es = sheet_where n (consistent es)

-- ---- sheets

-- no rule of the list narrows another
abbrev pub antichain : List ℕ → Bool
antichain [] = true
antichain (w ∷ s) = not (any (λ r. narrows w r || narrows r w) s) && antichain s

-- rule words valid for n, strictly increasing, no two rules of one head where one body contains the other
unfoldable pub good_sheet : ℕ → List ℕ → Bool
good_sheet n s = all (valid_rule n) s && (increasing s && antichain s)

-- the body of w contains one of the sheet's bodies for its head
unfoldable pub permits : List ℕ → ℕ → Bool
permits s w = any (narrows w) s

-- fresh: n rules with empty bodies
unfoldable pub fresh_sheet : ℕ → List ℕ
fresh_sheet n = each n (λ h. rule_word h 0 0 ∷ [])

-- take: the smallest rules that the old sheet permits and that t spares
unfoldable pub take_sheet : ℕ → List ℕ → ℕ → List ℕ
take_sheet n s t = sheet_where n (λ w. permits s w && spared t w)

-- take for each word of a list, in turn
unfoldable pub take_all : ℕ → List ℕ → List ℕ → List ℕ
take_all n s [] = s
take_all n s (t ∷ ts) = take_all n (take_sheet n s t) ts

-- join: the smallest rules that both sheets permit
unfoldable pub join_sheet : ℕ → List ℕ → List ℕ → List ℕ
join_sheet n s t = sheet_where n (λ w. permits s w && permits t w)

-- struck: the rules of the old sheet absent from the new
unfoldable pub struck_count : List ℕ → List ℕ → ℕ
struck_count old new = missing new old

-- added: the rules of the new sheet absent from the old
unfoldable pub added_count : List ℕ → List ℕ → ℕ
added_count old new = missing old new

-- ---- what a sheet says of a state

-- some rule of the head h covers the state x
unfoldable pub pulls_in : List ℕ → ℕ → ℕ → Bool
pulls_in s x h = any (λ w. eqb (head w) h && covers w x) s

-- apply: of the relays below n, exactly those that some rule pulls in are on
unfoldable pub apply_sheet : ℕ → List ℕ → ℕ → ℕ
apply_sheet n s x = bits_where n (pulls_in s x)
