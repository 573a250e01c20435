-- Where a state stands in a book.
use Rattle.std.specs.Prelude.{ℕ, Bool, true, false, ◌&&◌, List, [], ◌∷◌, eqb, ltb, length, get_or, Result, Ok, Err}
use Rattle.table.specs.Surgery.{one_more_if}
use Rattle.panel.specs.Transitions.{state}

-- how many words from the front have a state below i
abbrev pub state_place : ℕ → List ℕ → ℕ
state_place i [] = 0
state_place i (t ∷ b) = one_more_if (ltb (state t) i) (state_place i b)

-- the word at k has the state i
unfoldable pub stands_at : ℕ → List ℕ → ℕ → Bool
stands_at i b k = ltb k (length b) && eqb (state (get_or b k 0)) i

abbrev pub found_if : Bool → ℕ → Result ℕ ℕ
found_if true k = Ok k
found_if false k = Err k

-- the place of i: Ok where the word there has the state i, else Err, where its word would go
unfoldable pub find_state : ℕ → List ℕ → Result ℕ ℕ
find_state i b = found_if (stands_at i b (state_place i b)) (state_place i b)
