-- Words written over the front of a slice.
use Rattle.std.specs.Prelude.{◌≡◌, ℕ, Bool, true, false, List, ◌++◌, length, drop, set}
use Rattle.table.specs.Surgery.{Holds}

-- xs written over the front of s; the words behind stay
unfoldable pub over : List ℕ → List ℕ → List ℕ
over xs s = xs ++ drop (length xs) s

-- w written at a place if it is kept
abbrev pub put_if : Bool → ℕ → ℕ → List ℕ → List ℕ
put_if true at w s = set s at w
put_if false at w s = s

-- the table tab was written over the front of old: its r words, and the whole slice as it is now
pub record Laid (old s : List ℕ) (r : ℕ) (tab : List ℕ) : Type 0 where
  pub count : r ≡ length tab
  pub whole : s ≡ over tab old
  pub holds : Holds s r (length old) tab
