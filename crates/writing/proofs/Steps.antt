-- A step of the ladder of `write_code` that docs/PORT.md names: a count beyond the sheet's slice, for a size that passed, is code 3.
use mathlib.Core.Path.{◌≡◌}
use mathlib.Core.List.{List}
use mathlib.Core.Bool.{true}
use Prim.Native.Nat.{ℕ, ◌<◌}
use lib.ListN.{length}
use borrow.Author.Tests.{lt-ltb}
use Rattle.panel.specs.Masks.{panel_size}
use Rattle.writing.specs.Writing.{write_code}

pub code_3 : (n : ℕ) (names : List (List ℕ)) (sheet : List ℕ) (count room : ℕ) → panel_size n ≡ true → length sheet < count → 3 ≡ write_code n names sheet count room
unfolding write_code
code_3 n names sheet count room p c = rw (p, lt-ltb (length sheet) count c)
