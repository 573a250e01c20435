-- A step of the ladder of `pieces_code` that docs/PORT.md names: a sheet that is not good, where all before it passed, is code 5.
use mathlib.Core.Path.{◌≡◌}
use mathlib.Core.Bool.{Bool, true, false, not, ◌&&◌}
use Prim.Native.Nat.{ℕ}
use Rattle.panel.specs.Masks.{panel_size}
use Rattle.book.specs.Books.{good_book}
use Rattle.prime.specs.Sheets.{good_sheet}
use Rattle.joining.specs.Joining.{Piece, book_in, sheet_in, exceeds, pieces_code}

pub code_5 : (n : ℕ) (a b : Piece) (later : ℕ) (x₂ : Bool) → x₂ ≡ panel_size n → not x₂ ≡ false → (x₃ : Bool) → x₃ ≡ exceeds a → x₃ ≡ false → (y₃ : Bool) → y₃ ≡ exceeds b → y₃ ≡ false
    → (x₄ : Bool) → x₄ ≡ (good_book n (book_in a) && good_book n (book_in b)) → not x₄ ≡ false → (x₅ : Bool) → x₅ ≡ (good_sheet n (sheet_in a) && good_sheet n (sheet_in b))
    → not x₅ ≡ true → 5 ≡ pieces_code n a b later
unfolding pieces_code
code_5 n a b later x₂ e₂ h₂ x₃ e₃ h₃ y₃ f₃ k₃ x₄ e₄ h₄ x₅ e₅ h = rw (← e₂, h₂, ← e₃, h₃, ← f₃, k₃, ← e₄, h₄, ← e₅, h)
