-- A step of the ladder of `given_code` that docs/PORT.md names: a book that is not good, where all before it passed, is code 4.
use mathlib.Core.Path.{◌≡◌, sym, ◌∙◌}
use mathlib.Core.Bool.{Bool, true, false}
use mathlib.Core.List.{List}
use Prim.Native.Nat.{ℕ, ◌≤◌}
use lib.ListN.{length, take}
use borrow.Author.Tests.{le-ltb}
use Rattle.panel.specs.Masks.{panel_size}
use Rattle.book.specs.Books.{good_book}
use Rattle.calls.specs.Take.{given_code}

pub given_bad_book : (spoilt : Bool) (n : ℕ) (book : List ℕ) (bookCount : ℕ) (sheet : List ℕ) (sheetCount i j : ℕ) (x : Bool) → x ≡ panel_size n → x ≡ true → spoilt ≡ false
    → bookCount ≤ length book → sheetCount ≤ length sheet → (y : Bool) → y ≡ good_book n (take bookCount book) → y ≡ false → 4 ≡ given_code spoilt n book bookCount sheet sheetCount i j
unfolding given_code
given_bad_book spoilt n book bookCount sheet sheetCount i j x ex e f lb ls y ey g =
    sym (simp (sym ex ∙ e, f, le-ltb (length book) bookCount lb, le-ltb (length sheet) sheetCount ls, sym ey ∙ g))
