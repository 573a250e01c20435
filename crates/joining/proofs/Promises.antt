-- What the contract of `join` is worth: it determines the result, and what is joined is good.
use mathlib.Core.Path.{◌≡◌, sym, ◌∙◌}
use mathlib.Core.Bool.{true}
use mathlib.Core.List.{List}
use Prim.Native.Nat.{ℕ}
use Rattle.book.specs.Books.{good_book}
use Rattle.prime.specs.Sheets.{good_sheet}
use Rattle.prime.proofs.Least.{good_i}
use Rattle.prime.proofs.Laws.{join_good}
use Rattle.book.proofs.Unions.{good_union}
use Rattle.answers.specs.declared.Answer.{Answer}
use Rattle.joining.specs.Joining.{Piece, book_in, sheet_in, joined_book, joined_sheet, join_code, Joined}
use Rattle.joining.proofs.Judging.{joinable_e}
use Rattle.joining.proofs.Doing.{sheets_good}

-- any two results that satisfy the contract are equal
pub joined_unique : (n : ℕ) (a b : Piece) (book sheet : List ℕ) (r q : Answer) (book' sheet' book'' sheet'' : List ℕ)
    → Joined n a b book sheet book' sheet' r → Joined n a b book sheet book'' sheet'' q → (r ≡ q) × (book' ≡ book'') × (sheet' ≡ sheet'')
joined_unique n a b book sheet r q book' sheet' book'' sheet'' x y =
    (x.answer ∙ sym y.answer, x.book_left ∙ sym y.book_left, x.sheet_left ∙ sym y.sheet_left)

-- where the code is 0, the joined book is a good book and the joined sheet a good sheet
pub joined_good : (n : ℕ) (a b : Piece) (bookRoom sheetRoom : ℕ) → join_code n a b bookRoom sheetRoom ≡ 0
    → (good_book n (joined_book a b) ≡ true) × (good_sheet n (joined_sheet n a b) ≡ true)
joined_good n a b bookRoom sheetRoom e =
    let j = joinable_e n a b bookRoom sheetRoom e in
    let g = j.pieces in (
      good_union n (book_in a) (book_in b) g.left.book_is_good g.right.book_is_good j.agree,
      good_i n (joined_sheet n a b) (join_good n (sheets_good n a b g).0 (sheet_in a) (sheet_in b)),
    )
