-- What code 0 hands to the writing, and what the call has done when it returns.
use mathlib.Core.Path.{◌≡◌, refl, sym, ap, ap₂, ◌∙◌}
use mathlib.Core.Bool.{true, not}
use mathlib.Core.List.{List}
use Prim.Native.Nat.{ℕ, ◌≤◌}
use lib.ListN.{length}
use lib.Seq.{length-take-le}
use Rattle.table.specs.Surgery.{cleared_from, filled, Holds}
use Rattle.table.proofs.Tables.{holds_filled}
use Rattle.panel.specs.Masks.{panel_size}
use Rattle.book.specs.Books.{states_up, union}
use Rattle.prime.specs.Sheets.{good_sheet, join_sheet}
use Rattle.book.proofs.Books.{book_e}
use Rattle.answers.specs.Answers.{plain, done}
use Rattle.answers.specs.Refusals.{code_of}
use Rattle.answers.specs.declared.Refusal.{Refusal}
use Rattle.answers.proofs.Refusing.{code_not_none}
use Rattle.answers.specs.declared.Answer.{Answer}
use Rattle.joining.specs.Joining.{Piece, book_in, sheet_in, joined_book, joined_sheet, join_code, join_answer, book_after, sheet_after, Fills, Joined, GoodPieces}
use Rattle.joining.proofs.Judging.{size_in, joinable_e}
use Rattle.answers.proofs.Laws.{if_refused, if_done_lem}

-- ---- what counting and writing ask for

module _ (n : ℕ) (a b : Piece) (g : GoodPieces n a b) where
  pub books_rise : (states_up (book_in a) ≡ true) × (states_up (book_in b) ≡ true)
  books_rise = ((book_e n (book_in a) g.left.book_is_good).rising, (book_e n (book_in b) g.right.book_is_good).rising)

  pub sheets_good : (n ≤ 10) × (good_sheet n (sheet_in a) ≡ true) × (good_sheet n (sheet_in b) ≡ true)
  sheets_good = (size_in n (panel_size n) refl (ap not g.size), g.left.sheet_is_good, g.right.sheet_is_good)

-- where nothing refuses, p and q are the books in use, and s and t the sheets
module _ (n : ℕ) (a b : Piece) (bookRoom sheetRoom : ℕ) (ec : 0 ≡ join_code n a b bookRoom sheetRoom) where
  pub book_ready : (p q : List ℕ) → p ≡ book_in a → q ≡ book_in b → (states_up p ≡ true) × (states_up q ≡ true) × (length (union p q) ≤ bookRoom)
  book_ready p q ep eq =
      let j = joinable_e n a b bookRoom sheetRoom (sym ec) in
      let up = books_rise n a b j.pieces in
      rw (ep, eq) (up.0, up.1, j.book_fits)

  pub sheet_ready : (s t : List ℕ) → s ≡ sheet_in a → t ≡ sheet_in b → (n ≤ 10) × (good_sheet n s ≡ true) × (good_sheet n t ≡ true) × (length (join_sheet n s t) ≤ sheetRoom)
  sheet_ready s t es et =
      let j = joinable_e n a b bookRoom sheetRoom (sym ec) in
      let good = sheets_good n a b j.pieces in
      rw (es, et) (good.0, good.1, good.2, j.sheet_fits)

-- ---- a table written to the front of a slice, and the rest cleared

pub holds_fills : (s t tab : List ℕ) (r room : ℕ) → Holds s r room tab → t ≡ cleared_from r s → Fills t r room tab
holds_fills s t tab r room h e = record {
  count = sym (length-take-le r s h.fits) ∙ ap length h.is;
  words = holds_filled s t r room tab h e;
}

-- ---- the returns of `join`

module _ (n : ℕ) (a b : Piece) (book sheet : List ℕ) where
  pub join_refused : (why : Refusal) → code_of why ≡ join_code n a b (length book) (length sheet) → (r : Answer) → r ≡ plain (code_of why) 0 0 0 → Joined n a b book sheet book sheet r
  unfolding join_answer book_after sheet_after
  join_refused why ec r er =
      let f : join_code n a b (length book) (length sheet) ≡ 0 → ⊥ = λ z. code_not_none why (ec ∙ z) in
      record {
        answer = er ∙ ap (λ (c : ℕ). plain c 0 0 0) ec ∙ sym (if_refused (join_code n a b (length book) (length sheet)) _ _ f);
        book_left = sym (if_refused (join_code n a b (length book) (length sheet)) _ book f);
        sheet_left = sym (if_refused (join_code n a b (length book) (length sheet)) _ sheet f);
      }

  pub join_done : 0 ≡ join_code n a b (length book) (length sheet) → (p q s t : List ℕ) → p ≡ book_in a → q ≡ book_in b → s ≡ sheet_in a → t ≡ sheet_in b
      → (books sheets : ℕ) (book' sheet' : List ℕ) → Fills book' books (length book) (union p q) → Fills sheet' sheets (length sheet) (join_sheet n s t)
      → (r : Answer) → r ≡ done books sheets 0 0 → Joined n a b book sheet book' sheet' r
  unfolding join_answer book_after sheet_after
  join_done ec p q s t ep eq es et books sheets book' sheet' fb fs r er =
      let z : join_code n a b (length book) (length sheet) ≡ 0 = sym ec in
      let eb : union p q ≡ joined_book a b = ap₂ union ep eq in
      let ej : join_sheet n s t ≡ joined_sheet n a b = ap₂ (join_sheet n) es et in
      record {
        answer = er ∙ ap₂ (λ (x y : ℕ). done x y 0 0) (fb.count ∙ ap length eb) (fs.count ∙ ap length ej) ∙ sym (if_done_lem (join_code n a b (length book) (length sheet)) _ _ z);
        book_left = fb.words ∙ ap (filled (length book)) eb ∙ sym (if_done_lem (join_code n a b (length book) (length sheet)) _ book z);
        sheet_left = fs.words ∙ ap (filled (length sheet)) ej ∙ sym (if_done_lem (join_code n a b (length book) (length sheet)) _ sheet z);
      }
