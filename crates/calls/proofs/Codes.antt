-- What is known once nothing is refused.
use mathlib.Core.Path.{◌≡◌, refl, sym}
use mathlib.Core.Bool.{Bool, true, false, not, ◌&&◌, ◌||◌, false≢true}
use mathlib.Core.List.{List}
use Prim.Native.Nat.{ℕ, ◌^◌, ◌≤◌, ◌<◌}
use native.Mathlib.Nat.{le_of_suc-le-suc}
use lib.Dec.{ltb}
use lib.ListN.{length, take}
use borrow.Author.Tests.{ltb-true, ltb-false, not-false}
use Rattle.table.proofs.Basics.{and_l, and_r}
use Rattle.panel.specs.Masks.{panel_size}
use Rattle.prime.specs.Sheets.{good_sheet}
use Rattle.book.specs.Books.{good_book}
use Rattle.answers.proofs.Laws.{refuse_none}
use Rattle.calls.specs.Take.{given_code}

-- ---- n

pub size_of : (n : ℕ) → panel_size n ≡ true → (0 < n) × (n ≤ 10)
unfolding panel_size
size_of n e = (ltb-true 0 n (and_l (ltb 0 n) (ltb n 11) e), le_of_suc-le-suc (ltb-true n 11 (and_r (ltb 0 n) (ltb n 11) e)))

-- ---- take

-- what is known of the slices once nothing refused
pub record Lent (n : ℕ) (book : List ℕ) (bookCount : ℕ) (sheet : List ℕ) (sheetCount i j : ℕ) : Type 0 where
  pub small : n ≤ 10
  pub books_in : bookCount ≤ length book
  pub sheets_in : sheetCount ≤ length sheet
  pub book_is_good : good_book n (take bookCount book) ≡ true
  pub sheet_is_good : good_sheet n (take sheetCount sheet) ≡ true
  pub state_lt : i < 2 ^ n
  pub next_lt : j < 2 ^ n

pub given_none : (spoilt : Bool) (n : ℕ) (book : List ℕ) (bookCount : ℕ) (sheet : List ℕ) (sheetCount i j : ℕ) → given_code spoilt n book bookCount sheet sheetCount i j ≡ 0 → Lent n book bookCount sheet sheetCount i j
unfolding given_code
given_none spoilt n book bookCount sheet sheetCount i j e =
    let a = refuse_none (not (panel_size n)) 1 _ e in
    let b = refuse_none (spoilt || (ltb (length book) bookCount || ltb (length sheet) sheetCount)) 2 _ a.1 in
    let c = refuse_none (not (good_book n (take bookCount book))) 3 _ b.1 in
    let d = refuse_none (not (good_sheet n (take sheetCount sheet))) 4 _ c.1 in
    let f = refuse_none (not (ltb i (2 ^ n) && ltb j (2 ^ n))) 5 _ d.1 in
    let q = or_no (ltb (length book) bookCount) (ltb (length sheet) sheetCount) (or_no spoilt (ltb (length book) bookCount || ltb (length sheet) sheetCount) b.0).1 in
    let s = not-false (ltb i (2 ^ n) && ltb j (2 ^ n)) f.0 in
    record {
      small = (size_of n (not-false (panel_size n) a.0)).1;
      books_in = ltb-false (length book) bookCount q.0;
      sheets_in = ltb-false (length sheet) sheetCount q.1;
      book_is_good = not-false (good_book n (take bookCount book)) c.0;
      sheet_is_good = not-false (good_sheet n (take sheetCount sheet)) d.0;
      state_lt = ltb-true i (2 ^ n) (and_l (ltb i (2 ^ n)) (ltb j (2 ^ n)) s);
      next_lt = ltb-true j (2 ^ n) (and_r (ltb i (2 ^ n)) (ltb j (2 ^ n)) s);
    }
  where
    or_no : (a b : Bool) → (a || b) ≡ false → (a ≡ false) × (b ≡ false)
    or_no true b p = absurd (false≢true (sym p))
    or_no false b p = (refl, p)
