-- What the calls leave, refused or done.
use mathlib.Core.Path.{◌≡◌, refl, sym, ap, ◌∙◌, subst}
use mathlib.Core.Bool.{Bool, not}
use mathlib.Core.List.{List, ◌++◌}
use Prim.Native.Nat.{ℕ, zero, suc, ◌≤◌}
use lib.Dec.{ltb}
use lib.ListN.{length, take, drop}
use borrow.Author.Tests.{ltb-false, not-false}
use Rattle.table.specs.Surgery.{cleared_from, Holds}
use Rattle.table.proofs.Tables.{holds_filled, over_holds}
use Rattle.panel.specs.Masks.{panel_size}
use Rattle.panel.specs.Transitions.{transition_word}
use Rattle.prime.specs.Sheets.{fresh_sheet, take_sheet, struck_count, added_count}
use Rattle.book.specs.Books.{with_word}
use Rattle.book.proofs.Books.{book_e}
use Rattle.sheet.proofs.Fresh.{fresh_length}
use Rattle.answers.specs.Answers.{plain, done, if_done}
use Rattle.answers.specs.declared.Answer.{Answer}
use Rattle.answers.proofs.Laws.{refuse_none, refuse_first, refuse_after, refuse_both, if_refused, if_done_lem}
use Rattle.calls.specs.Fresh.{fresh_code, fresh_answer, fresh_words, Fresh}
use Rattle.calls.specs.Take.{given_code, entry_code, take_code, take_answer, take_book, take_words, Taken}
use Rattle.calls.proofs.Codes.{size_of, Lent, given_none}
use Rattle.inner.specs.Booking.{booking_code, inner_code}
use Rattle.inner.specs.Inner.{inner_answer, Ready, Inner}
use Rattle.inner.proofs.Booking.{booking_none}

-- ---- fresh

pub fresh_none : (n room : ℕ) → fresh_code n room ≡ 0 → (n ≤ 10) × (n ≤ room)
unfolding fresh_code
fresh_none n room e =
    let a = refuse_none (not (panel_size n)) 1 _ e in
    let b = refuse_none (ltb room n) 8 _ a.1 in
    ((size_of n (not-false (panel_size n) a.0)).1, ltb-false room n b.0)

module _ (n : ℕ) (s : List ℕ) (c : ℕ) (ec : c ≡ fresh_code n (length s)) where
  pub fresh_refused : (c ≡ 0 → ⊥) → (r : Answer) → r ≡ plain c 0 0 0 → Fresh n s s r
  unfolding fresh_answer fresh_words
  fresh_refused f r er =
      let g : fresh_code n (length s) ≡ 0 → ⊥ = λ e. f (ec ∙ e) in
      record {
        answer = er ∙ ap (λ (k : ℕ). plain k 0 0 0) ec ∙ sym (if_refused (fresh_code n (length s)) _ _ g);
        words = sym (if_refused (fresh_code n (length s)) _ _ g);
      }

  pub fresh_done : c ≡ 0 → (y z : List ℕ) (r : Answer) → y ≡ fresh_sheet n ++ drop n s → z ≡ cleared_from n y → r ≡ plain 0 0 0 n → Fresh n s z r
  unfolding fresh_answer fresh_words
  fresh_done e y z r ey ez er =
      let g : fresh_code n (length s) ≡ 0 = sym ec ∙ e in
      let h : Holds y n (length s) (fresh_sheet n) = subst (λ (x : List ℕ). Holds x n (length s) (fresh_sheet n)) (sym ey) (over_holds (fresh_sheet n) s n (sym (fresh_length n)) (fresh_none n (length s) g).1) in
      record {
        answer = er ∙ sym (if_done_lem (fresh_code n (length s)) _ _ g);
        words = holds_filled y z n (length s) (fresh_sheet n) h ez ∙ sym (if_done_lem (fresh_code n (length s)) _ _ g);
      }

-- ---- take

module _ (spoilt : Bool) (n : ℕ) (book : List ℕ) (bookCount : ℕ) (sheet : List ℕ) (sheetCount i j : ℕ) where
  abbrev word : ℕ
  word = transition_word i j

  abbrev entry : ℕ
  entry = entry_code spoilt n book bookCount sheet sheetCount i j

  abbrev code : ℕ
  code = take_code spoilt n book bookCount sheet sheetCount i j

  pub entry_lent : (l : ℕ) → l ≡ given_code spoilt n book bookCount sheet sheetCount i j → (l ≡ 0 → ⊥) → l ≡ entry
  unfolding entry_code
  entry_lent l el f = el ∙ refuse_first (given_code spoilt n book bookCount sheet sheetCount i j) _ (λ e. f (el ∙ e))

  pub entry_booking : (l b : ℕ) → l ≡ given_code spoilt n book bookCount sheet sheetCount i j → l ≡ 0 → b ≡ booking_code word (length book) (take bookCount book) → b ≡ entry
  unfolding entry_code
  entry_booking l b el e eb = eb ∙ sym (refuse_after (given_code spoilt n book bookCount sheet sheetCount i j) _ (sym el ∙ e))

  pub entry_known : (c : ℕ) → c ≡ entry → c ≡ 0 → Lent n book bookCount sheet sheetCount i j
  unfolding entry_code
  entry_known c ec e = given_none spoilt n book bookCount sheet sheetCount i j (refuse_both (given_code spoilt n book bookCount sheet sheetCount i j) _ (sym ec ∙ e)).0

  pub entry_ready : (c : ℕ) → c ≡ entry → c ≡ 0 → (w : ℕ) → w ≡ word → Ready n w book bookCount sheet sheetCount
  unfolding entry_code
  entry_ready c ec e w ew =
      let l = entry_known c ec e in
      let z : booking_code word (length book) (take bookCount book) ≡ 0 = (refuse_both (given_code spoilt n book bookCount sheet sheetCount i j) _ (sym ec ∙ e)).1 in
      let b = booking_none w (length book) (take bookCount book) (ap (λ (x : ℕ). booking_code x (length book) (take bookCount book)) ew ∙ z) in
      record {
        small = l.small;
        books_in = l.books_in;
        in_order = (book_e n (take bookCount book) l.book_is_good).rising;
        untold = b.0;
        room = b.2;
        sheets_in = l.sheets_in;
        sheet_is_good = l.sheet_is_good;
      }

  refused_all : (r : Answer) → (code ≡ 0 → ⊥) → r ≡ plain code 0 bookCount sheetCount → Taken spoilt n book bookCount sheet sheetCount i j book sheet r
  unfolding take_answer take_book take_words
  refused_all r f er = record {
    answer = er ∙ sym (if_refused code _ _ f);
    book_words = sym (if_refused code _ _ f);
    sheet_words = sym (if_refused code _ _ f);
  }

  pub take_refused : (c : ℕ) → c ≡ entry → (c ≡ 0 → ⊥) → (r : Answer) → r ≡ plain c 0 bookCount sheetCount → Taken spoilt n book bookCount sheet sheetCount i j book sheet r
  unfolding take_code
  take_refused c ec f r er =
      let e : c ≡ code = ec ∙ refuse_first entry _ (λ q. f (ec ∙ q)) in
      refused_all r (λ q. f (e ∙ q)) (er ∙ ap (λ (m : ℕ). plain m 0 bookCount sheetCount) e)

  module _ (c : ℕ) (ec : c ≡ entry) (e : c ≡ 0) (w : ℕ) (ew : w ≡ word) (bz sz : List ℕ) (a : Answer) (h : Inner n w book bookCount sheet sheetCount bz sz a) where
    abbrev inner : ℕ
    inner = inner_code n word sheet sheetCount

    same_inner : inner_code n w sheet sheetCount ≡ inner
    same_inner = ap (λ (x : ℕ). inner_code n x sheet sheetCount) ew

    code_is : code ≡ inner
    unfolding take_code
    code_is = refuse_after entry _ (sym ec ∙ e)

    answer_is : a ≡ take_answer spoilt n book bookCount sheet sheetCount i j
    unfolding take_answer inner_answer
    answer_is =
        h.answer ∙ ap (λ (x : ℕ). inner_answer n x book bookCount sheet sheetCount) ew
        ∙ ap (λ (x : ℕ). if_done x (done (length (with_word word (take bookCount book))) (length (take_sheet n (take sheetCount sheet) word)) (struck_count (take sheetCount sheet) (take_sheet n (take sheetCount sheet) word)) (added_count (take sheetCount sheet) (take_sheet n (take sheetCount sheet) word))) (plain x 0 bookCount sheetCount)) (sym code_is)

    answer_code : a.code ≡ inner
    unfolding inner_answer
    answer_code = ap (λ (x : Answer). x.code) h.answer ∙ ap (λ (x : ℕ). (inner_answer n x book bookCount sheet sheetCount).code) ew ∙ picked_code inner
      where
        picked_code : (x : ℕ) → (if_done x (done (length (with_word word (take bookCount book))) (length (take_sheet n (take sheetCount sheet) word)) (struck_count (take sheetCount sheet) (take_sheet n (take sheetCount sheet) word)) (added_count (take sheetCount sheet) (take_sheet n (take sheetCount sheet) word))) (plain x 0 bookCount sheetCount)).code ≡ x
        picked_code zero = refl
        picked_code (suc x) = refl

    pub take_nine : (a.code ≡ 0 → ⊥) → Taken spoilt n book bookCount sheet sheetCount i j bz sz a
    unfolding take_book take_words
    take_nine f =
        let g : inner_code n w sheet sheetCount ≡ 0 → ⊥ = λ p. f (answer_code ∙ sym same_inner ∙ p) in
        let d : code ≡ 0 → ⊥ = λ p. f (answer_code ∙ sym code_is ∙ p) in
        record {
          answer = answer_is;
          book_words = (h.kept g).0 ∙ sym (if_refused code _ _ d);
          sheet_words = (h.kept g).1 ∙ sym (if_refused code _ _ d);
        }

    module _ (z : a.code ≡ 0) where
      inner_zero : inner_code n w sheet sheetCount ≡ 0
      inner_zero = same_inner ∙ sym answer_code ∙ z

      done_parts : a ≡ done (length (with_word word (take bookCount book))) (length (take_sheet n (take sheetCount sheet) word)) (struck_count (take sheetCount sheet) (take_sheet n (take sheetCount sheet) word)) (added_count (take sheetCount sheet) (take_sheet n (take sheetCount sheet) word))
      unfolding take_answer
      done_parts = answer_is ∙ if_done_lem code _ _ (code_is ∙ sym answer_code ∙ z)

      next_is : a.book_count ≡ length (with_word word (take bookCount book))
      next_is = ap (λ (x : Answer). x.book_count) done_parts

      count_new : a.sheet_count ≡ length (take_sheet n (take sheetCount sheet) word)
      count_new = ap (λ (x : Answer). x.sheet_count) done_parts

      book_holds : Holds bz a.book_count (length book) (with_word word (take bookCount book))
      book_holds =
          subst (λ (x : ℕ). Holds bz x (length book) (with_word word (take bookCount book))) (sym next_is)
          (subst (λ (x : ℕ). Holds bz (length (with_word x (take bookCount book))) (length book) (with_word x (take bookCount book))) ew (h.booked_in inner_zero))

      sheet_holds : Holds sz a.sheet_count (length sheet) (take_sheet n (take sheetCount sheet) word)
      sheet_holds =
          subst (λ (x : ℕ). Holds sz x (length sheet) (take_sheet n (take sheetCount sheet) word)) (sym count_new)
          (subst (λ (x : ℕ). Holds sz (length (take_sheet n (take sheetCount sheet) x)) (length sheet) (take_sheet n (take sheetCount sheet) x)) ew (h.taken_in inner_zero))

      pub book_fits : a.book_count ≤ length bz
      book_fits = book_holds.fits

      pub sheet_fits : a.sheet_count ≤ length sz
      sheet_fits = sheet_holds.fits

      pub take_done : (by sy : List ℕ) → by ≡ cleared_from a.book_count bz → sy ≡ cleared_from a.sheet_count sz → Taken spoilt n book bookCount sheet sheetCount i j by sy a
      unfolding take_book take_words
      take_done by sy eb es = record {
        answer = answer_is;
        book_words = holds_filled bz by a.book_count (length book) _ book_holds eb ∙ sym (if_done_lem code _ _ (code_is ∙ sym answer_code ∙ z));
        sheet_words = holds_filled sz sy a.sheet_count (length sheet) _ sheet_holds es ∙ sym (if_done_lem code _ _ (code_is ∙ sym answer_code ∙ z));
      }
