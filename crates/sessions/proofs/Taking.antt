-- What is known of a session's take once it is done: the totals fitted, struck and added are few, and the counts balance.
use mathlib.Core.Path.{◌≡◌, refl, sym, ap, ◌∙◌}
use mathlib.Core.Bool.{Bool, true, false, not, ◌||◌}
use mathlib.Core.List.{List}
use Prim.Native.Nat.{ℕ, zero, suc, ◌+◌, ◌≤◌}
use native.Mathlib.Omega.{arith}
use lib.Dec.{ltb}
use lib.ListN.{length, take}
use lib.Seq.{length-take-le}
use Rattle.table.proofs.Counting.{missing_le}
use Rattle.panel.specs.Masks.{panel_size}
use Rattle.panel.specs.Transitions.{transition_word}
use Rattle.prime.specs.Sheets.{take_sheet, struck_count, added_count}
use Rattle.book.specs.Books.{with_word}
use Rattle.sheet.specs.Taking.{tally_of}
use Rattle.answers.specs.Answers.{plain, done, if_done}
use Rattle.answers.specs.declared.Answer.{Answer}
use Rattle.answers.proofs.Laws.{refuse_none, refuse_both, if_done_lem}
use Rattle.calls.specs.Take.{given_code, entry_code, take_code, take_answer}
use Rattle.calls.proofs.Ends.{entry_ready}
use Rattle.sessions.specs.declared.Session.{Session}
use Rattle.sessions.specs.Sessions.{totals_fit, session_answer}
use borrow.Author.Tests.{not-false}
use Rattle.inner.specs.Inner.{Ready}
use Rattle.inner.proofs.Inner.{count_is, added_few, sheets_few}

-- a take that is not refused was not spoilt
lent_unspoilt : (spoilt : Bool) (n : ℕ) (book : List ℕ) (bookCount : ℕ) (sheet : List ℕ) (sheetCount i j : ℕ) → given_code spoilt n book bookCount sheet sheetCount i j ≡ 0 → spoilt ≡ false
unfolding given_code
lent_unspoilt spoilt n book bookCount sheet sheetCount i j e =
    or_no spoilt (ltb (length book) bookCount || ltb (length sheet) sheetCount) (refuse_none (spoilt || (ltb (length book) bookCount || ltb (length sheet) sheetCount)) 2 _ (refuse_none (not (panel_size n)) 1 _ e).1).0
  where
    or_no : (a b : Bool) → (a || b) ≡ false → a ≡ false
    or_no true b p = p
    or_no false b p = refl

module _ (s : Session) (book sheet : List ℕ) (i j : ℕ) where
  abbrev old : List ℕ
  old = take s.sheet_count sheet

  abbrev new : List ℕ
  new = take_sheet s.n old (transition_word i j)

  abbrev entry : ℕ
  entry = entry_code (not (totals_fit s)) s.n book s.book_count sheet s.sheet_count i j

  abbrev code : ℕ
  code = take_code (not (totals_fit s)) s.n book s.book_count sheet s.sheet_count i j

  code_is : (session_answer s book sheet i j).code ≡ code
  unfolding session_answer take_answer
  code_is = picked code
    where
      picked : (c : ℕ) → (if_done c (done (length (with_word (transition_word i j) (take s.book_count book))) (length new) (struck_count old new) (added_count old new)) (plain c 0 s.book_count s.sheet_count)).code ≡ c
      picked zero = refl
      picked (suc c) = refl

  module _ (z : (session_answer s book sheet i j).code ≡ 0) where
    code_zero : code ≡ 0
    code_zero = sym code_is ∙ z

    entry_zero : entry ≡ 0
    unfolding take_code
    entry_zero = (refuse_both entry _ code_zero).0

    pub totals_fitted : totals_fit s ≡ true
    unfolding entry_code
    totals_fitted = not-false (totals_fit s) (lent_unspoilt (not (totals_fit s)) s.n book s.book_count sheet s.sheet_count i j (refuse_both (given_code (not (totals_fit s)) s.n book s.book_count sheet s.sheet_count i j) _ entry_zero).0)

    ready : Ready s.n (transition_word i j) book s.book_count sheet s.sheet_count
    ready = entry_ready (not (totals_fit s)) s.n book s.book_count sheet s.sheet_count i j entry refl entry_zero (transition_word i j) refl

    pub answer_is : session_answer s book sheet i j ≡ done (length (with_word (transition_word i j) (take s.book_count book))) (length new) (struck_count old new) (added_count old new)
    unfolding session_answer take_answer
    answer_is = if_done_lem code _ _ code_zero

    pub few_struck : (session_answer s book sheet i j).struck ≤ 16777216
    unfolding struck_count
    few_struck =
        omega (
          arith,
          ap (λ (a : Answer). a.struck) answer_is,
          missing_le new old,
          length-take-le s.sheet_count sheet ready.sheets_in,
          sheets_few s.n (transition_word i j) book s.book_count sheet s.sheet_count ready (tally_of s.n old (transition_word i j)) refl,
        )

    pub few_added : (session_answer s book sheet i j).added ≤ 16777216
    unfolding tally_of
    few_added =
        omega (
          arith,
          ap (λ (a : Answer). a.added) answer_is,
          added_few s.n (transition_word i j) book s.book_count sheet s.sheet_count ready (tally_of s.n old (transition_word i j)) refl,
        )

    -- what goes and what comes give the new count
    pub counts_balanced : (session_answer s book sheet i j).sheet_count + (session_answer s book sheet i j).struck ≡ s.sheet_count + (session_answer s book sheet i j).added
    unfolding tally_of
    counts_balanced =
        omega (
          arith,
          ap (λ (a : Answer). a.sheet_count) answer_is,
          ap (λ (a : Answer). a.struck) answer_is,
          ap (λ (a : Answer). a.added) answer_is,
          count_is s.n (transition_word i j) book s.book_count sheet s.sheet_count ready (tally_of s.n old (transition_word i j)) refl,
        )
