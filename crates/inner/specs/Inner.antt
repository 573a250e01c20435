-- Take where only 9 is left to refuse, as it stands between functions: what it needs, and what it does.
use Rattle.std.specs.Prelude.{◌≡◌, true, false, List, ℕ, Result, Ok, Err, ◌≤◌, length, take}
use Rattle.table.specs.Surgery.{Holds}
use Rattle.book.specs.Books.{states_up, told, with_word}
use Rattle.prime.specs.Sheets.{good_sheet, take_sheet, struck_count, added_count}
use Rattle.answers.specs.Answers.{plain, done, if_done}
use Rattle.answers.specs.declared.Answer.{Answer}
use Rattle.answers.specs.declared.Refusal.{Refusal}
use Rattle.answers.specs.Refusals.{code_of}
use Rattle.inner.specs.declared.Done.{Done}
use Rattle.inner.specs.Booking.{inner_code}

-- what a call answers that was done
abbrev pub answer_done : Done → Answer
answer_done d = done d.book_count d.sheet_count d.struck d.added

-- what a call answers: what was done, or the refusal with the counts as they were
abbrev pub answer_of : ℕ → ℕ → Result Done Refusal → Answer
answer_of bookCount sheetCount (Ok d) = answer_done d
answer_of bookCount sheetCount (Err why) = plain (code_of why) 0 bookCount sheetCount

-- its answer
unfoldable pub inner_answer : ℕ → ℕ → List ℕ → ℕ → List ℕ → ℕ → Answer
inner_answer n t book bookCount sheet sheetCount =
    if_done (inner_code n t sheet sheetCount)
    (done (length (with_word t (take bookCount book))) (length (take_sheet n (take sheetCount sheet) t))
    (struck_count (take sheetCount sheet) (take_sheet n (take sheetCount sheet) t))
    (added_count (take sheetCount sheet) (take_sheet n (take sheetCount sheet) t)))
    (plain (inner_code n t sheet sheetCount) 0 bookCount sheetCount)

-- what such a take needs: a book in order, which does not tell the word and has room for it, and a good sheet
pub record Ready (n t : ℕ) (book : List ℕ) (bookCount : ℕ) (sheet : List ℕ) (sheetCount : ℕ) : Type 0 where
  pub small : n ≤ 10
  pub books_in : bookCount ≤ length book
  pub in_order : states_up (take bookCount book) ≡ true
  pub untold : told t (take bookCount book) ≡ false
  pub room : length (with_word t (take bookCount book)) ≤ length book
  pub sheets_in : sheetCount ≤ length sheet
  pub sheet_is_good : good_sheet n (take sheetCount sheet) ≡ true

-- what such a take does
pub record Inner (n t : ℕ) (book : List ℕ) (bookCount : ℕ) (sheet : List ℕ) (sheetCount : ℕ) (book' sheet' : List ℕ) (r : Answer) : Type 0 where
  pub answer : r ≡ inner_answer n t book bookCount sheet sheetCount
  pub kept : (inner_code n t sheet sheetCount ≡ 0 → ⊥) → (book' ≡ book) × (sheet' ≡ sheet)
  pub booked_in : inner_code n t sheet sheetCount ≡ 0 → Holds book' (length (with_word t (take bookCount book))) (length book) (with_word t (take bookCount book))
  pub taken_in : inner_code n t sheet sheetCount ≡ 0 → Holds sheet' (length (take_sheet n (take sheetCount sheet) t)) (length sheet) (take_sheet n (take sheetCount sheet) t)
