-- Where learning stands in the slices: what the answer so far and the words in use say.
use Rattle.std.specs.Prelude.{◌≡◌, true, List, ℕ, Result, Ok, Err, ◌*◌, ◌≤◌, length, take, replicate}
use Rattle.prime.specs.Sheets.{good_sheet}
use Rattle.book.specs.Books.{good_book}
use Rattle.answers.specs.Answers.{plain, done}
use Rattle.answers.specs.declared.Answer.{Answer}
use Rattle.answers.specs.Refusals.{code_of}
use Rattle.inner.specs.Inner.{answer_done}
use Rattle.inner.specs.declared.Done.{Done}
use Rattle.answers.specs.declared.Refused.{Refused}
use Rattle.learning.specs.Learn.{Run, run_if, going, word_code, learn_step, learn_words, learn_start, learn_end, run_answer, run_book, run_sheet}

-- what is answered for it: what was done, or a refusal with its place alone
abbrev pub answer_for : Result Done Refused → Answer
answer_for (Ok d) = answer_done d
answer_for (Err r) = plain (code_of r.why) r.place 0 0

-- the words that a slice is left with: a refusal clears them all
abbrev pub words_left : Result Done Refused → List ℕ → List ℕ
words_left (Ok d) s = s
words_left (Err r) s = replicate (length s) 0

-- the run that an answer and the words in use stand for
unfoldable pub run_of : Answer → List ℕ → List ℕ → Run
run_of a book sheet = run_if a.code (going (take a.book_count book) (take a.sheet_count sheet) a.struck a.added) a.place

-- the tables are good and inside their slices, and the sums are not large
pub record GoodTables (n : ℕ) (a : Answer) (book sheet : List ℕ) : Type 0 where
  pub small : n ≤ 10
  pub books_in : a.book_count ≤ length book
  pub sheets_in : a.sheet_count ≤ length sheet
  pub book_is_good : good_book n (take a.book_count book) ≡ true
  pub sheet_is_good : good_sheet n (take a.sheet_count sheet) ≡ true
  pub struck_few : a.struck ≤ a.book_count * 16777216
  pub added_few : a.added ≤ a.book_count * 16777216
  pub as_done : a ≡ done a.book_count a.sheet_count a.struck a.added

-- an answer on the way: sound while nothing was refused, and else a code and a place alone
pub record Fit (n : ℕ) (a : Answer) (book sheet : List ℕ) : Type 0 where
  pub sound : a.code ≡ 0 → GoodTables n a book sheet
  pub alone : (a.code ≡ 0 → ⊥) → a ≡ plain a.code a.place 0 0

-- a word that nothing refuses but 9 comes after a sound answer
pub record Next (n t : ℕ) (a : Answer) (book sheet : List ℕ) : Type 0 where
  pub done_so_far : a.code ≡ 0
  pub sound : GoodTables n a book sheet
  pub passes : word_code n t (length book) (take a.book_count book) ≡ 0

-- one word was learned: a, book and sheet before, r, book' and sheet' after
pub record WordLearned (n k t : ℕ) (a : Answer) (book sheet : List ℕ) (r : Answer) (book' sheet' : List ℕ) : Type 0 where
  pub run : run_of r book' sheet' ≡ learn_step n (length book) (length sheet) k t (run_of a book sheet)
  pub fit : Fit n r book' sheet'

-- all words were learned
pub record Through (n : ℕ) (ts : List ℕ) (a : Answer) (book sheet : List ℕ) (r : Answer) (book' sheet' : List ℕ) : Type 0 where
  pub run : run_of r book' sheet' ≡ learn_words n (length book) (length sheet) 0 ts (run_of a book sheet)
  pub fit : Fit n r book' sheet'

-- the start was made: r, and the sheet before and after; for any book
pub record Begun (n : ℕ) (sheet : List ℕ) (r : Answer) (sheet' : List ℕ) : Type 0 where
  pub run : (book : List ℕ) → run_of r book sheet' ≡ learn_start n (length sheet)
  pub fit : (book : List ℕ) → Fit n r book sheet'

-- the end was made: so, book and sheet before, r, book' and sheet' after
pub record Finished (n : ℕ) (so : Answer) (book sheet : List ℕ) (r : Answer) (book' sheet' : List ℕ) : Type 0 where
  pub answer : r ≡ run_answer (learn_end n (run_of so book sheet))
  pub book_words : book' ≡ run_book (length book) (learn_end n (run_of so book sheet))
  pub sheet_words : sheet' ≡ run_sheet (length sheet) (learn_end n (run_of so book sheet))
