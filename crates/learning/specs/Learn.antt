-- Learn: fresh, then take for each word in turn, then the self-check; the answer and every word of both lent slices, for all inputs.
use Rattle.std.specs.Prelude.{◌≡◌, not, cond, List, [], ◌∷◌, ℕ, ◌+◌, zero, suc, eqb, ltb, length, replicate}
use Rattle.table.specs.Surgery.{filled, one_more_if}
use Rattle.panel.specs.Masks.{panel_size}
use Rattle.panel.specs.Transitions.{state, next, valid_transition}
use Rattle.prime.specs.Sheets.{fresh_sheet, take_sheet, apply_sheet, struck_count, added_count}
use Rattle.book.specs.Books.{told, against, with_word}
use Rattle.answers.specs.Answers.{refuse, plain, done}
use Rattle.answers.specs.declared.Answer.{Answer}
use Rattle.inner.specs.Booking.{booking_code}

-- where learning stands: the book and the sheet so far with the sums of struck and added, or the code and place of a refusal
pub data Run : Type 0 where
  going : (book sheet : List ℕ) (struck added : ℕ) → Run
  refused : (code place : ℕ) → Run

-- the word t, number k, is taken: book and sheet were b and s, and new is the sheet with t taken
unfoldable pub taken : ℕ → ℕ → ℕ → List ℕ → List ℕ → ℕ → ℕ → List ℕ → Run
taken sheetRoom k t b s struck added new =
    cond (ltb sheetRoom (length new)) (refused 9 k) (going (with_word t b) new (struck + struck_count s new) (added + added_count s new))

-- one word, by 6, 7, 8, 9; a repeat is passed over, and a refusal stands
unfoldable pub learn_step : ℕ → ℕ → ℕ → ℕ → ℕ → Run → Run
learn_step n bookRoom sheetRoom k t (refused c p) = refused c p
learn_step n bookRoom sheetRoom k t (going b s x y) =
    cond (not (valid_transition n t)) (refused 6 k)
    (cond (told t b) (going b s x y)
    (cond (against t b) (refused 7 k)
    (cond (ltb bookRoom (length (with_word t b))) (refused 8 k)
    (taken sheetRoom k t b s x y (take_sheet n s t)))))

-- the code of the word t before it is taken: 6, else 1, 7, 8 or 0 as a take has it
unfoldable pub word_code : ℕ → ℕ → ℕ → List ℕ → ℕ
word_code n t bookRoom b = refuse (not (valid_transition n t)) 6 (booking_code t bookRoom b)

-- each word of the list in turn, the first one being number k
unfoldable pub learn_words : ℕ → ℕ → ℕ → ℕ → List ℕ → Run → Run
learn_words n bookRoom sheetRoom k [] r = r
learn_words n bookRoom sheetRoom k (t ∷ ts) r = learn_words n bookRoom sheetRoom (k + 1) ts (learn_step n bookRoom sheetRoom k t r)

-- fresh
unfoldable pub learn_start : ℕ → ℕ → Run
learn_start n sheetRoom = cond (not (panel_size n)) (refused 2 0) (cond (ltb sheetRoom n) (refused 9 0) (going [] (fresh_sheet n) 0 0))

-- how many words of the book, from the front, the sheet reproduces
unfoldable pub reproduced : ℕ → List ℕ → List ℕ → ℕ
reproduced n s [] = 0
reproduced n s (t ∷ b) = one_more_if (eqb (apply_sheet n s (state t)) (next t)) (reproduced n s b)

-- the self-check: 10 at the first word that the sheet does not reproduce
unfoldable pub learn_end : ℕ → Run → Run
learn_end n (refused c p) = refused c p
learn_end n (going b s x y) = cond (ltb (reproduced n s b) (length b)) (refused 10 (reproduced n s b)) (going b s x y)

unfoldable pub learn_run : ℕ → ℕ → ℕ → List ℕ → Run
learn_run n bookRoom sheetRoom ts = learn_end n (learn_words n bookRoom sheetRoom 0 ts (learn_start n sheetRoom))

-- the run where the code is 0, else the refusal with the code and a place
abbrev pub run_if : ℕ → Run → ℕ → Run
run_if zero r p = r
run_if (suc c) r p = refused (suc c) p

-- ---- what a run comes to

-- both counts and both sums; a refusal has its code and place, and 0 for the rest
unfoldable pub run_answer : Run → Answer
run_answer (going b s x y) = done (length b) (length s) x y
run_answer (refused c p) = plain c p 0 0

-- the book and 0 beyond; a refusal fills the slice with 0
unfoldable pub run_book : ℕ → Run → List ℕ
run_book room (going b s x y) = filled room b
run_book room (refused c p) = replicate room 0

-- the sheet and 0 beyond; a refusal fills the slice with 0
unfoldable pub run_sheet : ℕ → Run → List ℕ
run_sheet room (going b s x y) = filled room s
run_sheet room (refused c p) = replicate room 0

-- what learn does: its answer r, and both slices after; of the slices before only the lengths count
pub record Learned (n : ℕ) (ts : List ℕ) (bookRoom sheetRoom : ℕ) (book' sheet' : List ℕ) (r : Answer) : Type 0 where
  pub answer : r ≡ run_answer (learn_run n bookRoom sheetRoom ts)
  pub book_words : book' ≡ run_book bookRoom (learn_run n bookRoom sheetRoom ts)
  pub sheet_words : sheet' ≡ run_sheet sheetRoom (learn_run n bookRoom sheetRoom ts)
