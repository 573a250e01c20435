-- The bench examples K1 to K12 of document 01 as one table: each row a call, with its inputs, and every number and word that it must give.
use Rattle.std.specs.Prelude.{◌≡◌, Bool, true, false, ◌&&◌, List, [], ◌∷◌, ℕ, eqb, length}
use Rattle.panel.specs.Transitions.{transition_word}
use Rattle.answers.specs.Answers.{plain, done}
use Rattle.answers.specs.declared.Answer.{Answer}
use Rattle.calls.specs.declared.Applied.{Applied}
use Rattle.calls.specs.Take.{take_answer, take_book, take_words, Taken}
use Rattle.calls.specs.Apply.{apply_answer}
use Rattle.learning.specs.Learn.{learn_run, run_answer, run_book, run_sheet, Learned}
use Rattle.joining.specs.Joining.{Piece, piece, join_answer, book_after, sheet_after, Joined}

-- ---- rows

-- a call with its inputs, then its answer and what is left in the slices
pub data Row : Type 0 where
  -- learn: panel size, words, room for the book and for the sheet
  learns : (n : ℕ) (words : List ℕ) (bookRoom sheetRoom : ℕ) (answer : Answer) (book sheet : List ℕ) → Row
  -- take: panel size, both slices with their counts, state and successor
  takes : (n : ℕ) (oldBook : List ℕ) (bookCount : ℕ) (oldSheet : List ℕ) (sheetCount i j : ℕ) (answer : Answer) (book sheet : List ℕ) → Row
  -- join: panel size, the two pieces, both slices
  joins : (n : ℕ) (a b : Piece) (oldBook oldSheet : List ℕ) (answer : Answer) (book sheet : List ℕ) → Row
  -- apply: panel size, the sheet with its count, a state
  applies : (n : ℕ) (sheet : List ℕ) (sheetCount x : ℕ) (answer : Answer) (state : ℕ) → Row

-- whatever satisfies the contract of the call has the answer and the words of the row
abbrev pub RowStands : Row → Type 0
RowStands (learns n words bookRoom sheetRoom a b s) =
    (r : Answer) (book sheet : List ℕ) → Learned n words bookRoom sheetRoom book sheet r → (r ≡ a) × (book ≡ b) × (sheet ≡ s)
RowStands (takes n oldBook bookCount oldSheet sheetCount i j a b s) =
    (r : Answer) (book sheet : List ℕ) → Taken false n oldBook bookCount oldSheet sheetCount i j book sheet r → (r ≡ a) × (book ≡ b) × (sheet ≡ s)
RowStands (joins n p q oldBook oldSheet a b s) =
    (r : Answer) (book sheet : List ℕ) → Joined n p q oldBook oldSheet book sheet r → (r ≡ a) × (book ≡ b) × (sheet ≡ s)
RowStands (applies n sheet sheetCount x a y) =
    (r : Applied) → r ≡ apply_answer n sheet sheetCount x → (r.answer ≡ a) × (r.state ≡ y)

-- ---- the test of a row, by computing the call's definition

abbrev pub same_words : List ℕ → List ℕ → Bool
same_words [] [] = true
same_words [] (y ∷ ys) = false
same_words (x ∷ xs) [] = false
same_words (x ∷ xs) (y ∷ ys) = eqb x y && same_words xs ys

-- all six numbers agree
abbrev pub same_answer : Answer → Answer → Bool
same_answer a b =
    eqb a.code b.code && (eqb a.place b.place && (eqb a.book_count b.book_count
    && (eqb a.sheet_count b.sheet_count && (eqb a.struck b.struck && eqb a.added b.added))))

abbrev pub row_holds : Row → Bool
row_holds (learns n words bookRoom sheetRoom a b s) =
    same_answer (run_answer (learn_run n bookRoom sheetRoom words)) a
    && (same_words (run_book bookRoom (learn_run n bookRoom sheetRoom words)) b && same_words (run_sheet sheetRoom (learn_run n bookRoom sheetRoom words)) s)
row_holds (takes n oldBook bookCount oldSheet sheetCount i j a b s) =
    same_answer (take_answer false n oldBook bookCount oldSheet sheetCount i j) a
    && (same_words (take_book false n oldBook bookCount oldSheet sheetCount i j) b && same_words (take_words false n oldBook bookCount oldSheet sheetCount i j) s)
row_holds (joins n p q oldBook oldSheet a b s) =
    same_answer (join_answer n p q (length oldBook) (length oldSheet)) a
    && (same_words (book_after n p q oldBook oldSheet) b && same_words (sheet_after n p q oldBook oldSheet) s)
row_holds (applies n sheet sheetCount x a y) =
    same_answer (apply_answer n sheet sheetCount x).answer a && eqb (apply_answer n sheet sheetCount x).state y

-- every row passes its test
abbrev pub table_holds : List Row → Bool
table_holds [] = true
table_holds (k ∷ ks) = row_holds k && table_holds ks

-- ---- the table

-- the recording of document 01, that of the panel of document 000
abbrev pub recording : List ℕ
recording =
    transition_word 7 3 ∷ transition_word 3 1 ∷ transition_word 1 0 ∷ transition_word 0 4
    ∷ transition_word 4 4 ∷ transition_word 6 5 ∷ transition_word 5 2 ∷ transition_word 2 5 ∷ []

-- `done` has both counts, struck and added; `plain` a code, a place and counts
abbrev pub bench : List Row
bench =
    -- K1: no words
    learns 1 [] 1 2 (done 0 1 0 0) (0 ∷ []) (0 ∷ 0 ∷ [])
    -- K2: 0 to 0; the rule covers nothing recorded
    ∷ learns 1 (transition_word 0 0 ∷ []) 1 2 (done 1 1 1 1) (0 ∷ []) (1024 ∷ 0 ∷ [])
    -- K3: then 1 to 0; struck 2 and added 1 are the sums of the learn of both
    ∷ learns 1 (transition_word 0 0 ∷ transition_word 1 0 ∷ []) 2 1 (done 2 0 2 1) (0 ∷ 1024 ∷ []) (0 ∷ [])
    -- K4: 0 to 0, 0 to 1
    ∷ learns 1 (transition_word 0 0 ∷ transition_word 0 1 ∷ []) 2 2 (plain 7 1 0 0) (0 ∷ 0 ∷ []) (0 ∷ 0 ∷ [])
    -- K5: 0 to 1 twice, in a book of one word
    ∷ learns 1 (transition_word 0 1 ∷ transition_word 0 1 ∷ []) 1 1 (done 1 1 0 0) (1 ∷ []) (0 ∷ [])
    -- K6: 3 to 0, in room 4 and in room 3
    ∷ learns 2 (transition_word 3 0 ∷ []) 1 4 (done 1 4 2 4) (3072 ∷ []) (1 ∷ 2 ∷ 1048577 ∷ 1048578 ∷ [])
    ∷ learns 2 (transition_word 3 0 ∷ []) 1 3 (plain 9 0 0 0) (0 ∷ []) (0 ∷ 0 ∷ 0 ∷ [])
    -- K7: 7 to 3; relay 2 needs all three
    ∷ learns 3 (transition_word 7 3 ∷ []) 1 6 (done 1 5 1 3) (7171 ∷ []) (0 ∷ 1048576 ∷ 2097153 ∷ 2097154 ∷ 2097156 ∷ 0 ∷ [])
    -- K8: then 3 to 1, in room 6 and in room 5
    ∷ learns 3 (transition_word 7 3 ∷ transition_word 3 1 ∷ []) 2 6 (done 2 6 3 6) (3073 ∷ 7171 ∷ []) (0 ∷ 1048577 ∷ 1048578 ∷ 1052672 ∷ 2097153 ∷ 2097154 ∷ [])
    ∷ learns 3 (transition_word 7 3 ∷ transition_word 3 1 ∷ []) 2 5 (plain 9 1 0 0) (0 ∷ 0 ∷ []) (0 ∷ 0 ∷ 0 ∷ 0 ∷ 0 ∷ [])
    -- K9: the recording, in room 7, the most rules on the way
    ∷ learns 3 recording 8 7 (done 8 3 15 15) (4 ∷ 1024 ∷ 2053 ∷ 3073 ∷ 4100 ∷ 5122 ∷ 6149 ∷ 7171 ∷ []) (2048 ∷ 1053696 ∷ 2097153 ∷ 0 ∷ 0 ∷ 0 ∷ 0 ∷ [])
    -- K10: K9 applied to 5
    ∷ applies 3 (2048 ∷ 1053696 ∷ 2097153 ∷ 0 ∷ 0 ∷ 0 ∷ 0 ∷ []) 3 5 (plain 0 0 0 0) 2
    -- K11: the join of "0 to 0" and "1 to 0"
    ∷ joins 1 (piece (0 ∷ []) 1 (1024 ∷ []) 1) (piece (1024 ∷ []) 1 (1 ∷ []) 1) (7 ∷ 7 ∷ 7 ∷ []) (7 ∷ []) (done 2 0 0 0) (0 ∷ 1024 ∷ 0 ∷ []) (0 ∷ [])
    -- K12: 0 and 1024 are no good sheet, to apply, to take and to join
    ∷ applies 1 (0 ∷ 1024 ∷ []) 2 0 (plain 5 0 0 0) 0
    ∷ takes 1 [] 0 (0 ∷ 1024 ∷ []) 2 0 0 (plain 5 0 0 2) [] (0 ∷ 1024 ∷ [])
    ∷ joins 1 (piece [] 0 (0 ∷ 1024 ∷ []) 2) (piece [] 0 (0 ∷ []) 1) [] (7 ∷ []) (plain 5 0 0 0) [] (7 ∷ [])
    -- n of 0 and 11 give 2; 1 (K1) and 10 do not
    ∷ learns 0 [] 0 1 (plain 2 0 0 0) [] (0 ∷ [])
    ∷ learns 11 [] 0 1 (plain 2 0 0 0) [] (0 ∷ [])
    ∷ learns 10 [] 0 10 (done 0 10 0 0) [] (0 ∷ 1048576 ∷ 2097152 ∷ 3145728 ∷ 4194304 ∷ 5242880 ∷ 6291456 ∷ 7340032 ∷ 8388608 ∷ 9437184 ∷ [])
    -- a state 2 at n = 1 gives 6
    ∷ learns 1 (transition_word 2 0 ∷ []) 1 1 (plain 6 0 0 0) (0 ∷ []) (0 ∷ [])
    ∷ takes 1 (7 ∷ []) 0 (0 ∷ 7 ∷ []) 1 2 0 (plain 6 0 0 1) (7 ∷ []) (0 ∷ 7 ∷ [])
    ∷ applies 1 (0 ∷ []) 1 2 (plain 6 0 0 0) 0
    ∷ []
