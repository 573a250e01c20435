-- What the program answers to an input, the sheet or a refusal, and what it leaves in its slices.
use Rattle.std.specs.Prelude.{ℕ, ◌≡◌, List, [], ◌∷◌, ◌++◌, Bool, cond, leb, ltb, length, take}
use Rattle.answers.specs.Answers.{refuse, if_done}
use Rattle.fields.specs.Decimals.{decimal}
use Rattle.reading.specs.Reading.{read_answer, read_list}
use Rattle.learning.specs.Learn.{Run, going, refused, learn_run, run_book, run_sheet, run_if}
use Rattle.naming.specs.Columns.{names_for}
use Rattle.writing.specs.TableText.{header_text}
use Rattle.writing.specs.SheetText.{sheet_text}
use Rattle.writing.specs.Writing.{written}

-- `refused C at P` with LF, C the code and P the place
unfoldable pub refusal_line : ℕ → ℕ → List ℕ
refusal_line c p = (114 ∷ 101 ∷ 102 ∷ 117 ∷ 115 ∷ 101 ∷ 100 ∷ 32 ∷ []) ++ (decimal c ++ header_text (32 ∷ 97 ∷ 116 ∷ 32 ∷ []) p)

-- a text that is longer than its room is not written at all
unfoldable pub if_room : ℕ → List ℕ → List ℕ
if_room room s = cond (leb (length s) room) s []

-- 13: the input is above 24,576 bytes
abbrev pub is_too_long : List ℕ → Bool
is_too_long t = ltb 24576 (length t)

-- the code before learning: 13 is checked first, and then reading answers
unfoldable pub reading_code : List ℕ → ℕ → ℕ
reading_code t listRoom = refuse (is_too_long t) 13 (read_answer t listRoom).code

-- its place: 0 for 13, else that of reading
unfoldable pub reading_place : List ℕ → ℕ → ℕ
reading_place t listRoom = refuse (is_too_long t) 0 (read_answer t listRoom).place

-- learning what was read: the first `count` words of the list
unfoldable pub learned_run : List ℕ → ℕ → ℕ → ℕ → Run
learned_run t listRoom bookRoom sheetRoom =
    learn_run (read_answer t listRoom).n bookRoom sheetRoom (take (read_answer t listRoom).count (read_list t listRoom))

-- the names of n columns in the text t itself: it is lent as the panel's, and an empty text as the maker's
abbrev pub own_names : List ℕ → ℕ → List (List ℕ)
own_names t n = names_for t [] n

-- writing what was learned, with names: 12 where the sheet's text is longer than its room
unfoldable pub written_run : ℕ → List (List ℕ) → ℕ → Run → Run
written_run n names room (refused c p) = refused c p
written_run n names room (going b s x y) = cond (ltb room (length (sheet_text n names s))) (refused 12 0) (going b s x y)

-- the sheet as text, or the line of the refusal
unfoldable pub run_text : ℕ → List (List ℕ) → Run → List ℕ
run_text n names (going b s x y) = sheet_text n names s
run_text n names (refused c p) = refusal_line c p

-- what is printed for the words of a text t for n relays, by a run that is still to be written
unfoldable pub run_printed : ℕ → List ℕ → ℕ → Run → List ℕ
run_printed n t room r = if_room room (run_text n (own_names t n) (written_run n (own_names t n) room r))

-- what the program prints: 13 first, then reading, learning and writing in turn
unfoldable pub printed : List ℕ → ℕ → ℕ → ℕ → ℕ → List ℕ
printed t listRoom bookRoom sheetRoom room =
    run_printed (read_answer t listRoom).n t room (run_if (reading_code t listRoom) (learned_run t listRoom bookRoom sheetRoom) (reading_place t listRoom))

-- what `run` ensures: the length and all bytes of the output, and every word of the list, the book and the sheet
pub record Runs (t list book sheet out list' book' sheet' out' : List ℕ) (r : ℕ) : Type 0 where
  pub long : r ≡ length (printed t (length list) (length book) (length sheet) (length out))
  pub bytes : out' ≡ written out 0 (printed t (length list) (length book) (length sheet) (length out))
  pub list_words : list' ≡ cond (is_too_long t) list (read_list t (length list))
  pub book_words : book' ≡ if_done (reading_code t (length list)) (run_book (length book) (learned_run t (length list) (length book) (length sheet))) book
  pub sheet_words : sheet' ≡ if_done (reading_code t (length list)) (run_sheet (length sheet) (learned_run t (length list) (length book) (length sheet))) sheet

-- what learning and writing alone leave: the words ts of the text t learned for n relays
pub record Sheets (n : ℕ) (t ts book sheet out book' sheet' out' : List ℕ) (r : ℕ) : Type 0 where
  pub long : r ≡ length (run_printed n t (length out) (learn_run n (length book) (length sheet) ts))
  pub bytes : out' ≡ written out 0 (run_printed n t (length out) (learn_run n (length book) (length sheet) ts))
  pub book_words : book' ≡ run_book (length book) (learn_run n (length book) (length sheet) ts)
  pub sheet_words : sheet' ≡ run_sheet (length sheet) (learn_run n (length book) (length sheet) ts)
