-- No room, call by call: 8, 9 or 12 is answered exactly when no earlier check applies and the stated count exceeds the room. `r` is the call's answer.
use Rattle.std.specs.Prelude.{◌≡◌, ◌⊎◌, ◌↔◌, Bool, true, false, not, List, [], ◌∷◌, ◌++◌, ℕ, ◌≤◌, ◌<◌, length, take}
use Rattle.panel.specs.Masks.{panel_size}
use Rattle.panel.specs.Transitions.{transition_word}
use Rattle.prime.specs.Sheets.{good_sheet, fresh_sheet, take_sheet, sheet_of}
use Rattle.book.specs.Books.{told, against, with_word, book_of, clash}
use Rattle.answers.specs.declared.Answer.{Answer}
use Rattle.calls.specs.Take.{given_code, entry_code}
use Rattle.joining.specs.Joining.{Piece, book_in, joined_book, joined_sheet, GoodPieces}
use Rattle.sessions.specs.declared.Session.{Session}
use Rattle.sessions.specs.Sessions.{totals_fit}
use Rattle.headers.specs.Layouts.{recording, sheet}
use Rattle.headers.specs.Accepted.{Accepted}
use Rattle.reading.specs.Rows.{text_words, sheet_words}
use Rattle.reading.specs.declared.ReadAnswer.{ReadAnswer}
use Rattle.naming.specs.Columns.{names_for}
use Rattle.writing.specs.SheetText.{sheet_text}
use Rattle.writing.specs.declared.WriteAnswer.{WriteAnswer}
use Rattle.program.specs.Program.{refusal_line}
use Rattle.handover.specs.Learning.{Learnable, Before, Agrees}
use Rattle.promises.specs.Printed.{Recorded, Prints}

-- ---- fresh, and the start of a session

-- 9: n is 1 to 10, and the fresh sheet has more rules than its slice
abbrev pub FreshNine : ℕ → List ℕ → Answer → Type 0
FreshNine n sheet r = (r.code ≡ 9) ↔ ((panel_size n ≡ true) × (length sheet < length (fresh_sheet n)))

-- ---- take, by itself and through a session

-- 8: none of 2 to 6 applies, nor 1 or 7, and the book with the transition needs more words than its slice
abbrev pub TakeEight : Bool → ℕ → List ℕ → ℕ → List ℕ → ℕ → ℕ → ℕ → Answer → Type 0
TakeEight spoilt n book bookCount sheet sheetCount i j r =
    (r.code ≡ 8) ↔ ((given_code spoilt n book bookCount sheet sheetCount i j ≡ 0) × (told (transition_word i j) (take bookCount book) ≡ false)
    × (against (transition_word i j) (take bookCount book) ≡ false) × (length book < length (with_word (transition_word i j) (take bookCount book))))

-- 9: none of 1 to 8 applies, and the sheet with the transition taken has more rules than its slice
abbrev pub TakeNine : Bool → ℕ → List ℕ → ℕ → List ℕ → ℕ → ℕ → ℕ → Answer → Type 0
TakeNine spoilt n book bookCount sheet sheetCount i j r =
    (r.code ≡ 9) ↔ ((entry_code spoilt n book bookCount sheet sheetCount i j ≡ 0) × (length sheet < length (take_sheet n (take sheetCount sheet) (transition_word i j))))

-- through a session: with its n and counts, and 3 also where its totals do not fit
abbrev pub SessionEight : Session → List ℕ → List ℕ → ℕ → ℕ → Answer → Type 0
SessionEight s book sheet i j r = TakeEight (not (totals_fit s)) s.n book s.book_count sheet s.sheet_count i j r

abbrev pub SessionNine : Session → List ℕ → List ℕ → ℕ → ℕ → Answer → Type 0
SessionNine s book sheet i j r = TakeNine (not (totals_fit s)) s.n book s.book_count sheet s.sheet_count i j r

-- ---- learn

-- nothing stops the words ps before word k of ts, which is w; it passes 6 and 7; and the book of the words up to it needs more words than its slice
pub record BookFull (n : ℕ) (ts : List ℕ) (bookRoom sheetRoom k : ℕ) : Type 0 where
  pub ps : List ℕ
  pub w : ℕ
  pub before : Before ts ps w k
  pub learned : Learnable n ps bookRoom sheetRoom
  pub agrees : Agrees n ps w
  pub many : bookRoom < length (book_of (ps ++ w ∷ []))

-- the same, but it passes 8 too, and the sheet of the words up to it has more rules than its slice
pub record SheetFull (n : ℕ) (ts : List ℕ) (bookRoom sheetRoom k : ℕ) : Type 0 where
  pub ps : List ℕ
  pub w : ℕ
  pub before : Before ts ps w k
  pub learned : Learnable n ps bookRoom sheetRoom
  pub agrees : Agrees n ps w
  pub book_fits : length (book_of (ps ++ w ∷ [])) ≤ bookRoom
  pub many : sheetRoom < length (sheet_of n (ps ++ w ∷ []))

-- 8, with place k
abbrev pub LearnEight : ℕ → List ℕ → ℕ → ℕ → Answer → Type 0
LearnEight n ts bookRoom sheetRoom r = (k : ℕ) → ((r.code ≡ 8) × (r.place ≡ k)) ↔ BookFull n ts bookRoom sheetRoom k

-- 9, with place k: for the fresh sheet, with place 0, or at word k
abbrev pub LearnNine : ℕ → List ℕ → ℕ → ℕ → Answer → Type 0
LearnNine n ts bookRoom sheetRoom r =
    (k : ℕ) → ((r.code ≡ 9) × (r.place ≡ k)) ↔ (((k ≡ 0) × (panel_size n ≡ true) × (sheetRoom < length (fresh_sheet n))) ⊎ SheetFull n ts bookRoom sheetRoom k)

-- ---- join

-- 8: none of 2 to 5 applies, nor 7, and the joined book needs more words than its slice
abbrev pub JoinEight : ℕ → Piece → Piece → List ℕ → List ℕ → Answer → Type 0
JoinEight n a b book sheet r = (r.code ≡ 8) ↔ (GoodPieces n a b × (clash (book_in a) (book_in b) ≡ false) × (length book < length (joined_book a b)))

-- 9: nor 8, and the joined sheet has more rules than its slice
abbrev pub JoinNine : ℕ → Piece → Piece → List ℕ → List ℕ → Answer → Type 0
JoinNine n a b book sheet r =
    (r.code ≡ 9) ↔ (GoodPieces n a b × (clash (book_in a) (book_in b) ≡ false) × (length (joined_book a b) ≤ length book) × (length sheet < length (joined_sheet n a b)))

-- ---- text

-- reading, 8: the layout is good, and the list read from the text needs more words than its slice
abbrev pub ReadEight : List ℕ → List ℕ → ReadAnswer → Type 0
ReadEight t list r = (r.code ≡ 8) ↔ (((n : ℕ) × Accepted recording n t) × (length list < length (text_words t)))

-- reading a sheet, 8: the layout is good, and the rows, as they are written, are more than the slice has words
abbrev pub SheetReadEight : List ℕ → List ℕ → ReadAnswer → Type 0
SheetReadEight t words r = (r.code ≡ 8) ↔ (((n : ℕ) × Accepted sheet n t) × (length words < length (sheet_words t)))

-- writing, 12: none of 2, 3 and 5 applies, and the written text is longer than its slice
abbrev pub WriteTwelve : ℕ → List ℕ → ℕ → List ℕ → List ℕ → List ℕ → WriteAnswer → Type 0
WriteTwelve n sheet count panel maker out r =
    (r.answer.code ≡ 12)
    ↔ ((panel_size n ≡ true) × (count ≤ length sheet) × (good_sheet n (take count sheet) ≡ true) × (length out < length (sheet_text n (names_for panel maker n) (take count sheet))))

-- ---- the program in its rooms, by the line that it prints

-- 8 at place k: neither 13 nor 11 applies, and the list read from the text needs more than 1,024 words; k is 0
abbrev pub RunEight : List ℕ → List ℕ → List ℕ → ℕ → Type 0
RunEight t out out' r =
    (k : ℕ) → Prints out out' r (refusal_line 8 k) ↔ ((k ≡ 0) × (length t ≤ 24576) × ((n : ℕ) × Accepted recording n t) × (1024 < length (text_words t)))

-- 9 at place k: the text is read, and learning comes to word k, with which the prime rules are more than 1,024
abbrev pub RunNine : List ℕ → List ℕ → List ℕ → ℕ → Type 0
RunNine t out out' r = (k : ℕ) → Prints out out' r (refusal_line 9 k) ↔ ((n : ℕ) × (ts : List ℕ) × Recorded t n ts × SheetFull n ts 1024 1024 k)

-- 12: never, as the longest text of 1,024 rules fits, with the longest names
abbrev pub RunTwelve : List ℕ → List ℕ → List ℕ → ℕ → Type 0
RunTwelve t out out' r = (k : ℕ) → Prints out out' r (refusal_line 12 k) → ⊥
