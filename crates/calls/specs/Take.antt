-- Take: the answer and every word of the lent book and sheet, for all inputs.
use Rattle.std.specs.Prelude.{◌≡◌, Bool, not, ◌&&◌, ◌||◌, List, ℕ, ◌^◌, eqb, ltb, length, take}
use Rattle.table.specs.Surgery.{filled}
use Rattle.panel.specs.Masks.{panel_size}
use Rattle.panel.specs.Transitions.{transition_word}
use Rattle.prime.specs.Sheets.{good_sheet, take_sheet, struck_count, added_count}
use Rattle.book.specs.Books.{good_book, with_word}
use Rattle.answers.specs.Answers.{refuse, plain, done, if_done}
use Rattle.answers.specs.declared.Answer.{Answer}
use Rattle.inner.specs.Booking.{booking_code, inner_code}

-- the refusals 2 to 6; `spoilt` tells that a session's totals do not fit
unfoldable pub given_code : Bool → ℕ → List ℕ → ℕ → List ℕ → ℕ → ℕ → ℕ → ℕ
given_code spoilt n book bookCount sheet sheetCount i j =
    refuse (not (panel_size n)) 2
    (refuse (spoilt || (ltb (length book) bookCount || ltb (length sheet) sheetCount)) 3
    (refuse (not (good_book n (take bookCount book))) 4
    (refuse (not (good_sheet n (take sheetCount sheet))) 5
    (refuse (not (ltb i (2 ^ n) && ltb j (2 ^ n))) 6 0))))

-- the refusals before the new sheet is known
unfoldable pub entry_code : Bool → ℕ → List ℕ → ℕ → List ℕ → ℕ → ℕ → ℕ → ℕ
entry_code spoilt n book bookCount sheet sheetCount i j =
    refuse (not (eqb (given_code spoilt n book bookCount sheet sheetCount i j) 0)) (given_code spoilt n book bookCount sheet sheetCount i j)
    (booking_code (transition_word i j) (length book) (take bookCount book))

-- all refusals, in their order
unfoldable pub take_code : Bool → ℕ → List ℕ → ℕ → List ℕ → ℕ → ℕ → ℕ → ℕ
take_code spoilt n book bookCount sheet sheetCount i j =
    refuse (not (eqb (entry_code spoilt n book bookCount sheet sheetCount i j) 0)) (entry_code spoilt n book bookCount sheet sheetCount i j)
    (inner_code n (transition_word i j) sheet sheetCount)

-- the new counts, struck and added; a refusal or code 1 has the counts given
unfoldable pub take_answer : Bool → ℕ → List ℕ → ℕ → List ℕ → ℕ → ℕ → ℕ → Answer
take_answer spoilt n book bookCount sheet sheetCount i j =
    if_done (take_code spoilt n book bookCount sheet sheetCount i j)
    (done (length (with_word (transition_word i j) (take bookCount book))) (length (take_sheet n (take sheetCount sheet) (transition_word i j)))
    (struck_count (take sheetCount sheet) (take_sheet n (take sheetCount sheet) (transition_word i j)))
    (added_count (take sheetCount sheet) (take_sheet n (take sheetCount sheet) (transition_word i j))))
    (plain (take_code spoilt n book bookCount sheet sheetCount i j) 0 bookCount sheetCount)

-- the book with the transition, and 0 beyond; a refusal or code 1 changes no word
unfoldable pub take_book : Bool → ℕ → List ℕ → ℕ → List ℕ → ℕ → ℕ → ℕ → List ℕ
take_book spoilt n book bookCount sheet sheetCount i j =
    if_done (take_code spoilt n book bookCount sheet sheetCount i j) (filled (length book) (with_word (transition_word i j) (take bookCount book))) book

-- the new sheet, and 0 beyond; a refusal or code 1 changes no word
unfoldable pub take_words : Bool → ℕ → List ℕ → ℕ → List ℕ → ℕ → ℕ → ℕ → List ℕ
take_words spoilt n book bookCount sheet sheetCount i j =
    if_done (take_code spoilt n book bookCount sheet sheetCount i j) (filled (length sheet) (take_sheet n (take sheetCount sheet) (transition_word i j))) sheet

-- what take does: its answer r, and both slices before and after
pub record Taken (spoilt : Bool) (n : ℕ) (book : List ℕ) (bookCount : ℕ) (sheet : List ℕ) (sheetCount i j : ℕ) (book' sheet' : List ℕ) (r : Answer) : Type 0 where
  pub answer : r ≡ take_answer spoilt n book bookCount sheet sheetCount i j
  pub book_words : book' ≡ take_book spoilt n book bookCount sheet sheetCount i j
  pub sheet_words : sheet' ≡ take_words spoilt n book bookCount sheet sheetCount i j
