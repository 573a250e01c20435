-- Join: when it refuses, what it answers, and what it leaves in the two lent slices.
use Rattle.std.specs.Prelude.{◌≡◌, Bool, true, false, not, ◌&&◌, ◌||◌, List, ℕ, ◌≤◌, ltb, length, take}
use Rattle.table.specs.Surgery.{filled}
use Rattle.panel.specs.Masks.{panel_size}
use Rattle.prime.specs.Sheets.{good_sheet, join_sheet}
use Rattle.book.specs.Books.{good_book, clash, union}
use Rattle.answers.specs.Answers.{refuse, plain, done, if_done}
use Rattle.answers.specs.declared.Answer.{Answer}

-- ---- a piece of a recording

-- a piece as it is lent: the words of its book and of its sheet, and how many of them are in use
pub record Piece : Type 0 where
  pub book_words : List ℕ
  pub book_count : ℕ
  pub sheet_words : List ℕ
  pub sheet_count : ℕ

-- a piece made of its four parts
abbrev pub piece : List ℕ → ℕ → List ℕ → ℕ → Piece
piece book books sheet sheets = record { book_words = book; book_count = books; sheet_words = sheet; sheet_count = sheets }

-- the book in a piece: its words in use
abbrev pub book_in : Piece → List ℕ
book_in a = take a.book_count a.book_words

-- the sheet in a piece
abbrev pub sheet_in : Piece → List ℕ
sheet_in a = take a.sheet_count a.sheet_words

-- a count of the piece exceeds its slice
unfoldable pub exceeds : Piece → Bool
exceeds a = ltb (length a.book_words) a.book_count || ltb (length a.sheet_words) a.sheet_count

-- ---- the join of two pieces

-- the joined book: the union of the two
abbrev pub joined_book : Piece → Piece → List ℕ
joined_book a b = union (book_in a) (book_in b)

-- the joined sheet: for each head the smallest bodies that both sheets permit
abbrev pub joined_sheet : ℕ → Piece → Piece → List ℕ
joined_sheet n a b = join_sheet n (sheet_in a) (sheet_in b)

-- refuse what is wrong with the two pieces by themselves, in the order of the codes; else go on
unfoldable pub pieces_code : ℕ → Piece → Piece → ℕ → ℕ
pieces_code n a b later =
    refuse (not (panel_size n)) 2
    (refuse (exceeds a || exceeds b) 3
    (refuse (not (good_book n (book_in a) && good_book n (book_in b))) 4
    (refuse (not (good_sheet n (sheet_in a) && good_sheet n (sheet_in b))) 5
    later)))

-- the code, for slices with so much room for the book and for the sheet: the refusals in their order, or 0
unfoldable pub join_code : ℕ → Piece → Piece → ℕ → ℕ → ℕ
join_code n a b bookRoom sheetRoom =
    pieces_code n a b
    (refuse (clash (book_in a) (book_in b)) 7
    (refuse (ltb bookRoom (length (joined_book a b))) 8
    (refuse (ltb sheetRoom (length (joined_sheet n a b))) 9
    0)))

-- the answer: done, with the counts of the joined book and sheet; or the code with counts 0
unfoldable pub join_answer : ℕ → Piece → Piece → ℕ → ℕ → Answer
join_answer n a b bookRoom sheetRoom =
    if_done (join_code n a b bookRoom sheetRoom)
    (done (length (joined_book a b)) (length (joined_sheet n a b)) 0 0)
    (plain (join_code n a b bookRoom sheetRoom) 0 0 0)

-- the slice `book` afterwards: the joined book and 0 in every word beyond, or as it was
unfoldable pub book_after : ℕ → Piece → Piece → List ℕ → List ℕ → List ℕ
book_after n a b book sheet = if_done (join_code n a b (length book) (length sheet)) (filled (length book) (joined_book a b)) book

-- the slice `sheet` afterwards: the joined sheet and 0 in every word beyond, or as it was
unfoldable pub sheet_after : ℕ → Piece → Piece → List ℕ → List ℕ → List ℕ
sheet_after n a b book sheet = if_done (join_code n a b (length book) (length sheet)) (filled (length sheet) (joined_sheet n a b)) sheet

-- the words tab fill the slice s of `room` words, with 0 in every word beyond, and r is their number
pub record Fills (s : List ℕ) (r room : ℕ) (tab : List ℕ) : Type 0 where
  pub count : r ≡ length tab
  pub words : s ≡ filled room tab

-- what the call promises: its answer r, and the words of `book` and `sheet` at its end
pub record Joined (n : ℕ) (a b : Piece) (book sheet book' sheet' : List ℕ) (r : Answer) : Type 0 where
  pub answer : r ≡ join_answer n a b (length book) (length sheet)
  pub book_left : book' ≡ book_after n a b book sheet
  pub sheet_left : sheet' ≡ sheet_after n a b book sheet

-- ---- what code 0 says

-- both counts of the piece are within their slices, and its book and its sheet are good
pub record GoodPiece (n : ℕ) (a : Piece) : Type 0 where
  pub book_in_slice : a.book_count ≤ length a.book_words
  pub sheet_in_slice : a.sheet_count ≤ length a.sheet_words
  pub book_is_good : good_book n (book_in a) ≡ true
  pub sheet_is_good : good_sheet n (sheet_in a) ≡ true

-- the panel has 1 to 10 relays, and both pieces are good for it
pub record GoodPieces (n : ℕ) (a b : Piece) : Type 0 where
  pub size : panel_size n ≡ true
  pub left : GoodPiece n a
  pub right : GoodPiece n b

-- no state stands in the two books with another successor, and there is room for the joined book and sheet
pub record Joinable (n : ℕ) (a b : Piece) (bookRoom sheetRoom : ℕ) : Type 0 where
  pub pieces : GoodPieces n a b
  pub agree : clash (book_in a) (book_in b) ≡ false
  pub book_fits : length (joined_book a b) ≤ bookRoom
  pub sheet_fits : length (joined_sheet n a b) ≤ sheetRoom
