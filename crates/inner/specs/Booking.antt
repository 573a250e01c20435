-- What stands in the way of a word where the input is known to be good: the book tells it, is against it or is full (1, 7, 8), or the new sheet is too large (9).
use Rattle.std.specs.Prelude.{List, ℕ, ltb, length, take}
use Rattle.prime.specs.Sheets.{take_sheet}
use Rattle.book.specs.Books.{told, against, with_word}
use Rattle.answers.specs.Answers.{refuse}

-- the transition is told already, it is against the book, the book with it is too long
unfoldable pub booking_code : ℕ → ℕ → List ℕ → ℕ
booking_code t room book = refuse (told t book) 1 (refuse (against t book) 7 (refuse (ltb room (length (with_word t book))) 8 0))

-- 9 exactly if the new sheet has more rules than its slice
unfoldable pub inner_code : ℕ → ℕ → List ℕ → ℕ → ℕ
inner_code n t sheet sheetCount = refuse (ltb (length sheet) (length (take_sheet n (take sheetCount sheet) t))) 9 0
