-- Answers: a code, a place, both counts, struck and added; and the order in which refusals are asked.
use Rattle.std.specs.Prelude.{ℕ, zero, suc, Bool, true, false}
use Rattle.answers.specs.declared.Answer.{Answer}

-- refuse with the code where the test passes, else go on
abbrev pub refuse : Bool → ℕ → ℕ → ℕ
refuse true code later = code
refuse false code later = later

-- an answer with a code, a place and both counts; struck and added are 0
abbrev pub plain : ℕ → ℕ → ℕ → ℕ → Answer
plain code place bookCount sheetCount = record { code = code; place = place; book_count = bookCount; sheet_count = sheetCount; struck = 0; added = 0 }

-- done: code 0 and place 0, with the new counts, struck and added
abbrev pub done : ℕ → ℕ → ℕ → ℕ → Answer
done bookCount sheetCount struck added = record { code = 0; place = 0; book_count = bookCount; sheet_count = sheetCount; struck = struck; added = added }

-- the first where the code is 0, else the second
abbrev pub if_done : {A : Type 0} → ℕ → A → A → A
if_done zero a b = a
if_done (suc c) a b = b
