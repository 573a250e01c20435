-- The refusals and their codes, and the code of what was asked: 0 where nothing refuses.
use Rattle.std.specs.Prelude.{ℕ, Result, Ok, Err}
use Rattle.answers.specs.declared.Refusal.{Refusal}
use Rattle.answers.specs.declared.Refusal.TheVariants.{Known, PanelSize, Counts, Book, Sheet, Word, Contradiction, BookRoom, SheetRoom, Unreproduced, Faulty, TextRoom, TooLong}

-- the code of a refusal
abbrev pub code_of : Refusal → ℕ
code_of Known = 1
code_of PanelSize = 2
code_of Counts = 3
code_of Book = 4
code_of Sheet = 5
code_of Word = 6
code_of Contradiction = 7
code_of BookRoom = 8
code_of SheetRoom = 9
code_of Unreproduced = 10
code_of Faulty = 11
code_of TextRoom = 12
code_of TooLong = 13

-- 0 where nothing refuses, else the refusal's code
abbrev pub refusal_code : {A : Type 0} → Result A Refusal → ℕ
refusal_code (Ok a) = 0
refusal_code (Err why) = code_of why
