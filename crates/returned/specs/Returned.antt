-- What reading a sheet answers, and what it leaves in the words.
use Rattle.std.specs.Prelude.{ℕ, ◌≡◌, List, cond, leb, length, replicate, Ok, Err}
use Rattle.table.specs.Surgery.{filled}
use Rattle.prime.specs.Sheets.{good_sheet}
use Rattle.headers.specs.Layouts.{sheet}
use Rattle.headers.specs.Verdicts.{judge_of}
use Rattle.headers.specs.Verdicts.{Verdict}
use Rattle.reading.specs.Rows.{sheet_words}
use Rattle.reading.specs.Reading.{refusal}
use Rattle.reading.specs.declared.ReadAnswer.{ReadAnswer}
use Rattle.sorting.specs.Orders.{sorted}

-- 11 with its place; else 8 if the rows are more than the room; else 5 if the words in order are no good sheet; else done
abbrev pub sheet_answer_for : Verdict → List ℕ → ℕ → ReadAnswer
sheet_answer_for (Err place) ws room = refusal 11 place
sheet_answer_for (Ok n) ws room =
    cond (leb (length ws) room) (cond (good_sheet n (sorted ws)) (record { code = 0; place = 0; n = n; count = length ws }) (refusal 5 0)) (refusal 8 0)

-- the words in order, and 0 in every word beyond them; all 0 where refused
abbrev pub sheet_list_for : Verdict → List ℕ → ℕ → List ℕ
sheet_list_for (Err place) ws room = replicate room 0
sheet_list_for (Ok n) ws room = cond (leb (length ws) room) (cond (good_sheet n (sorted ws)) (filled room (sorted ws)) (replicate room 0)) (replicate room 0)

-- the answer to a sheet text, with room for so many words
unfoldable pub sheet_answer : List ℕ → ℕ → ReadAnswer
sheet_answer t room = sheet_answer_for (judge_of sheet t) (sheet_words t) room

-- the words after it
unfoldable pub sheet_list : List ℕ → ℕ → List ℕ
sheet_list t room = sheet_list_for (judge_of sheet t) (sheet_words t) room

-- what `read_sheet` ensures: the text, the words before and after, and the answer
pub record ReadsSheet (t before after : List ℕ) (r : ReadAnswer) : Type 0 where
  pub answer : r ≡ sheet_answer t (length before)
  pub words : after ≡ sheet_list t (length before)
