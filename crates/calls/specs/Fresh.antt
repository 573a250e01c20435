-- Fresh: the answer and every word of the lent sheet, for all inputs.
use Rattle.std.specs.Prelude.{◌≡◌, not, List, ℕ, ltb, length}
use Rattle.table.specs.Surgery.{filled}
use Rattle.panel.specs.Masks.{panel_size}
use Rattle.prime.specs.Sheets.{fresh_sheet}
use Rattle.answers.specs.Answers.{refuse, plain, if_done}
use Rattle.answers.specs.declared.Answer.{Answer}

-- n is 1 to 10, and there is room for n rules
unfoldable pub fresh_code : ℕ → ℕ → ℕ
fresh_code n room = refuse (not (panel_size n)) 2 (refuse (ltb room n) 9 0)

-- n rules in the sheet; a refusal has counts 0
unfoldable pub fresh_answer : ℕ → List ℕ → Answer
fresh_answer n sheet = if_done (fresh_code n (length sheet)) (plain 0 0 0 n) (plain (fresh_code n (length sheet)) 0 0 0)

-- the fresh sheet and 0 beyond; a refusal changes no word
unfoldable pub fresh_words : ℕ → List ℕ → List ℕ
fresh_words n sheet = if_done (fresh_code n (length sheet)) (filled (length sheet) (fresh_sheet n)) sheet

-- what fresh does: its answer r, and the sheet before and after
pub record Fresh (n : ℕ) (sheet sheet' : List ℕ) (r : Answer) : Type 0 where
  pub answer : r ≡ fresh_answer n sheet
  pub words : sheet' ≡ fresh_words n sheet
