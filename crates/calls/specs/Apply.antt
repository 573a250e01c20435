-- Apply: the answer and the state, for all inputs.
use Rattle.std.specs.Prelude.{not, List, ℕ, ◌^◌, ltb, length, take}
use Rattle.panel.specs.Masks.{panel_size}
use Rattle.prime.specs.Sheets.{good_sheet, apply_sheet}
use Rattle.answers.specs.Answers.{refuse, plain, if_done}
use Rattle.calls.specs.declared.Applied.{Applied}

unfoldable pub apply_code : ℕ → List ℕ → ℕ → ℕ → ℕ
apply_code n sheet sheetCount x =
    refuse (not (panel_size n)) 2
    (refuse (ltb (length sheet) sheetCount) 3
    (refuse (not (good_sheet n (take sheetCount sheet))) 5
    (refuse (not (ltb x (2 ^ n))) 6 0)))

-- counts 0 always; the state that the sheet gives, 0 where refused
unfoldable pub apply_answer : ℕ → List ℕ → ℕ → ℕ → Applied
apply_answer n sheet sheetCount x =
    record { answer = plain (apply_code n sheet sheetCount x) 0 0 0; state = if_done (apply_code n sheet sheetCount x) (apply_sheet n (take sheetCount sheet) x) 0 }
