-- Apply: what is known where nothing is refused, and its answer.
use mathlib.Core.Path.{◌≡◌, refl, sym, ap, ap₂, ◌∙◌}
use mathlib.Core.Bool.{true, not, ◌&&◌}
use mathlib.Core.List.{List}
use Prim.Native.Nat.{ℕ, zero, suc, ◌≤◌}
use lib.Dec.{ltb}
use lib.ListN.{length, take}
use borrow.Author.Tests.{ltb-false, not-false}
use Rattle.table.specs.Lists.{all, increasing}
use Rattle.table.proofs.Basics.{and_l}
use Rattle.panel.specs.Masks.{panel_size}
use Rattle.panel.specs.Rules.{valid_rule}
use Rattle.prime.specs.Sheets.{good_sheet, antichain, apply_sheet}
use Rattle.answers.specs.Answers.{plain, if_done}
use Rattle.answers.specs.declared.Answer.{Answer}
use Rattle.answers.proofs.Laws.{refuse_none}
use Rattle.calls.specs.Apply.{apply_code, apply_answer}
use Rattle.calls.specs.declared.Applied.{Applied}
use Rattle.calls.proofs.Codes.{size_of}

-- what is known where nothing refused
pub apply_none : (n : ℕ) (sheet : List ℕ) (sheetCount x c : ℕ) → c ≡ apply_code n sheet sheetCount x → c ≡ 0 → (n ≤ 10) × (sheetCount ≤ length sheet) × (all (valid_rule n) (take sheetCount sheet) ≡ true)
unfolding apply_code good_sheet
apply_none n sheet sheetCount x c ec e =
    let a = refuse_none (not (panel_size n)) 1 _ (sym ec ∙ e) in
    let b = refuse_none (ltb (length sheet) sheetCount) 2 _ a.1 in
    let d = refuse_none (not (good_sheet n (take sheetCount sheet))) 4 _ b.1 in
    ((size_of n (not-false (panel_size n) a.0)).1, ltb-false (length sheet) sheetCount b.0, and_l (all (valid_rule n) (take sheetCount sheet)) (increasing (take sheetCount sheet) && antichain (take sheetCount sheet)) (not-false (good_sheet n (take sheetCount sheet)) d.0))

both : Answer → ℕ → Applied
both r y = record { answer = r; state = y }

module _ (n : ℕ) (sheet : List ℕ) (sheetCount x c : ℕ) (ec : c ≡ apply_code n sheet sheetCount x) (r : Answer) where
  pub apply_refused : (c ≡ 0 → ⊥) → r ≡ plain c 0 0 0 → record { answer = r; state = 0 } ≡ apply_answer n sheet sheetCount x
  unfolding apply_answer both
  apply_refused f er = ap₂ both (er ∙ ap (λ (k : ℕ). plain k 0 0 0) ec) (sym (none (apply_code n sheet sheetCount x) (λ q. f (ec ∙ q))))
    where
      none : (k : ℕ) → (k ≡ 0 → ⊥) → if_done k (apply_sheet n (take sheetCount sheet) x) 0 ≡ 0
      none zero g = absurd (g refl)
      none (suc k) g = refl

  pub apply_done : c ≡ 0 → r ≡ plain 0 0 0 0 → (y : ℕ) → y ≡ apply_sheet n (take sheetCount sheet) x → record { answer = r; state = y } ≡ apply_answer n sheet sheetCount x
  unfolding apply_answer both
  apply_done e er y ey =
      ap₂ both (er ∙ ap (λ (k : ℕ). plain k 0 0 0) (sym e ∙ ec)) (ey ∙ ap (λ (k : ℕ). if_done k (apply_sheet n (take sheetCount sheet) x) 0) (sym e ∙ ec))
