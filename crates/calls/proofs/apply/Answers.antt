-- A refusal has the state 0; else the sheet gives it.
use mathlib.Core.Path.{refl, sym}
use lib.Seq.{length-take-le}
use Rattle.answers.proofs.Refusing.{code_not_none}
use Rattle.calls.proofs.Applying.{apply_none, apply_refused, apply_done}
use Rattle.calls.proofs.apply.Goals as goal

pub returns-in-Err : goal.returns-in-Err
returns-in-Err c = apply_refused _ _ _ _ _ c.in-Err.ensures.code _ (code_not_none _) c.refused.ensures

pub slice_bounds-apply_rules-end : goal.slice_bounds-apply_rules-end
slice_bounds-apply_rules-end c =
    sym (length-take-le _ _ (apply_none _ c.args.sheet.now _ c.args.x _ c.in-Ok.ensures.code refl).1)

pub apply_rules-requires : goal.apply_rules-requires
apply_rules-requires c = rw c.in-Ok.ensures.size (apply_none _ c.args.sheet.now _ c.args.x _ c.in-Ok.ensures.code refl).2

pub returns-in-Ok : goal.returns-in-Ok
returns-in-Ok c = apply_done _ _ _ _ _ c.in-Ok.ensures.code _ refl c.done_answer.ensures _ (rw c.in-Ok.ensures.size at c.apply_rules.ensures)
