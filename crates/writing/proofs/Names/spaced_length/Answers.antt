-- `writing::Names::spaced_length` meets its contract.
use Rattle.writing.proofs.NameLines.{left_next, left_none, spaced_count, spaced_end}
use native.Mathlib.Omega.{arith}
use Rattle.writing.proofs.Names.spaced_length.Goals as goal

pub overflow_add-sum-in-loop-name : goal.overflow_add-sum-in-loop-name
overflow_add-sum-in-loop-name c =
    let e = left_next c.loop-name.name-iterator c.next.new.self _ c.in-Some.ensures.steps.0 c.in-Some.ensures.steps.1 in
    omega (arith, spaced_count _ _ _ e)

pub loop-name-preserved : goal.loop-name-preserved
loop-name-preserved c =
    let e = left_next c.loop-name.name-iterator c.next.new.self _ c.in-Some.ensures.steps.0 c.in-Some.ensures.steps.1 in
    omega (arith, spaced_count _ _ _ e)

pub returns : goal.returns
returns c =
    let e = left_none c.loop-name.name-iterator (λ h. (c.in-None.ensures.steps h).0) in
    omega (arith, spaced_end _ e)
