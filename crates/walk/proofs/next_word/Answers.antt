-- `walk::next_word` meets its contract.
use native.Mathlib.Omega.{arith}
use Rattle.spans.proofs.Steps.{step_off, step_on, step_head, step_room}
use Rattle.walk.proofs.next_word.Goals as goal

pub overflow_sub-result : goal.overflow_sub-result
overflow_sub-result c = (step_room c.args.n _ (omega arith) c.requires.0 _ c.states-size.ensures.0 _ c.must_off-m.ensures _ c.must_on-p.ensures c.requires.1).0

pub overflow_add-result-then-m-p-2 : goal.overflow_add-result-then-m-p-2
overflow_add-result-then-m-p-2 c = let k = step_room c.args.n _ (omega arith) c.requires.0 _ c.states-size.ensures.0 _ c.must_off-m.ensures _ c.must_on-p.ensures c.requires.1 in
    omega (arith, k.0, k.3, k.4)

pub returns-then-m-p : goal.returns-then-m-p
returns-then-m-p c = step_off c.args.n _ (omega arith) c.requires.0 _ c.states-size.ensures.0 _ c.must_off-m.ensures _ c.must_on-p.ensures (omega arith)

pub overflow_sub-result-then-p-size : goal.overflow_sub-result-then-p-size
overflow_sub-result-then-p-size c = (step_room c.args.n _ (omega arith) c.requires.0 _ c.states-size.ensures.0 _ c.must_off-m.ensures _ c.must_on-p.ensures c.requires.1).0

pub overflow_add-result-then-p-size : goal.overflow_add-result-then-p-size
overflow_add-result-then-p-size c = let k = step_room c.args.n _ (omega arith) c.requires.0 _ c.states-size.ensures.0 _ c.must_off-m.ensures _ c.must_on-p.ensures c.requires.1 in
    omega (arith, k.0, k.3)

pub returns-then-p-size : goal.returns-then-p-size
returns-then-p-size c = step_on c.args.n _ (omega arith) c.requires.0 _ c.states-size.ensures.0 _ c.must_off-m.ensures _ c.must_on-p.ensures (omega arith) c.if-p-size.true

pub returns : goal.returns
returns c = step_head c.args.n _ (omega arith) c.requires.0 _ c.states-size.ensures.0 _ c.must_off-m.ensures _ c.must_on-p.ensures (omega arith) (omega arith) _ c.head_of.ensures
