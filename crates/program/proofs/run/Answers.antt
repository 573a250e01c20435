-- `program::run` meets its contract.
use Rattle.program.proofs.RunLaws.{run_too_long, read_count, run_unread, run_learned}
use lib.Seq.{length-take-le}
use mathlib.Core.Path.{sym}
use native.Mathlib.Omega.{arith}
use Rattle.program.proofs.run.Goals as goal

pub returns-then-input-gt24576 : goal.returns-then-input-gt24576
returns-then-input-gt24576 c = run_too_long _ _ _ _ _ c.if-input-gt24576.true _ _ (rw c.code.ensures at c.put_refusal.ensures)

pub returns-then-read-ne0 : goal.returns-then-read-ne0
returns-then-read-ne0 c =
    run_unread _ _ _ _ _ c.if-input-gt24576.false _ _ c.read-read.ensures c.if-read-ne0.true _ _ c.put_refusal-then-read-ne0.ensures

pub slice_bounds-put_learned-end : goal.slice_bounds-put_learned-end
slice_bounds-put_learned-end c = omega (arith, read_count _ _ _ _ c.read-read.ensures)

pub slice_bounds-put_learned-end-2 : goal.slice_bounds-put_learned-end-2
slice_bounds-put_learned-end-2 c = sym (length-take-le _ _ (omega (arith, read_count _ _ _ _ c.read-read.ensures)))

pub returns : goal.returns
returns c =
    run_learned _ _ _ _ _ c.if-input-gt24576.false _ _ c.read-read.ensures c.if-read-ne0.false _ _ _ _ c.put_learned.ensures
