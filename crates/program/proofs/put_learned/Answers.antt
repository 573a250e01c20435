-- `program::put_learned` meets its contract.
use Rattle.program.proofs.RunLaws.{learned_refused, written_refused, written_done}
use Rattle.program.proofs.put_learned.Goals as goal

pub returns-then-learned-ne0 : goal.returns-then-learned-ne0
returns-then-learned-ne0 c =
    learned_refused _ _ _ _ _ _ _ _ _ c.learn-learned.ensures c.if-learned-ne0.true _ _ c.put_refusal.ensures

pub returns-then-w-ne0 : goal.returns-then-w-ne0
returns-then-w-ne0 c =
    written_refused _ _ _ _ _ _ _ _ _ c.learn-learned.ensures c.if-learned-ne0.false _ _ c.write_sheet-w.ensures c.if-w-ne0.true _ _ c.put_refusal-then-w-ne0.ensures

pub returns : goal.returns
returns c =
    written_done _ _ _ _ _ _ _ _ _ c.learn-learned.ensures c.if-learned-ne0.false _ _ c.write_sheet-w.ensures c.if-w-ne0.false
