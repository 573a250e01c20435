-- `names::field_number` meets its contract: what is left to count from the place reached is what was asked.
use Rattle.std.proofs.Common.{arith, ◌∙◌}
use Rattle.names.proofs.SpanLaws.{field_more, field_done}
use Rattle.names.proofs.field_number.Goals as goal

pub loop-preserved : goal.loop-preserved
loop-preserved c = (c.field_at-i.ensures.end_in, field_more _ _ _ _ _ c.field_at-i.ensures (omega arith) ∙ c.loop.invariant.1)

pub returns : goal.returns
returns c = field_done _ _ _ _ _ c.field_at.ensures (omega arith) c.loop.invariant.1
