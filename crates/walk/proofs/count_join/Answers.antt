use mathlib.Core.Path.{ap, ◌∙◌}
use native.Mathlib.Omega.{arith}
use lib.ListN.{length}
use Rattle.spans.proofs.Heads.{heads_more, heads_done}
use Rattle.spans.proofs.Joining.{join_permit, join_head}
use Rattle.walk.proofs.count_join.Goals as goal

pub loop-h-preserved : goal.loop-h-preserved
loop-h-preserved c = heads_more c.args.n (omega arith) _ _ _ _ _ (join_head c.args.n (omega arith) _ _ _ _ _ c.stretch.ensures c.stretch-in-loop-h.ensures) c.loop-h.invariant c.count_head-count.ensures.count c.count_head-count.ensures.few

pub returns : goal.returns
returns c = heads_done c.args.n (omega arith) _ _ _ c.loop-h.invariant (omega arith) (omega arith) ∙ ap length (join_permit _ _ _)
