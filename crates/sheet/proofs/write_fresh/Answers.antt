-- `sheet::write_fresh` meets its contract.
use native.Mathlib.Omega.{arith}
use Rattle.sheet.proofs.Fresh.{fresh_start, fresh_more}
use Rattle.sheet.proofs.write_fresh.Goals as goal

pub loop-h-init : goal.loop-h-init
loop-h-init c = fresh_start _

pub loop-h-preserved : goal.loop-h-preserved
loop-h-preserved c = rw c.rule_word.ensures (fresh_more _ _ _ (omega arith) c.loop-h.invariant)
