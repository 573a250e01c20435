use native.Mathlib.Omega.{arith}
use Rattle.spans.proofs.Steps.{spot_start}
use Rattle.walk.proofs.Rules.of_head.Goals as goal

pub invariant_of-result : goal.invariant_of-result
invariant_of-result c = record { small = omega arith; stands = spot_start _ _; inside = omega arith }
