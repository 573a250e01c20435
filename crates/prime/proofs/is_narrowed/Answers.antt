-- The loop begins with all the words left.
use Rattle.prime.proofs.Passes.{narrowed_start}
use Rattle.prime.proofs.is_narrowed.Goals as goal

pub loop-r-init : goal.loop-r-init
loop-r-init c = narrowed_start _ _
