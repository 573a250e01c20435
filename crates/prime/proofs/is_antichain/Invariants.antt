-- No rule before those that are left narrows another; the measure is how many are left.
use mathlib.Core.Path.{◌≡◌}
use mathlib.Core.Bool.{true}
use lib.ListN.{length}
use Rattle.table.specs.Lists.{increasing}
use Rattle.prime.specs.Sheets.{antichain}
use Rattle.prime.proofs.is_antichain.Given as goal

abbrev pub invariant-loop-left : goal.invariant-loop-left
invariant-loop-left l = (antichain l.sheet ≡ antichain l.left) × (increasing l.left ≡ true)

abbrev pub decreases-loop-left : goal.decreases-loop-left
decreases-loop-left l = length l.left
