-- What was seen so far, with the rules that are left, gives what the whole part gives.
use mathlib.Core.Path.{◌≡◌}
use lib.ListN.{drop}
use Rattle.heirs.specs.Heirs.{near_all}
use Rattle.heirs.proofs.near_part.Given as goal

abbrev pub invariant-loop-r : goal.invariant-loop-r
invariant-loop-r l = near_all l.b l.seen (drop l.r-index l.part) ≡ near_all l.b 0 l.part
