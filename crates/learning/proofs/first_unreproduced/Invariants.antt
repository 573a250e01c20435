-- The words so far are reproduced, so those behind them decide.
use mathlib.Core.Path.{◌≡◌}
use Rattle.learning.specs.Learn.{reproduced}
use Rattle.learning.proofs.Ends.{reproduced_left}
use Rattle.learning.proofs.first_unreproduced.Given as goal

abbrev pub invariant-loop-k : goal.invariant-loop-k
invariant-loop-k l = reproduced l.n l.sheet l.book ≡ reproduced_left l.n l.sheet l.book l.k
