-- None of the words passed narrows w.
use mathlib.Core.Path.{◌≡◌}
use Rattle.table.specs.Lists.{any}
use Rattle.panel.specs.Rules.{narrows}
use Rattle.prime.proofs.Passes.{narrowed_left}
use Rattle.prime.proofs.is_narrowed.Given as goal

abbrev pub invariant-loop-r : goal.invariant-loop-r
invariant-loop-r l = any (λ r. narrows r l.w) l.rest ≡ narrowed_left l.w l.rest l.r-index
