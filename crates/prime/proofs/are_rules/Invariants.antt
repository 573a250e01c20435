-- The sheet is good so far exactly where the words that are left are rules that rise from `lo` on.
use mathlib.Core.Path.{◌≡◌}
use mathlib.Core.Bool.{◌&&◌}
use Rattle.table.specs.Lists.{all, increasing}
use Rattle.panel.specs.Rules.{valid_rule}
use Rattle.prime.proofs.Passes.{rules_left}
use Rattle.prime.proofs.are_rules.Given as goal

abbrev pub invariant-loop-w : goal.invariant-loop-w
invariant-loop-w l = (all (valid_rule l.n) l.sheet && increasing l.sheet) ≡ rules_left l.n l.lo l.sheet l.w-index
