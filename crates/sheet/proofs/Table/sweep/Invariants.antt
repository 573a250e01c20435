-- The rules in front of `at` are still to be visited, in the same lent words.
use mathlib.Core.Path.{◌≡◌}
use lib.ListN.{length}
use Rattle.sheet.specs.Taking.{swept, rules_of}
use Rattle.sheet.proofs.Sweeps.{Visiting}
use Rattle.sheet.proofs.Table.sweep.Given as goal

abbrev pub invariant-loop-at : goal.invariant-loop-at
invariant-loop-at l =
    (l.self.words.ghost_name ≡ l.initial.self.words.ghost_name)
    × Visiting l.all l.n l.t (length l.initial.self.words.now) (swept l.all l.n l.t l.initial.self.have (rules_of l.initial.self)) l.self.words.now l.self.have l.at
