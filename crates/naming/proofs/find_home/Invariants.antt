-- The first `.ilb` line among the lines left is that of the text.
use mathlib.Core.Path.{◌≡◌}
use Rattle.naming.specs.Naming.{home_of}
use Rattle.naming.proofs.HomeLaws.{home_in}
use Rattle.naming.proofs.find_home.Given as goal

abbrev pub invariant-loop-at : goal.invariant-loop-at
invariant-loop-at l = home_in l.at-iterator ≡ home_of l.text
