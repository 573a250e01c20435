-- The sum counts the names that the iterator does not have left.
use Prim.Native.Nat.{◌+◌}
use Rattle.names.specs.Names.{spaced}
use Rattle.writing.specs.Writing.{names_left}
use lib.ListN.{length}
use mathlib.Core.Path.{◌≡◌}
use Rattle.writing.proofs.Names.spaced_length.Given as goal

abbrev pub invariant-loop-name : goal.invariant-loop-name
invariant-loop-name l = l.sum + length (spaced (names_left l.name-iterator)) ≡ length (spaced l.self)
