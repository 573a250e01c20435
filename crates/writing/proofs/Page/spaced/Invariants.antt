-- The names that the iterator does not have left are written.
use Rattle.writing.specs.Writing.{names_left}
use Rattle.writing.proofs.NameLines.{Spacing}
use Rattle.writing.proofs.Page.spaced.Given as goal

abbrev pub invariant-loop-name : goal.invariant-loop-name
invariant-loop-name l = Spacing l.initial.self l.names l.self (names_left l.name-iterator)
