-- The columns passed are written.
use Rattle.writing.specs.TableText.{columns, column_byte}
use Rattle.writing.specs.Writing.{Wrote}
use Rattle.writing.proofs.Page.columns.Given as goal

abbrev pub invariant-loop-v : goal.invariant-loop-v
invariant-loop-v l = Wrote l.initial.self (columns (column_byte l.c l.w) l.v) l.self
