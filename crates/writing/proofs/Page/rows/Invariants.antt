-- The rows of the words passed are written.
use Rattle.writing.specs.TableText.{column_byte, rows_text}
use Rattle.writing.specs.Writing.{Wrote}
use lib.ListN.{take}
use Rattle.writing.proofs.Page.rows.Given as goal

abbrev pub invariant-loop-w : goal.invariant-loop-w
invariant-loop-w l = Wrote l.initial.self (rows_text (column_byte l.ins) (column_byte l.outs) l.n (take l.w-index l.words)) l.self
