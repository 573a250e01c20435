-- `writing::Page::rows` meets its contract.
use Rattle.writing.proofs.TextLaws.{no_rows, rows_room, wrote_row}
use Rattle.writing.specs.TableText.{column_byte}
use native.Mathlib.Omega.{arith}
use Rattle.writing.proofs.Page.rows.Goals as goal

pub loop-w-init : goal.loop-w-init
loop-w-init c = no_rows _ _ _ _ (omega arith)

pub row-requires : goal.row-requires
row-requires c =
    omega (arith, rows_room (column_byte c.args.ins) (column_byte c.args.outs) c.args.n c.args.words.now c.loop-w.w-index (omega arith))

pub loop-w-preserved : goal.loop-w-preserved
loop-w-preserved c = wrote_row _ _ _ _ _ (omega arith) c.loop-w.invariant c.row.ensures
