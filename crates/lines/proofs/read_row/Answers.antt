-- `lines::read_row` meets its contract.
use Rattle.std.proofs.Common.{Some, None, refl, ◌∙◌}
use Rattle.lines.proofs.LineLaws.{row_apart, row_wide, row_read}
use Rattle.lines.proofs.read_row.Goals.{then-n-v-via-then-n-v, then-n-v-via-else-n-v+then-n-gt10}
use Rattle.lines.proofs.read_row.Goals as goal

pub returns-then-n-v : goal.returns-then-n-v
returns-then-n-v c =
    elim c.then-n-v.branch [ then-n-v-via-then-n-v w ↦ row_apart _ _ w.if-n-v.true | then-n-v-via-else-n-v+then-n-gt10 w ↦ row_wide _ _ w.if-n-gt10.true ]

pub returns-in_err-a : goal.returns-in_err-a
returns-in_err-a c = rw c.from_residual.ensures (row_read _ _ None _ c.if-n-v.false c.if-n-gt10.false c.in_err-a.ensures refl)

pub returns-in_err-b : goal.returns-in_err-b
returns-in_err-b c =
    rw c.from_residual-in_err-b.ensures (row_read _ _ (Some c.in_ok-a.a) None c.if-n-v.false c.if-n-gt10.false c.in_ok-a.ensures c.in_err-b.ensures)

pub returns : goal.returns
returns c =
    c.row_of.ensures ∙ row_read _ _ (Some c.in_ok-a.a) (Some c.in_ok-b.b) c.if-n-v.false c.if-n-gt10.false c.in_ok-a.ensures c.in_ok-b.ensures
