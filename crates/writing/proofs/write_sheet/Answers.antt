-- `writing::write_sheet` meets its contract.
use Rattle.writing.proofs.WriteLaws.{names_found, write_with}
use Rattle.writing.proofs.write_sheet.Goals as goal

pub returns : goal.returns
returns c =
    rw c.write_answer.ensures (write_with _ _ _ _ _ _ _ _ (names_found c.args.panel.now c.args.maker.now c.args.n c.name_line-line.result.now c.names_span-at.result c.name_line-line.ensures c.names_span-at.ensures) c.write_named.ensures)
