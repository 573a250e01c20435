-- `writing::Page::row` meets its contract.
use Rattle.writing.proofs.TextLaws.{wrote_row_text}
use Rattle.writing.proofs.Page.row.Goals as goal

pub returns : goal.returns
returns c = wrote_row_text _ _ _ _ c.columns.ensures c.byte.ensures c.columns-2.ensures c.byte-2.ensures
