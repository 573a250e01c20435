-- `writing::Page::table` meets its contract.
use Rattle.writing.proofs.TextLaws.{wrote_table_text}
use Rattle.writing.proofs.Page.table.Goals as goal

pub returns : goal.returns
returns c =
    let a = c.args in
    wrote_table_text a.t _ a.n a.names.now a.words.now c.header.ensures c.header-2.ensures c.name_lines.ensures c.type_line.ensures c.count_line.ensures c.rows.ensures c.bytes.ensures
