-- `writing::write_named` meets its contract.
use Rattle.std.proofs.Common.{rules}
use Rattle.writing.proofs.PutLaws.{put_page}
use Rattle.writing.proofs.WriteLaws.{page_room, write_done}
use Rattle.writing.proofs.write_named.Goals as goal

pub table-requires : goal.table-requires
table-requires c =
    let page = c.new-page in
    page_room c.args.n c.args.names.now c.args.sheet.now c.args.count _ _ c.in_ok-rules.ensures.code c.in_ok-rules.ensures.rules page.result page.ensures.empty.0 page.ensures.empty.1

pub returns : goal.returns
returns c =
    let page = c.new-page in
    write_done c.args.n c.args.names.now c.args.sheet.now c.args.count _ _ c.in_ok-rules.ensures.code c.in_ok-rules.ensures.rules _ _
    (put_page page.ensures.empty.0 page.ensures.empty.1 c.table.ensures (search rules) c.length.ensures)
