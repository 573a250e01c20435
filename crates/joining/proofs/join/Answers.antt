-- Code 0 hands good pieces and room to the writing, and then both tables stand with 0 behind them; a refusal leaves both slices.
use Rattle.joining.proofs.Doing.{book_ready, sheet_ready, holds_fills, join_refused, join_done}
use Rattle.joining.proofs.join.Goals as goal

pub write_union-books-requires-clause-states_increase : goal.write_union-books-requires-clause-states_increase
write_union-books-requires-clause-states_increase c = let k = c.in-Ok.ensures in
    let ready = book_ready _ _ _ _ _ k.code _ _ k.books.0 k.books.1 in
    (ready.0, ready.1)

pub write_union-books-requires-clause-has_room : goal.write_union-books-requires-clause-has_room
write_union-books-requires-clause-has_room c = let k = c.in-Ok.ensures in (book_ready _ _ _ _ _ k.code _ _ k.books.0 k.books.1).2

pub write_join-sheets-requires : goal.write_join-sheets-requires
write_join-sheets-requires c = let k = c.in-Ok.ensures in
    let t = sheet_ready _ _ _ _ _ k.code _ _ k.sheets.0 k.sheets.1 in
    rw k.size (t.1, t.2, t.3)

pub returns-in-Ok : goal.returns-in-Ok
returns-in-Ok c = let k = c.in-Ok.ensures in
    join_done _ _ _ _ _ k.code _ _ _ _ k.books.0 k.books.1 k.sheets.0 k.sheets.1 _ _ _ _
    (holds_fills _ _ _ _ _ c.write_union-books.ensures.holds c.clear_from.ensures)
    (holds_fills _ _ _ _ _ (rw k.size at c.write_join-sheets.ensures.holds) c.clear_from-in-Ok.ensures) _ c.done_answer.ensures

pub returns-in-Err : goal.returns-in-Err
returns-in-Err c = join_refused _ _ _ _ _ c.in-Err.why c.in-Err.ensures.code _ c.refused.ensures
