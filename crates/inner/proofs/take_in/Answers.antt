-- The new count is known before a word is written: it fits, or the call is refused and both slices stay.
use mathlib.Core.Path.{refl, sym}
use native.Mathlib.Omega.{arith}
use lib.Seq.{length-take-le}
use Rattle.inner.proofs.Inner.{count_is, added_few, sheets_few, inner_full, inner_room, inner_done}
use Rattle.inner.proofs.take_in.Goals as goal

pub slice_bounds-count_changes-end-2 : goal.slice_bounds-count_changes-end-2
slice_bounds-count_changes-end-2 c = sym (length-take-le _ _ c.requires.sheets_in)

pub overflow_add-sheet_count : goal.overflow_add-sheet_count
overflow_add-sheet_count c =
    omega (arith, added_few _ c.args.t _ _ c.args.sheet.now _ c.requires _ c.count_changes-change.ensures, sheets_few _ c.args.t _ _ c.args.sheet.now _ c.requires _ c.count_changes-change.ensures)

pub overflow_sub-sheet_count : goal.overflow_sub-sheet_count
overflow_sub-sheet_count c = omega (arith, count_is _ c.args.t _ _ c.args.sheet.now _ c.requires _ c.count_changes-change.ensures)

pub returns-then-sheet-sheet_count : goal.returns-then-sheet-sheet_count
returns-then-sheet-sheet_count c = inner_full _ _ _ _ _ _ c.requires _ c.count_changes-change.ensures _ refl c.if-sheet-sheet_count.true _ refl

pub put_word-requires : goal.put_word-requires
put_word-requires c =
    let ready = c.requires in
    record { may_come = (ready.books_in, ready.in_order, ready.untold); has_room = ready.room }

pub take_rules-requires : goal.take_rules-requires
take_rules-requires c =
    (c.requires.sheets_in, c.requires.sheet_is_good, inner_room _ _ _ _ _ _ c.requires _ c.count_changes-change.ensures _ refl c.if-sheet-sheet_count.false)

pub returns : goal.returns
returns c =
    inner_done _ _ _ _ _ _ c.requires _ c.count_changes-change.ensures _ refl c.if-sheet-sheet_count.false _ _ _ _ c.put_word.ensures c.take_rules.ensures _ refl
