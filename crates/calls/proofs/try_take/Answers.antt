-- A refusal leaves both slices, at the entry and where the new sheet has no room; else both hold the new tables, and 0 behind them.
use mathlib.Core.Path.{refl}
use Rattle.answers.proofs.Refusing.{code_not_none}
use Rattle.calls.proofs.Ends.{entry_known, entry_ready, take_refused, take_nine, book_fits, sheet_fits, take_done}
use Rattle.inner.proofs.Inner.{fits_ten, passed_on}
use Rattle.calls.proofs.try_take.Goals as goal

pub returns-in_err-n : goal.returns-in_err-n
returns-in_err-n c =
    rw (passed_on _ c.from_residual.ensures.1) (take_refused _ _ _ _ _ _ _ _ _ c.in_err-n.ensures.code (code_not_none _) _ refl)

pub transition_word-t-requires : goal.transition_word-t-requires
transition_word-t-requires c =
    let k = entry_known _ _ _ _ _ _ _ _ _ c.in_ok-n.ensures.code refl in
    (fits_ten _ _ k.small k.state_lt, fits_ten _ _ k.small k.next_lt)

pub take_in-requires : goal.take_in-requires
take_in-requires c = rw c.in_ok-n.ensures.size (entry_ready _ _ _ _ _ _ _ _ _ c.in_ok-n.ensures.code refl _ c.transition_word-t.ensures)

pub returns-in_err-done : goal.returns-in_err-done
returns-in_err-done c =
    rw (passed_on _ c.from_residual-in_err-done.ensures.1) (take_nine _ _ _ _ _ _ _ _ _ c.in_ok-n.ensures.code refl _ c.transition_word-t.ensures _ _ _ (rw c.in_ok-n.ensures.size at c.in_err-done.ensures) (code_not_none _))

pub clear_from-requires : goal.clear_from-requires
clear_from-requires c =
    book_fits _ _ _ _ _ _ _ _ _ c.in_ok-n.ensures.code refl _ c.transition_word-t.ensures _ _ _ (rw c.in_ok-n.ensures.size at c.in_ok-done.ensures) refl

pub clear_from-requires-2 : goal.clear_from-requires-2
clear_from-requires-2 c =
    sheet_fits _ _ _ _ _ _ _ _ _ c.in_ok-n.ensures.code refl _ c.transition_word-t.ensures _ _ _ (rw c.in_ok-n.ensures.size at c.in_ok-done.ensures) refl

pub returns : goal.returns
returns c =
    take_done _ _ _ _ _ _ _ _ _ c.in_ok-n.ensures.code refl _ c.transition_word-t.ensures _ _ _ (rw c.in_ok-n.ensures.size at c.in_ok-done.ensures) refl _ _ c.clear_from.ensures c.clear_from-2.ensures
