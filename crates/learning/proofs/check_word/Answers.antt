-- A word that is no transition of the panel is refused; else the book is asked for its state and successor.
use native.Mathlib.Omega.{arith}
use Rattle.learning.proofs.Words.{code_bad, code_asks, code_booking}
use Rattle.learning.proofs.check_word.Goals as goal

pub returns-then-not-is_transition : goal.returns-then-not-is_transition
returns-then-not-is_transition c = code_bad _ _ _ _ _ c.is_transition.ensures c.if-not-is_transition.true

pub check_booking-requires : goal.check_booking-requires
check_booking-requires c =
    code_asks c.args.n _ c.args.room c.args.book.now _ c.is_transition.ensures c.if-not-is_transition.false _ _ c.state_of.ensures c.next_of.ensures (omega arith) c.requires

pub returns : goal.returns
returns c =
    code_booking _ _ _ _ _ c.is_transition.ensures c.if-not-is_transition.false _ _ c.state_of.ensures c.next_of.ensures _ c.check_booking.ensures
