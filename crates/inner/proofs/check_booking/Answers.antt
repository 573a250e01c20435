-- What the search found decides the refusal: the state's word is the transition or another, or the book has no room for one more.
use native.Mathlib.Omega.{arith}
use Rattle.inner.proofs.Booking.{booking_in, booking_same, booking_other, booking_full, booking_ok}
use Rattle.inner.proofs.check_booking.Goals as goal

pub offset_bounds-book-k : goal.offset_bounds-book-k
offset_bounds-book-k c = omega (arith, booking_in _ _ 0 c.args.book.now c.requires.1 c.requires.2 _ c.find_state.ensures _ c.in-Ok.is)

pub bounds-book-k : goal.bounds-book-k
bounds-book-k c = booking_in _ _ 0 c.args.book.now c.requires.1 c.requires.2 _ c.find_state.ensures _ c.in-Ok.is

pub returns-in-Ok : goal.returns-in-Ok
returns-in-Ok c = booking_same _ _ _ _ c.requires.1 c.requires.2 _ c.find_state.ensures _ c.in-Ok.is _ c.next_of.ensures c.if-next_of-j.true

pub returns-in-Ok-2 : goal.returns-in-Ok-2
returns-in-Ok-2 c = booking_other _ _ _ _ c.requires.1 c.requires.2 _ c.find_state.ensures _ c.in-Ok.is _ c.next_of.ensures c.if-next_of-j.false

pub returns-in-Err : goal.returns-in-Err
returns-in-Err c = booking_full _ _ _ _ c.requires.1 c.requires.2 _ c.find_state.ensures _ c.in-Err.is c.if-room-book.true

pub returns-in-Err-2 : goal.returns-in-Err-2
returns-in-Err-2 c = booking_ok _ _ _ _ c.requires.1 c.requires.2 _ c.find_state.ensures _ c.in-Err.is c.if-room-book.false
