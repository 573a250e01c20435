-- What the first check refuses is refused; what it lets pass is asked of the book.
use lib.Seq.{length-take-le}
use mathlib.Core.Path.{refl, sym}
use Rattle.answers.proofs.Refusing.{code_not_none}
use Rattle.book.proofs.Books.{book_e}
use Rattle.calls.proofs.Codes.{given_none}
use Rattle.calls.proofs.Ends.{entry_lent, entry_booking}
use Rattle.inner.proofs.Inner.{fits_ten, passed_on}
use Rattle.calls.proofs.check_entry.Goals as goal

pub returns-in_err-n-clause-code : goal.returns-in_err-n-clause-code
returns-in_err-n-clause-code c = rw (passed_on _ c.from_residual.ensures.1) (entry_lent _ _ _ _ _ _ _ _ _ c.in_err-n.ensures.code (code_not_none _))

pub slice_bounds-check_booking-end : goal.slice_bounds-check_booking-end
slice_bounds-check_booking-end c = sym (length-take-le _ _ (given_none _ _ _ _ _ _ _ _ (sym c.in_ok-n.ensures.code)).books_in)

pub check_booking-requires : goal.check_booking-requires
check_booking-requires c =
    let k = given_none _ _ _ _ _ _ _ _ (sym c.in_ok-n.ensures.code) in
    (fits_ten _ _ k.small k.state_lt, fits_ten _ _ k.small k.next_lt, (book_e _ _ k.book_is_good).rising)

pub returns-in_err-check_booking-clause-code : goal.returns-in_err-check_booking-clause-code
returns-in_err-check_booking-clause-code c =
    rw (passed_on _ c.from_residual-in_err-check_booking.ensures.1) (entry_booking _ _ _ _ _ _ _ _ _ _ c.in_ok-n.ensures.code refl c.in_err-check_booking.ensures)

pub returns-clause-code : goal.returns-clause-code
returns-clause-code c = entry_booking _ _ _ _ _ _ _ _ _ _ c.in_ok-n.ensures.code refl c.in_ok-check_booking.ensures
