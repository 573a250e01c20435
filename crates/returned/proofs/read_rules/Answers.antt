-- `returned::read_rules` meets its contract: what the reading refuses stays, and the words in order are a good sheet or none.
use mathlib.Core.Path.{refl}
use Rattle.answers.proofs.Refusing.{code_not_none}
use Rattle.reading.proofs.ReadLaws.{read_err}
use Rattle.returned.proofs.SheetReadLaws.{rows_fit, rows_refused, size_few, read_good, read_no_good}
use Rattle.returned.specs.Returned.{ReadsSheet}
use Rattle.returned.proofs.read_rules.Goals as goal

pub returns-in_err-read-clause-read : goal.returns-in_err-read-clause-read
returns-in_err-read-clause-read c =
    let w = c.in_err-read.field-0.0 in
    read_err (λ list r. ReadsSheet c.args.text.now c.args.words.now list r) c.read_words.new.list w _ c.from_residual.ensures.1
    (rows_refused _ _ _ _ (rw c.sheet_layout.ensures at c.in_err-read.ensures.read) (code_not_none w.why))

pub of-requires : goal.of-requires
of-requires c =
    size_few _ _ _ _ _ c.in_ok-read.ensures.fits (rows_fit _ _ _ _ (rw c.sheet_layout.ensures at c.in_ok-read.ensures.read) refl)

pub returns-then-not-is_good_sheet-clause-read : goal.returns-then-not-is_good_sheet-clause-read
returns-then-not-is_good_sheet-clause-read c =
    rw c.from.ensures
    (read_no_good _ _ _ _ _ c.in_ok-read.ensures.fits (rows_fit _ _ _ _ (rw c.sheet_layout.ensures at c.in_ok-read.ensures.read) refl)
    _ c.order.ensures _ (rw c.of.ensures at c.is_good_sheet.ensures) c.if-not-is_good_sheet.true)

pub returns-clause-read : goal.returns-clause-read
returns-clause-read c =
    read_good _ _ _ _ _ c.in_ok-read.ensures.fits (rows_fit _ _ _ _ (rw c.sheet_layout.ensures at c.in_ok-read.ensures.read) refl)
    _ c.order.ensures _ (rw c.of.ensures at c.is_good_sheet.ensures) c.if-not-is_good_sheet.false
