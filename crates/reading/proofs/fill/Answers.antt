-- `reading::fill` meets its contract: a turn puts the words of one line behind those of the lines before it.
use Rattle.reading.proofs.FillLaws.{adds_nothing, adds_next, fill_done, words_next, scanned_ok}
use Rattle.reading.specs.Rows.{line_words, lines_words, words_in}
use Rattle.std.proofs.Common.{rules}
use lib.ListN.{length, length-append}
use mathlib.Core.List.{[], ◌++◌, append-nil}
use mathlib.Core.Path.{◌≡◌, refl, sym, ◌∙◌, ap}
use native.Mathlib.Omega.{arith}
use Rattle.reading.proofs.fill.Goals as goal

pub loop-line-init : goal.loop-line-init
unfolding words_in
loop-line-init c = ([], adds_nothing _ (omega arith), rw (c.into_iter-line-iterator.ensures.into_iter_gives, c.new-line-items.ensures) refl)

pub line-requires : goal.line-requires
line-requires c =
    let a = c.loop-line.invariant.1 in
    (omega (arith, a.puts.fits, a.long), scanned_ok _ _ c.scan_line.ensures)

pub loop-line-preserved : goal.loop-line-preserved
loop-line-preserved c =
    let l = c.loop-line in
    let kind = c.args.kind in (
      l.invariant.0 ++ line_words kind c.scan_line.result,
      adds_next _ l.invariant.1 (rw c.in_ok-line.was at c.line.ensures),
      words_next kind l.invariant.0 _ _ _ _ _ c.in-Some.ensures.steps c.scan_line.ensures l.invariant.2,
    )

pub returns-in_err-line : goal.returns-in_err-line
returns-in_err-line c =
    let l = c.loop-line in
    let kind = c.args.kind in
    let a = adds_next _ l.invariant.1 (rw c.in_err-line.was at c.line.ensures) in
    let e = words_next kind l.invariant.0 _ _ _ _ _ c.in-Some.ensures.steps c.scan_line.ensures l.invariant.2 in
    rw c.from_residual.ensures (omega (arith, a.puts, ap length e, length-append (l.invariant.0 ++ line_words kind c.scan_line.result) (lines_words kind c.next.new.self)))

pub returns : goal.returns
unfolding lines_words
returns c =
    let l = c.loop-line in
    let e : l.invariant.0 ≡ words_in c.args.kind c.args.text.now = sym (append-nil l.invariant.0) ∙ rw c.in-None.ensures.steps.0 at l.invariant.2 in
    rw (← e) (fill_done refl refl l.invariant.1 (search rules))
