-- `writing::Page::name_lines` meets its contract.
use Rattle.writing.proofs.NameLines.{lines_parts, wrote_no_lines, wrote_lines}
use native.Mathlib.Omega.{arith}
use Rattle.writing.proofs.Page.name_lines.Goals as goal

pub returns-then-spaced_length-eq0 : goal.returns-then-spaced_length-eq0
returns-then-spaced_length-eq0 c =
    wrote_no_lines c.args.names.now _ c.spaced_length.ensures _ c.if-spaced_length-eq0.true (omega arith)

pub names-requires : goal.names-requires
names-requires c =
    omega (arith, lines_parts c.args.names.now _ c.spaced_length.ensures c.if-spaced_length-eq0.false)

pub names-requires-2 : goal.names-requires-2
names-requires-2 c =
    omega (arith, lines_parts c.args.names.now _ c.spaced_length.ensures c.if-spaced_length-eq0.false)

pub returns : goal.returns
returns c =
    wrote_lines c.args.names.now _ c.spaced_length.ensures c.if-spaced_length-eq0.false c.names.ensures c.names-2.ensures
