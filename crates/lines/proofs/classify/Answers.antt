-- `lines::classify` meets its contract.
use Rattle.std.proofs.Common.{Option, ap, sym, ◌∙◌}
use Rattle.fields.specs.Fields.{fields_in}
use Rattle.lines.specs.declared.Key.{Key}
use Rattle.lines.specs.Lines.{key_line, keep_line}
use Rattle.lines.proofs.LineLaws.{class_none, class_start, row_line_lem, start_row, start_fault}
use Rattle.lines.proofs.classify.Goals as goal

pub returns-in_default : goal.returns-in_default
returns-in_default c = class_none _ _ c.in_default.ensures.value

pub returns-in-Digit : goal.returns-in-Digit
returns-in-Digit c =
    row_line_lem c.args.rest.now _ c.only.ensures _ _ c.read_row.ensures
    ∙ ap keep_line (sym (class_start _ _ _ _ c.in-Some.ensures.value c.mark_of.ensures ∙ start_row _ _ _ c.in-Digit.is))

pub returns-in_err-key_of-in-Dot : goal.returns-in_err-key_of-in-Dot
returns-in_err-key_of-in-Dot c =
    rw (c.from_residual.ensures, class_start _ _ _ _ c.in-Some.ensures.value c.mark_of.ensures, c.in-Dot.is)
    (ap (λ (k : Option Key). keep_line (key_line k (fields_in c.args.rest.now))) c.in_err-key_of-in-Dot.ensures)

pub returns-in_ok-key_of-in-Dot : goal.returns-in_ok-key_of-in-Dot
returns-in_ok-key_of-in-Dot c =
    rw (class_start _ _ _ _ c.in-Some.ensures.value c.mark_of.ensures, c.in-Dot.is)
    (c.key_line.ensures ∙ ap (λ (k : Option Key). keep_line (key_line k (fields_in c.args.rest.now))) c.in_ok-key_of-in-Dot.ensures)

pub returns-in_default-mark_of : goal.returns-in_default-mark_of
returns-in_default-mark_of c =
    rw (class_start _ _ _ _ c.in-Some.ensures.value c.mark_of.ensures)
    (start_fault _ _ _ c.in_default-mark_of.not-Digit c.in_default-mark_of.not-Dash c.in_default-mark_of.not-Dot)
