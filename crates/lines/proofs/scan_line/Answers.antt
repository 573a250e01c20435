-- `lines::scan_line` meets its contract.
use Rattle.std.proofs.Common.{List, ℕ, ◌-◌, take, drop, ap, ◌∙◌}
use native.Mathlib.Nat.{zero-add}
use Rattle.fields.specs.Fields.{fields_in}
use Rattle.fields.specs.Texts.{body}
use Rattle.fields.proofs.TextLaws.{rest_is}
use Rattle.lines.specs.Lines.{line_of, of_fields, class_of, keep_line}
use Rattle.lines.proofs.LineLaws.{class_of_line}
use Rattle.lines.proofs.scan_line.Goals as goal

pub returns : goal.returns
unfolding line_of body
returns c =
    let end = c.run_end-c in
    let s = take end.result c.args.line.now in
    let r = c.field_at-first.result in
    c.unwrap_or.ensures ∙ c.classify.ensures
    ∙ ap (λ (z : List ℕ). keep_line (class_of (take (r.to - r.from) (drop r.from s)) (fields_in z))) (rest_is s r.to)
    ∙ ap keep_line (class_of_line s r c.field_at-first.ensures)
    ∙ ap (λ (n : ℕ). keep_line (of_fields (fields_in (take n c.args.line.now)))) (end.ensures.0 ∙ zero-add _)
