-- `names::same_fields` meets its contract.
use Rattle.std.proofs.Common.{List, ℕ, ap, ◌∙◌}
use Rattle.fields.specs.Fields.{fields_in, fields_left}
use Rattle.names.specs.Names.{same_fields}
use Rattle.names.proofs.NameLaws.{same_along}
use Rattle.names.proofs.same_fields.Goals as goal

pub returns : goal.returns
returns c =
    let d = c.eq.ensures.ran in
    same_along c.eq.result d.1 d.2 d.3 d.4 c.new.result d.5 d.0 d.6 d.8 d.9 d.10 d.11
    ∙ ap (λ (x : List (List ℕ)). same_fields x (fields_left d.0)) c.new.ensures
    ∙ ap (same_fields (fields_in c.args.a.now)) (ap fields_left d.7 ∙ c.new-2.ensures)
