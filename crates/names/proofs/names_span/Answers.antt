-- `names::names_span` meets its contract.
use Rattle.names.proofs.NameLaws.{names_at}
use Rattle.names.proofs.names_span.Goals as goal

pub returns : goal.returns
returns c =
    let args = c.args in
    names_at args.line.now c.run_end-c.result c.field_at-p.result c.run_end-c.ensures.0 c.run_end-c.ensures.1 c.field_at-p.ensures
