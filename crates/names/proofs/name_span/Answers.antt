-- `names::name_span` meets its contract.
use Rattle.names.proofs.SpanLaws.{name_at}
use Rattle.names.proofs.name_span.Goals as goal

pub returns : goal.returns
returns c =
    name_at c.args.line.now c.run_end-c.result c.args.column c.field_at-keyword.result _ c.run_end-c.ensures.0 c.run_end-c.ensures.1 c.field_at-keyword.ensures c.field_number.ensures
