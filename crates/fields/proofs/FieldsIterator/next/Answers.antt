-- `Fields` yields the first field, and leaves the others.
use Rattle.std.proofs.Common.{length, rules, arith, ap}
use Rattle.fields.proofs.FieldLaws.{first_none, first_some}
use Rattle.fields.proofs.FieldsIterator.next.Goals as goal

pub returns-then-is_empty-clause-steps : goal.returns-then-is_empty-clause-steps
returns-then-is_empty-clause-steps c = first_none _ _ c.field_at-from.ensures (search rules)

pub returns-else-is_empty-clause-steps : goal.returns-else-is_empty-clause-steps
returns-else-is_empty-clause-steps c = first_some _ _ c.field_at-from.ensures (search rules)

pub returns-else-is_empty-clause-goes : goal.returns-else-is_empty-clause-goes
returns-else-is_empty-clause-goes c =
    record { on = λ _. (tt, tt, omega (arith, ap length (first_some _ _ c.field_at-from.ensures (search rules)))); keeps = tt; rests = λ _. tt }
