-- Field number k - counter, counted from the place reached, is the field that was asked for.
use Rattle.std.proofs.Common.{◌≡◌, ◌≤◌, ◌-◌, length}
use Rattle.names.specs.Spans.{field_at}
use Rattle.names.proofs.field_number.Given as goal

abbrev pub invariant-loop : goal.invariant-loop
invariant-loop l = (l.i ≤ length l.s) × (field_at l.s l.i (l.k - l.counter) ≡ field_at l.s l.from l.k)
