-- The number read so far, which is kept, goes on with the bytes left as the number of the field does.
use Rattle.std.proofs.Common.{◌≡◌, ◌≤◌, drop, Some}
use Rattle.fields.specs.Values.{digits, keep, number_of, most}
use Rattle.fields.proofs.read_number.Given as goal

abbrev pub invariant-loop-b : goal.invariant-loop-b
invariant-loop-b l = (l.n ≤ most) × (keep (digits (Some l.n) (drop l.b-index l.s)) ≡ keep (number_of l.s))
