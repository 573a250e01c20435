-- The names counted so far, and the fields that are left, which count on as the fields of the line do.
use Rattle.std.proofs.Common.{◌≡◌, ◌+◌, ◌≤◌, length}
use Rattle.fields.specs.Fields.{fields_in, fields_left}
use Rattle.names.specs.Names.{names_count}
use Rattle.names.proofs.NameLaws.{count_from}
use Rattle.names.proofs.names_count.Given as goal

abbrev pub invariant-loop-w : goal.invariant-loop-w
invariant-loop-w l = (l.count + length (fields_left l.left) ≤ length l.s) × (count_from l.count (fields_left l.left) ≡ names_count (fields_in l.s))

abbrev pub decreases-loop-w : goal.decreases-loop-w
decreases-loop-w l = length (fields_left l.left)
