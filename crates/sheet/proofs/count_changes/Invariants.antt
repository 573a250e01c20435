-- What the rules before this one strike and add is counted.
use Rattle.sheet.specs.Taking.{Tallying}
use Rattle.sheet.proofs.count_changes.Given as goal

abbrev pub invariant-loop-b : goal.invariant-loop-b
invariant-loop-b l = Tallying l.fn.n l.fn.t l.sheet l.b-index l.so.struck l.so.added
