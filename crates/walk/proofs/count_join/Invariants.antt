-- `count` is how many words the heads below h have.
use Prim.Native.Nat.{◌*◌}
use Rattle.prime.specs.Sheets.{sheet_where}
use Rattle.spans.specs.Touching.{both_permit}
use Rattle.spans.proofs.Walking.{Counted}
use Rattle.walk.proofs.count_join.Given as goal

abbrev pub invariant-loop-h : goal.invariant-loop-h
invariant-loop-h l = Counted (sheet_where l.n (both_permit l.a l.b)) 0 (l.h * 1048576) l.count
