-- The words of the heads below h stand over the front of `out`, and `at` is their number.
use Prim.Native.Nat.{◌*◌}
use Rattle.prime.specs.Sheets.{sheet_where}
use Rattle.spans.specs.Touching.{both_permit}
use Rattle.spans.proofs.Walking.{Written}
use Rattle.walk.proofs.write_join.Given as goal

abbrev pub invariant-loop-h : goal.invariant-loop-h
invariant-loop-h l = Written (sheet_where l.n (both_permit l.a l.b)) 0 (l.h * 1048576) l.initial.out l.out l.at
