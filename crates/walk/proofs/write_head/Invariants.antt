-- The words met so far stand over the front of `out`, and `at` is their number.
use mathlib.Core.Path.{◌≡◌}
use lib.ListN.{length}
use Rattle.spans.specs.Parts.{over}
use Rattle.walk.proofs.write_head.Given as goal

abbrev pub invariant-loop-w : goal.invariant-loop-w
invariant-loop-w l = record { written : l.out ≡ over l.yielded l.initial.out; place : l.at ≡ length l.yielded }
