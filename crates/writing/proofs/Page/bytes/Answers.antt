-- `writing::Page::bytes` meets its contract.
use Rattle.writing.proofs.PutLaws.{wrote_none, wrote_next, wrote_byte}
use mathlib.Core.Path.{refl}
use native.Mathlib.Omega.{arith}
use lib.Seq.{length-take-le}
use Rattle.writing.proofs.Page.bytes.Goals as goal

pub loop-b-init : goal.loop-b-init
loop-b-init c = wrote_none _ (omega arith)

pub loop-b-preserved : goal.loop-b-preserved
loop-b-preserved c =
    let v = c.loop-b.invariant in
    wrote_next _ _ (omega arith) v (wrote_byte _ _ _ (omega (arith, c.requires, v.long, v.put.behind, length-take-le c.loop-b.b-index c.args.s.now (omega arith), c.loop-b-test.true)) refl refl refl)
