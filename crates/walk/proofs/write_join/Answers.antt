use mathlib.Core.Path.{ap, subst}
use Prim.Native.Nat.{◌-◌, ◌<◌}
use native.Mathlib.Omega.{arith}
use lib.ListN.{length, drop, length-drop}
use lib.Seq.{take_all}
use Rattle.spans.specs.Parts.{Laid}
use Rattle.spans.proofs.Overwriting.{put_over}
use Rattle.spans.proofs.Walking.{written_start}
use Rattle.spans.proofs.Heads.{heads_room, heads_written, heads_laid}
use Rattle.spans.proofs.Joining.{join_permit, join_room, join_head}
use Rattle.walk.proofs.write_join.Goals as goal

pub loop-h-init : goal.loop-h-init
loop-h-init c = written_start c.args.n (omega arith) _ 0 _

pub write_head-at-requires : goal.write_head-at-requires
write_head-at-requires c =
    let below : c.loop-h.h < c.args.n = omega arith in
    let out = c.loop-h.out in
    let at = c.loop-h.at in
    let found = join_head c.args.n (omega arith) _ _ _ _ _ c.stretch.ensures c.stretch-in-loop-h.ensures in
    let room = heads_room c.args.n (omega arith) _ _ below _ _ _ c.loop-h.invariant (join_room _ _ _ _ c.requires.2) _ found in
    (below, omega (arith, room, length-drop at out, ap length (take_all (length out - at) (drop at out) (omega (arith, length-drop at out)))))

pub overflow_add-at : goal.overflow_add-at
overflow_add-at c =
    let below : c.loop-h.h < c.args.n = omega arith in
    let found = join_head c.args.n (omega arith) _ _ _ _ _ c.stretch.ensures c.stretch-in-loop-h.ensures in
    omega (arith, c.write_head-at.ensures.count, heads_room c.args.n (omega arith) _ _ below _ _ _ c.loop-h.invariant (join_room _ _ _ _ c.requires.2) _ found)

pub loop-h-preserved : goal.loop-h-preserved
loop-h-preserved c =
    let below : c.loop-h.h < c.args.n = omega arith in
    let found = join_head c.args.n (omega arith) _ _ _ _ _ c.stretch.ensures c.stretch-in-loop-h.ensures in
    heads_written c.args.n (omega arith) _ _ below _ _ _ c.loop-h.invariant (join_room _ _ _ _ c.requires.2) _ found _ _
    (put_over c.loop-h.at c.loop-h.out _ _ (omega arith) c.write_head-at.ensures.written) c.write_head-at.ensures.count

pub returns : goal.returns
returns c =
    subst (Laid _ _ _) (join_permit _ _ _)
    (heads_laid c.args.n (omega arith) _ _ _ _ _ c.loop-h.invariant (join_room _ _ _ _ c.requires.2) (omega arith) (omega arith))
