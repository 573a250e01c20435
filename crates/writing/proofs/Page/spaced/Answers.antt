-- `writing::Page::spaced` meets its contract.
use Rattle.writing.proofs.NameLines.{spacing_start, spacing_room, spacing_more, spacing_end, left_next, left_none}
use native.Mathlib.Omega.{arith}
use Rattle.writing.proofs.Page.spaced.Goals as goal

pub loop-name-init : goal.loop-name-init
loop-name-init c = rw (c.into_iter-name-iterator.ensures.into_iter_gives, c.each-name-items.ensures.items) (spacing_start _ _ (omega arith))

pub byte-requires : goal.byte-requires
byte-requires c =
    let e = left_next c.loop-name.name-iterator c.next.new.self _ c.in-Some.ensures.steps.0 c.in-Some.ensures.steps.1 in
    omega (arith, spacing_room _ _ _ _ _ _ e c.loop-name.invariant c.requires)

pub bytes-requires : goal.bytes-requires
bytes-requires c =
    let e = left_next c.loop-name.name-iterator c.next.new.self _ c.in-Some.ensures.steps.0 c.in-Some.ensures.steps.1 in
    omega (arith, spacing_room _ _ _ _ _ _ e c.loop-name.invariant c.requires)

pub loop-name-preserved : goal.loop-name-preserved
loop-name-preserved c =
    let e = left_next c.loop-name.name-iterator c.next.new.self _ c.in-Some.ensures.steps.0 c.in-Some.ensures.steps.1 in
    spacing_more _ _ _ _ _ _ e c.loop-name.invariant c.byte.ensures c.bytes.ensures

pub returns : goal.returns
returns c = spacing_end _ _ _ _ (left_none c.loop-name.name-iterator (λ h. (c.in-None.ensures.steps h).0)) c.loop-name.invariant
