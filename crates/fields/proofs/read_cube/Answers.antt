-- `fields::read_cube` meets its contract.
use Rattle.std.proofs.Common.{[], ◌∷◌, sym, ap, ◌∙◌, append-nil}
use Rattle.fields.specs.Values.{cube_of}
use Rattle.fields.proofs.ValueLaws.{cube_nil, cube_few, cube_before, cube_more, cube_none}
use Rattle.fields.proofs.read_cube.Goals as goal

pub loop-b-init : goal.loop-b-init
loop-b-init c = ([], rw append-nil cc, cube_nil)

pub column-requires : goal.column-requires
column-requires c =
    let at = c.loop-b.invariant in
    rw (← at.2) at (cube_few _ _ _ at.0 _ c.requires at.1 c.in-Some.ensures.steps)

pub returns-in_err-c : goal.returns-in_err-c
returns-in_err-c c =
    let at = c.loop-b.invariant in
    let none = c.in_err-c.ensures ∙ cube_more _ at.0 _ _ c.mark_of.ensures at.2 in
    c.from_residual.ensures ∙ sym (ap cube_of (cube_before _ _ _ at.0 _ at.1 c.in-Some.ensures.steps) ∙ cube_none _ _ (sym none))

pub loop-b-preserved : goal.loop-b-preserved
loop-b-preserved c =
    let at = c.loop-b.invariant in
    (c.in-Some.field-0.now ∷ at.0, cube_before _ _ _ at.0 _ at.1 c.in-Some.ensures.steps, c.in_ok-c.ensures ∙ cube_more _ at.0 _ _ c.mark_of.ensures at.2)
