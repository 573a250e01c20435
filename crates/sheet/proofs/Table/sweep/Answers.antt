-- `sheet::Table::sweep` meets its contract.
use mathlib.Core.Path.{◌∙◌}
use Rattle.sheet.proofs.Sweeps.{visiting_can, visiting_more, visiting_end}
use Rattle.sheet.proofs.Table.sweep.Goals as goal

pub visit-requires : goal.visit-requires
visit-requires c = visiting_can _ _ _ _ _ _ _ _ c.loop-at.invariant.1 c.loop-at-test.true

pub loop-at-preserved : goal.loop-at-preserved
loop-at-preserved c =
    (c.visit.ensures.same_reference ∙ c.loop-at.invariant.0, visiting_more _ _ _ _ _ _ _ _ c.loop-at.invariant.1 c.loop-at-test.true _ _ c.visit.ensures.holds)

pub returns : goal.returns
returns c =
    record { same_reference = c.loop-at.invariant.0; holds = visiting_end _ _ _ _ _ _ _ _ c.loop-at.invariant.1 c.loop-at-test.false }
