-- `sheet::Table::plant` meets its contract.
use mathlib.Core.Path.{refl, ◌∙◌}
use Prim.Native.Nat.{◌<◌}
use native.Mathlib.Omega.{arith}
use Rattle.sheet.proofs.Planting.{plant_start, plant_order, plant_room, plant_more}
use Rattle.sheet.proofs.Table.plant.Goals as goal

pub loop-v-init : goal.loop-v-init
loop-v-init c = record { same_reference = refl; holds = plant_start _ _ _ _ _ c.requires.1 }

pub plant_one-requires : goal.plant_one-requires
plant_one-requires c =
    let below : c.loop-v.v < c.args.n = omega arith in
    let now = c.loop-v.invariant.holds in
    (omega arith, c.requires.0, now.fits, plant_order _ _ _ _ _ _ _ _ _ now below c.requires.2, plant_room _ _ _ _ _ _ _ _ _ now below c.requires.2)

pub loop-v-preserved : goal.loop-v-preserved
loop-v-preserved c =
    let below : c.loop-v.v < c.args.n = omega arith in
    record {
      same_reference = c.plant_one.ensures.same_reference ∙ c.loop-v.invariant.same_reference;
      holds = plant_more _ _ _ _ _ _ _ _ _ c.loop-v.invariant.holds below c.requires.2 _ _ c.plant_one.ensures.holds;
    }
