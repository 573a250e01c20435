-- `sheet::Table::replant` meets its contract.
use mathlib.Core.Path.{refl, subst, sym}
use Prim.Native.Nat.{ℕ, ◌<◌}
use native.Mathlib.Omega.{arith}
use lib.ListN.{get_or}
use Rattle.table.proofs.Tables.{removed_table, replaced_holds}
use Rattle.panel.proofs.Masks.{on_le}
use Rattle.panel.proofs.Candidates.{candidate_above}
use Rattle.sheet.proofs.Planting.{barren_done, swap_can, swap_done}
use Rattle.sheet.proofs.Table.replant.Goals as goal

pub returns-in_default : goal.returns-in_default
returns-in_default c =
    record {
      same_reference = refl;
      holds = barren_done _ _ _ _ _ _ _ c.in_default.ensures (removed_table _ _ _ _ c.requires.1 c.requires.2 c.requires.3 c.remove_at.ensures);
    }

pub replace_at-requires : goal.replace_at-requires
replace_at-requires c =
    (c.requires.1, c.requires.2, c.requires.3, subst (λ (k : ℕ). get_or c.args.self.now.words.now c.args.at 0 < k) (sym c.candidate_on-c.ensures) (candidate_above _ _ _))

pub overflow_sub-mask : goal.overflow_sub-mask
overflow_sub-mask c =
    let first = c.in-Some.ensures in
    omega (arith, c.power.ensures.0, on_le _ _ (first.1.on_here first.0))

pub plant-requires : goal.plant-requires
plant-requires c =
    let first = c.in-Some.ensures in
    let h = replaced_holds _ _ _ _ _ c.requires.1 c.requires.2 c.requires.3 c.replace_at.ensures in
    (c.requires.0, h.fits, swap_can _ _ _ _ _ _ _ _ _ _ first.1 first.0 c.candidate_on-c.ensures c.power.ensures.0 h c.requires.4)

pub returns : goal.returns
returns c =
    let first = c.in-Some.ensures in
    let h = replaced_holds _ _ _ _ _ c.requires.1 c.requires.2 c.requires.3 c.replace_at.ensures in
    record {
      same_reference = c.plant.ensures.same_reference;
      holds = swap_done _ _ _ _ _ _ _ _ _ _ first.1 first.0 c.candidate_on-c.ensures c.power.ensures.0 h _ _ c.plant.ensures.holds;
    }
