-- `sheet::Table::plant_one` meets its contract.
use mathlib.Core.Path.{refl}
use Rattle.sheet.proofs.Planting.{one_room, one_done}
use Rattle.sheet.proofs.Table.plant_one.Goals as goal

pub insert_sorted-requires : goal.insert_sorted-requires
insert_sorted-requires c =
    (one_room _ _ _ _ c.is_on.ensures c.if-is_on.true _ c.requires.2 c.requires.4, c.requires.3)

pub returns-then-is_on : goal.returns-then-is_on
returns-then-is_on c =
    record {
      same_reference = refl;
      holds = one_done _ _ _ _ c.is_on.ensures c.if-is_on.true _ _ _ c.candidate_on-c.ensures (one_room _ _ _ _ c.is_on.ensures c.if-is_on.true _ c.requires.2 c.requires.4) c.insert_sorted.ensures;
    }
