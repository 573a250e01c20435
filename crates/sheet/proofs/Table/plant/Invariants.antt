-- The table has the candidates on the relays of the mask below v.
use Rattle.table.specs.Lists.{insert_all}
use Rattle.heirs.specs.Heirs.{picked}
use Rattle.sheet.specs.Taking.{rules_of, Became}
use Rattle.sheet.proofs.Table.plant.Given as goal

abbrev pub invariant-loop-v : goal.invariant-loop-v
invariant-loop-v l = Became l.initial.self (insert_all (picked l.v l.mask l.b l.i) (rules_of l.initial.self)) l.self
