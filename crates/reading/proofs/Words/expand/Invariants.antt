-- The words of the matching states below `state` stand in the list.
use Prim.Native.Nat.{◌^◌, ◌≤◌}
use Rattle.reading.specs.Rows.{words_below}
use Rattle.reading.specs.Reading.{Adds}
use Rattle.std.proofs.Common.{Some}
use Rattle.reading.proofs.Words.expand.Given as goal

abbrev pub invariant-loop-state : goal.invariant-loop-state
invariant-loop-state l = record { in_panel : l.state ≤ 2 ^ l.m.width; so_far : Adds l.initial.self (words_below l.m l.state) l.self (Some tt) }
