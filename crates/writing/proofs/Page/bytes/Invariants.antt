-- The bytes passed are written.
use Rattle.writing.specs.Writing.{Wrote}
use lib.ListN.{take}
use Rattle.writing.proofs.Page.bytes.Given as goal

abbrev pub invariant-loop-b : goal.invariant-loop-b
invariant-loop-b l = Wrote l.initial.self (take l.b-index l.s) (record { out = l.self.out; at = l.at })
