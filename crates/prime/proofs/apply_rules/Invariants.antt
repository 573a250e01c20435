-- `on` is what the rules passed so far make of the state.
use mathlib.Core.Path.{◌≡◌}
use lib.ListN.{take}
use Rattle.prime.specs.Sheets.{apply_sheet}
use Rattle.prime.proofs.apply_rules.Given as goal

abbrev pub invariant-loop-w : goal.invariant-loop-w
invariant-loop-w l = l.on ≡ apply_sheet l.fn.n (take l.w-index l.sheet) l.x
