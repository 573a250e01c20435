-- `rulesheet::main` meets its contract: what the program writes lies within its output slice.
use lib.Seq.{length-take-le}
use mathlib.Core.Path.{sym}
use native.Mathlib.Omega.{arith}
use Rattle.program.proofs.Promises.{run_within}
use Rattle.rulesheet.proofs.main.Goals as goal

pub slice_bounds-output-end : goal.slice_bounds-output-end
slice_bounds-output-end c = omega (arith, run_within c.run-length.ensures)

pub slice_bounds-write_all-end : goal.slice_bounds-write_all-end
slice_bounds-write_all-end c = sym (length-take-le _ _ (omega (arith, run_within c.run-length.ensures)))
