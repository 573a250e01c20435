-- `writing::Names::each` meets its contract.
use Rattle.writing.proofs.NameLines.{spaced_most}
use native.Mathlib.Omega.{arith}
use Rattle.writing.proofs.Names.each.Goals as goal

pub returns-clause-few : goal.returns-clause-few
returns-clause-few c =
    rw (← c.self.view_is) (omega (arith, spaced_most c.self.inside.count c.self.inside.line.now))
