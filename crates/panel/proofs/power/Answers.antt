-- A shift of 1 is a power of 2.
use mathlib.Core.Path.{◌∙◌}
use native.Mathlib.Nat.{one-mul, le_trans, le_of_eq}
use lib.Dec.{lit<}
use lib.Pow.{shl_exact, pow_mono}
use native.Mathlib.Omega.{arith}
use Rattle.panel.proofs.power.Goals as goal

pub returns : goal.returns
returns c = let e = shl_exact {a = 1} 1 c.args.v 32 (lit< tt) (omega arith) ∙ one-mul _ in (e, le_trans (le_of_eq e) (pow_mono {j = 10} (omega arith)))
