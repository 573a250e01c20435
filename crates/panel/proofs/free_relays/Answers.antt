-- The mask of the free relays, as one difference.
use mathlib.Core.Path.{refl}
use native.Mathlib.Omega.{arith}
use Rattle.panel.proofs.Near.{free_bits}
use Rattle.panel.proofs.free_relays.Goals as goal

pub returns : goal.returns
returns c = free_bits _ _ _ _ _ _ (omega arith) c.requires c.states.ensures.0 c.must_on.ensures c.must_off.ensures refl
