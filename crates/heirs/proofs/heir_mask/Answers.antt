-- The mask of the heirs, as one expression.
use native.Mathlib.Omega.{arith}
use Rattle.heirs.proofs.Nearness.{heir_bits_but}
use Rattle.heirs.proofs.heir_mask.Goals as goal

pub returns : goal.returns
returns c =
    heir_bits_but c.args.n _ _ (omega arith) c.requires.0 c.requires.1 _ _ _ _ _ c.near_part-seen.ensures c.state_of.ensures c.free_relays-free.ensures c.relays_against-barred.ensures
