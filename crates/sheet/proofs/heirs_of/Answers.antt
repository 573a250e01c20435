-- `sheet::heirs_of` meets its contract.
use native.Mathlib.Omega.{arith}
use Rattle.sheet.proofs.Stretch.{head_small, stretch_heads, stretch_heirs}
use Rattle.sheet.proofs.heirs_of.Goals as goal

pub stretch-part-requires : goal.stretch-part-requires
stretch-part-requires c = (head_small c.args.n _ _ (omega arith) c.requires.1 c.head_of.ensures, c.requires.0)

pub heir_mask-requires : goal.heir_mask-requires
heir_mask-requires c = (c.requires.1, c.requires.2, stretch_heads _ _ _ _ c.head_of.ensures c.stretch-part.ensures)

pub returns : goal.returns
returns c = stretch_heirs c.args.n _ _ _ _ _ (omega arith) c.requires.1 c.head_of.ensures c.stretch-part.ensures _ c.heir_mask.ensures
