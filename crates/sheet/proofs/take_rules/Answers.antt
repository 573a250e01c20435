-- `sheet::take_rules` meets its contract.
use native.Mathlib.Omega.{arith}
use mathlib.Core.Path.{sym}
use lib.Seq.{length-take-le}
use Rattle.std.proofs.Common.{rules}
use Rattle.sheet.proofs.Sweeps.{first_can, second_can, both_done}
use Rattle.sheet.proofs.take_rules.Goals as goal

pub sweep-requires : goal.sweep-requires
sweep-requires c =
    (c.requires.0, first_can c.args.n (omega arith) _ _ c.requires.1 _ c.requires.2 _ (sym (length-take-le _ _ c.requires.0)) c.requires.0)

pub sweep-requires-2 : goal.sweep-requires-2
sweep-requires-2 c =
    (c.sweep.ensures.holds.fits, second_can c.args.n (omega arith) _ _ c.requires.1 _ c.requires.2 _ (sym (length-take-le _ _ c.requires.0)) c.requires.0 _ _ c.sweep.ensures.holds)

pub returns : goal.returns
returns c =
    both_done c.args.n (omega arith) _ _ c.requires.1 _ c.requires.2 _ (sym (length-take-le _ _ c.requires.0)) c.requires.0 _ _ c.sweep.ensures.holds _ _ c.sweep-2.ensures.holds _ (search rules)
