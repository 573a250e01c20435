-- The first word that is not reproduced is the answer; else all are.
use mathlib.Core.Path.{refl, sym, ◌∙◌}
use native.Mathlib.Omega.{arith}
use Rattle.learning.proofs.Ends.{reproduced_start, reproduced_not, reproduced_more, reproduced_end}
use Rattle.learning.proofs.first_unreproduced.Goals as goal

pub loop-k-init : goal.loop-k-init
loop-k-init c = reproduced_start _ _ _

pub returns-then-apply_rules-next_of : goal.returns-then-apply_rules-next_of
returns-then-apply_rules-next_of c =
    (sym (c.loop-k.invariant ∙ reproduced_not _ _ _ _ c.loop-k-test.true _ refl _ _ _ c.state_of.ensures c.apply_rules.ensures c.next_of.ensures c.if-apply_rules-next_of.true), c.loop-k-test.true)

pub loop-k-preserved : goal.loop-k-preserved
loop-k-preserved c =
    c.loop-k.invariant ∙ reproduced_more _ _ _ _ c.loop-k-test.true _ refl _ _ _ c.state_of.ensures c.apply_rules.ensures c.next_of.ensures c.if-apply_rules-next_of.false

pub returns : goal.returns
returns c = omega (arith, c.loop-k.invariant, reproduced_end c.args.n c.args.sheet.now c.args.book.now c.loop-k.k c.loop-k-test.false)
