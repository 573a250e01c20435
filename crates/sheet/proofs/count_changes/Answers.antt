-- A spared rule leaves the counts; a hit rule adds itself to those struck and its heirs to those added.
use mathlib.Core.Path.{sym, subst, ◌∙◌}
use Prim.Native.Nat.{◌+◌}
use native.Mathlib.Omega.{arith}
use Rattle.sheet.specs.Taking.{Tallying}
use Rattle.sheet.specs.declared.Tally.{Tally}
use Rattle.sheet.proofs.Tallying.{tally_rule, tally_short, tally_spared, tally_hit, tally_end}
use Rattle.prime.proofs.Least.{good_e}
use Rattle.sheet.proofs.count_changes.Goals as goal
use Rattle.sheet.proofs.count_changes.Goals.{then-not-is_spared, else-not-is_spared}

pub heirs_of-requires : goal.heirs_of-requires
heirs_of-requires c =
    ((good_e _ _ c.requires).sorted, tally_rule c.args.n c.args.t c.args.sheet.now (omega arith) c.requires _ c.loop-b-test.true, sym c.is_spared.ensures ∙ c.if-not-is_spared.true)

pub overflow_add-so-then-not-is_spared : goal.overflow_add-so-then-not-is_spared
overflow_add-so-then-not-is_spared c =
    omega (arith, tally_short c.args.n c.args.t c.args.sheet.now (omega arith) c.requires, c.loop-b.invariant.not_many, c.count_on.ensures.1)

pub loop-b-preserved : goal.loop-b-preserved
loop-b-preserved c = elim c.if-not-is_spared.branch [
  | then-not-is_spared w ↦ subst (λ (so : Tally). Tallying c.args.n c.args.t c.args.sheet.now (c.loop-b.b-index + 1) so.struck so.added) (sym w.so-is)
      (tally_hit c.args.n _ _ (omega arith) c.requires _ _ _ c.loop-b-test.true c.loop-b.invariant _ c.is_spared.ensures w.if-not-is_spared.true _ _ w.heirs_of.ensures w.count_on.ensures.0 w.count_on.ensures.1)
  | else-not-is_spared w ↦ subst (λ (so : Tally). Tallying c.args.n c.args.t c.args.sheet.now (c.loop-b.b-index + 1) so.struck so.added) (sym w.so-is)
      (tally_spared c.args.n _ _ (omega arith) c.requires _ _ _ c.loop-b-test.true c.loop-b.invariant _ c.is_spared.ensures w.if-not-is_spared.false)
]

pub returns : goal.returns
returns c = tally_end c.args.n _ _ (omega arith) c.requires _ _ _ c.loop-b-test.false c.loop-b.invariant
