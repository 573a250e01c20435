-- One turn: the first of those left, and those behind it.
use mathlib.Core.Path.{sym, ◌∙◌}
use Rattle.prime.proofs.Passes.{antichain_no, antichain_more, behind_increases}
use Rattle.prime.proofs.is_antichain.Goals as goal

pub returns-then-is_narrowed : goal.returns-then-is_narrowed
returns-then-is_narrowed c =
    sym (c.loop-left.invariant.0 ∙ antichain_no _ c.loop-left.invariant.1 c.in-len1-up.len_at_least _ c.is_narrowed.ensures c.if-is_narrowed.true)

pub loop-left-preserved : goal.loop-left-preserved
loop-left-preserved c =
    (c.loop-left.invariant.0 ∙ antichain_more _ c.loop-left.invariant.1 c.in-len1-up.len_at_least _ c.is_narrowed.ensures c.if-is_narrowed.false, behind_increases _ c.loop-left.invariant.1 c.in-len1-up.len_at_least)
