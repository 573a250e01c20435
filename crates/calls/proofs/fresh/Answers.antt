-- A refusal leaves the sheet; else the fresh rules stand in front, and 0 behind them.
use mathlib.Core.Path.{refl, sym, ◌∙◌}
use native.Mathlib.Omega.{arith}
use Rattle.answers.proofs.Refusing.{code_not_none}
use Rattle.calls.proofs.Ends.{fresh_none, fresh_refused, fresh_done}
use Rattle.calls.proofs.fresh.Goals as goal

pub returns-in-Err : goal.returns-in-Err
returns-in-Err c = fresh_refused _ _ _ c.in-Err.ensures.code (code_not_none _) _ c.refused.ensures

pub write_fresh-requires : goal.write_fresh-requires
write_fresh-requires c = let k = c.in-Ok.ensures in rw k.size (fresh_none _ _ (sym k.code)).1

pub clear_from-requires : goal.clear_from-requires
clear_from-requires c =
    let k = c.in-Ok.ensures in
    omega (arith, (fresh_none _ _ (sym k.code)).1, c.relays-count.ensures.0, k.size)

pub returns-in-Ok : goal.returns-in-Ok
returns-in-Ok c =
    let k = c.in-Ok.ensures in
    let count = c.relays-count.ensures.0 ∙ k.size in
    fresh_done _ _ _ k.code refl _ _ _ (rw k.size at c.write_fresh.ensures) (rw count at c.clear_from.ensures) (rw count at c.done_answer.ensures)
