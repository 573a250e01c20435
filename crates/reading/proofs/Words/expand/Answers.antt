-- `reading::Words::expand` meets its contract: the states below the on-mask, and those from the end on, add no word.
use Prim.Native.Nat.{◌+◌, ◌^◌}
use Rattle.reading.proofs.FillLaws.{adds_nothing, adds_next, adds_less}
use Rattle.reading.proofs.RowLaws.{words_in_lem, words_out, words_mono, words_none, words_all}
use Rattle.reading.specs.Rows.{matches_of}
use mathlib.Core.Bool.{true, false}
use mathlib.Core.Path.{◌≡◌, sym, ◌∙◌}
use native.Mathlib.Omega.{arith}
use Rattle.reading.proofs.Words.expand.Goals as goal
use Rattle.reading.proofs.Words.expand.Goals.{then-matches+in_ok-push, else-matches}

pub loop-state-init : goal.loop-state-init
loop-state-init c = let p = c.requires in
    record { in_panel = omega (arith, p.1.on_small); so_far = rw (words_none c.args.m p.1 c.args.m.on (omega arith)) (adds_nothing c.args.self.now p.0) }

pub returns-in_err-push : goal.returns-in_err-push
returns-in_err-push c =
    let l = c.loop-state in
    let m = c.args.m in
    let e : matches_of m l.state ≡ true = sym c.matches.ensures ∙ c.if-matches.true in
    rw (c.from_residual.ensures) (adds_less (words_mono m (l.state + 1) (2 ^ m.width) (omega arith))
    (rw (words_in_lem m l.state e, ← c.transition_word.ensures) (adds_next _ l.invariant.so_far (rw c.in_err-push.was at c.push.ensures))))

pub loop-state-preserved : goal.loop-state-preserved
loop-state-preserved c =
    let l = c.loop-state in
    let m = c.args.m in
    record {
      in_panel = omega arith;
      so_far = elim c.if-matches.branch [
        | then-matches+in_ok-push w ↦
            let e : matches_of m l.state ≡ true = sym c.matches.ensures ∙ w.if-matches.true in
            rw (w.self-is, words_in_lem m l.state e, ← w.transition_word.ensures) (adds_next _ l.invariant.so_far (rw w.in_ok-push.was at w.push.ensures))
        | else-matches w ↦
            let e : matches_of m l.state ≡ false = sym c.matches.ensures ∙ w.if-matches.false in
            rw (w.self-is, words_out m l.state e) l.invariant.so_far
      ];
    }

pub returns : goal.returns
returns c = let l = c.loop-state in
    rw (words_all c.args.m c.requires.1 l.state (omega (arith, c.power.ensures)) l.invariant.in_panel) l.invariant.so_far
