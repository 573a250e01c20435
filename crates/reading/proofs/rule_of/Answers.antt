-- `reading::rule_of` meets its contract: a row's masks are below 2^10.
use Prim.Native.Nat.{ℕ}
use mathlib.Core.Path.{◌∙◌, ap}
use native.Mathlib.Omega.{arith}
use Rattle.panel.specs.Rules.{rule_word}
use Rattle.headers.proofs.Fitting.{only_few}
use Rattle.reading.specs.Rows.{rule_of}
use Rattle.reading.proofs.RowLaws.{power_few}
use Rattle.reading.proofs.rule_of.Goals as goal

pub rule_word-requires : goal.rule_word-requires
rule_word-requires c =
    let m = c.args.m in
    let ok = c.requires in
    let small = power_few m.width ok.few in
    (omega (arith, only_few m.next, c.only_on.ensures), omega (arith, ok.on_small), omega (arith, ok.off_small))

pub returns : goal.returns
unfolding rule_of
returns c =
    let m = c.args.m in
    c.rule_word.ensures ∙ ap (λ (h : ℕ). rule_word h m.on m.off) c.only_on.ensures
