use mathlib.Core.Path.{◌≡◌, ◌∙◌}
use Prim.Native.Nat.{◌^◌}
use Rattle.std.proofs.Common.{rules}
use borrow.Author.Tests.{tests}
use Rattle.std.proofs.lemmas.Iterator.{first_from_Range}
use Rattle.headers.proofs.Fitting.{only_first}
use Rattle.judging.proofs.only_on.Goals as goal

pub returns : goal.returns
returns c =
    c.unwrap_or.ensures
    ∙ only_first c.args.x _ (first_from_Range _ _ _ _ (λ h. c.args.x ≡ 2 ^ h) (λ h. c.args.x ≡ 2 ^ h → ⊥) c.find.ensures.ran (λ x q k. search (rules, tests)) (λ x q k. search (rules, tests)))
