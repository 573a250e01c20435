use mathlib.Core.Path.{◌≡◌, sym, ap, ap₂, ◌∙◌}
use Prim.Native.Nat.{ℕ}
use mathlib.Core.Bool.{Bool, not, ◌&&◌}
use native.Mathlib.Omega.{arith}
use Rattle.std.proofs.Common.{rules, refl}
use borrow.Author.Tests.{tests}
use Rattle.std.proofs.lemmas.Iterator.{YieldsList-from_range}
use Rattle.std.proofs.lemmas.Iterator.Search.{any_from_yields_List}
use Rattle.spans.specs.Touching.{both_touch}
use Rattle.spans.specs.Fewer.{smaller, without, fewer}
use Rattle.walk.proofs.Keeping.{fewer_is}
use Rattle.walk.proofs.is_kept.Goals as goal

pub returns-then-both_touch : goal.returns-then-both_touch
returns-then-both_touch c = let q = both_touch c.args.a.now c.args.b.now in let w = c.args.w in
    let e : c.any.result ≡ fewer c.args.n q w = any_from_yields_List (λ v. smaller q w (without w v)) _ _ _ c.any.ensures.ran (YieldsList-from_range 0 c.relays.result c.relays.result refl (omega arith)) (λ x b r k. search (rules, tests)) ∙ (fewer_is q w c.relays.result ∙ ap (λ (k : ℕ). fewer k q w) c.relays.ensures.0) in
    ap₂ (λ (x y : Bool). x && not y) (sym c.if-both_touch.true ∙ c.both_touch.ensures) e
