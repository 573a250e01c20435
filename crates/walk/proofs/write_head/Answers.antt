use mathlib.Core.Path.{refl, sym, ap, ap₂, ◌∙◌}
use mathlib.Core.Bool.{true}
use mathlib.Core.List.{List, [], ◌∷◌}
use Prim.Native.Nat.{ℕ, ◌<◌}
use native.Mathlib.Omega.{arith}
use lib.ListN.{length, set, length-append}
use Rattle.std.proofs.Common.{rules as usual}
use borrow.Author.Tests.{tests}
use Rattle.std.proofs.lemmas.List.{map-id}
use Rattle.std.proofs.lemmas.Iterator.Consumers.{YieldsList-turn, YieldsList-end}
use Rattle.spans.specs.Parts.{over}
use Rattle.spans.proofs.Overwriting.{over_nil, over_put}
use Rattle.walk.proofs.Keeping.{head_road}
use Rattle.walk.proofs.write_head.Goals as goal

pub loop-w-init : goal.loop-w-init
loop-w-init c = record { written = over_nil _; place = refl }

-- a word that is kept has its place
here : (c : goal.In-Some) → c.loop-w.at < length c.loop-w.out
here c =
    let turn = YieldsList-turn (head_road c.args.n (omega arith) c.args.a.now c.args.b.now c.args.h _ _ _ c.into_iter-w-iterator.ensures.into_iter_gives c.filter-w-items.ensures.source c.of_head.ensures c.filter-w-items.ensures.closure (λ x b f k. search (usual, tests)))
    c.loop-w.yielded c.loop-w.w-iterator c.loop-w.yielded_by _ c.next.new.self _ c.in-Some.is c.next.ensures.steps in
    omega (arith, turn.0)

pub offset_bounds-out-at : goal.offset_bounds-out-at
offset_bounds-out-at c = omega (arith, here c)

pub bounds-out-at : goal.bounds-out-at
bounds-out-at c = here c

pub overflow_add-at : goal.overflow_add-at
overflow_add-at c = omega (arith, here c)

pub loop-w-preserved : goal.loop-w-preserved
loop-w-preserved c = let k = c.loop-w.invariant in record {
  written = ap₂ (λ (s : List ℕ) (i : ℕ). set s i c.in-Some.w) k.written k.place ∙ over_put true c.loop-w.yielded c.args.out.now c.in-Some.w (λ _. omega (arith, here c));
  place = omega (arith, length-append c.loop-w.yielded (c.in-Some.w ∷ []));
}

pub returns : goal.returns
returns c =
    let all = YieldsList-end (head_road c.args.n (omega arith) c.args.a.now c.args.b.now c.args.h _ _ _ c.into_iter-w-iterator.ensures.into_iter_gives c.filter-w-items.ensures.source c.of_head.ensures c.filter-w-items.ensures.closure (λ x b f k. search (usual, tests)))
    c.loop-w.yielded c.loop-w.w-iterator c.loop-w.yielded_by _ c.next.new.self c.in-None.is c.next.ensures.steps in
    record {
      count = c.loop-w.invariant.place ∙ all.1;
      written = c.loop-w.invariant.written ∙ ap (λ (t : List ℕ). over t c.args.out.now) (sym (map-id c.loop-w.yielded) ∙ all.0);
    }
