use mathlib.Core.Path.{refl, ap, ◌∙◌}
use mathlib.Core.Logic.{inl}
use native.Mathlib.Omega.{arith}
use lib.ListN.{length}
use Rattle.std.proofs.Common.{rules as usual}
use borrow.Author.Tests.{tests}
use Rattle.std.proofs.lemmas.Iterator.Consumers.{count_from_yields_List}
use Rattle.panel.specs.Rules.{rules}
use Rattle.panel.proofs.Words.{rules_increasing}
use Rattle.spans.specs.Touching.{both_touch}
use Rattle.prime.specs.Sheets.{sheet_where}
use Rattle.prime.proofs.Least.{sheet_increasing}
use Rattle.walk.proofs.Keeping.{left, head_few, head_road}
use Rattle.walk.proofs.count_head.Goals as goal

pub count-requires-clause-fits : goal.count-requires-clause-fits
count-requires-clause-fits c =
    inl (omega (arith, ap length (ap left c.filter.ensures.source ∙ c.of_head.ensures), head_few c.args.h (rules c.args.n) (rules_increasing c.args.n (omega arith))))

pub returns-clause-count : goal.returns-clause-count
returns-clause-count c =
    count_from_yields_List c.filter.result _ c.count.ensures.ran
    (head_road c.args.n (omega arith) c.args.a.now c.args.b.now _ _ _ _ refl c.filter.ensures.source c.of_head.ensures c.filter.ensures.closure (λ x b f k. search (usual, tests)))

pub returns-clause-few : goal.returns-clause-few
returns-clause-few c =
    omega (arith, returns-clause-count c, head_few c.args.h (sheet_where c.args.n (both_touch c.args.a.now c.args.b.now)) (sheet_increasing c.args.n (omega arith) (both_touch c.args.a.now c.args.b.now)))
