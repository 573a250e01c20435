use mathlib.Core.Path.{◌∙◌}
use Rattle.std.proofs.Common.{rules}
use borrow.Author.Tests.{tests}
use Rattle.std.proofs.lemmas.Iterator.{YieldsList-from_slice}
use Rattle.std.proofs.lemmas.Iterator.Search.{any_from_yields_List}
use Rattle.panel.specs.Masks.{within}
use Rattle.spans.specs.Touching.{touches}
use Rattle.walk.proofs.Keeping.{any_is}
use Rattle.walk.proofs.touches_word.Goals as goal

pub returns : goal.returns
unfolding touches within
returns c =
    any_from_yields_List (λ r. within r c.args.w) _ _ _ c.any.ensures.ran (YieldsList-from_slice c.args.s.now cc) (λ x b q k. search (rules, tests))
    ∙ any_is (λ r. within r c.args.w) c.args.s.now
