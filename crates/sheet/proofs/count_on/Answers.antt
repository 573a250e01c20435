-- `sheet::count_on` meets its contract.
use mathlib.Core.Path.{◌≡◌, ◌∙◌}
use native.Mathlib.Omega.{arith}
use lib.ListN.{length}
use Rattle.std.specs.List.{filter, range_with_len}
use Rattle.std.proofs.Common.{rules}
use Rattle.std.proofs.lemmas.Iterator.{YieldsList-from_range}
use Rattle.std.proofs.lemmas.Iterator.Consumers.{YieldsList-from_filter, count_from_yields_List}
use Rattle.panel.specs.Masks.{on}
use Rattle.sheet.proofs.Stretch.{count_range, count_le}
use Rattle.sheet.proofs.count_on.Goals as goal

pub returns : goal.returns
returns c =
    let is : c.count.result ≡ length (filter (λ v. on v c.args.mask) (range_with_len 0 c.args.n)) =
    count_from_yields_List _ _ c.count.ensures.ran
    (YieldsList-from_filter _ _ (YieldsList-from_range 0 _ c.args.n c.filter.ensures.source (omega arith)) c.filter.ensures.closure (λ v b q k. search rules)) in
    (is ∙ count_range _ _, omega (arith, is, count_range c.args.n c.args.mask, count_le c.args.n c.args.mask))
