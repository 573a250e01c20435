-- `sheet::first_on` meets its contract.
use mathlib.Core.Path.{◌≡◌, subst}
use Prim.Native.Nat.{ℕ, ◌<◌}
use Rattle.std.specs.Prelude.{MatchOption}
use Rattle.sheet.specs.Taking.{FirstOn}
use mathlib.Core.Bool.{true, false}
use borrow.Author.Tests.{tests}
use Rattle.std.proofs.Common.{rules}
use Rattle.std.proofs.lemmas.Iterator.{first_from_Range}
use Rattle.panel.specs.Masks.{on}
use Rattle.sheet.proofs.Planting.{first_found}
use Rattle.sheet.proofs.first_on.Goals as goal

pub returns : goal.returns
returns c =
    subst (λ (k : ℕ). MatchOption c.find.result (FirstOn k c.args.mask k) (λ u. (u < k) × FirstOn k c.args.mask u)) c.relays.ensures.0
    (first_found _ _ _
    (first_from_Range _ _ _ _ (λ v. on v c.args.mask ≡ true) (λ v. on v c.args.mask ≡ false) c.find.ensures.ran (λ v q k. search (rules, tests)) (λ v q k. search (rules, tests))))
