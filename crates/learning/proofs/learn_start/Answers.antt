-- The fresh sheet stands, beside an empty book.
use mathlib.Core.Path.{refl, sym}
use Rattle.calls.proofs.Ends.{fresh_none}
use Rattle.learning.proofs.Lists.{begun_done}
use Rattle.learning.proofs.learn_start.Goals as goal

pub write_fresh-requires : goal.write_fresh-requires
write_fresh-requires c = (fresh_none _ _ c.requires).1

pub returns : goal.returns
returns c =
    let zero = c.default.ensures in
    begun_done _ _ _ (sym c.requires) _ refl _ c.write_fresh.ensures (rw (zero.0, c.relays.ensures.0, zero.1.1.0, zero.1.1.1) refl)
