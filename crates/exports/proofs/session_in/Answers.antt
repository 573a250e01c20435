-- `exports::session_in` meets its contract: four numbers are read as they stand, the first is narrowed.
use mathlib.Core.Path.{ap}
use Prim.Native.Nat.{ℕ}
use Rattle.exports.specs.Numbers.{session_in}
use Rattle.exports.specs.Sizes.{sized}
use Rattle.exports.proofs.session_in.Goals as goal

pub returns : goal.returns
returns c =
    ap (λ (k : ℕ). sized k (session_in c.args.x.now)) c.narrow.ensures
