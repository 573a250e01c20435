-- A step of `totals_fit` that docs/PORT.md names: where both totals are within their bound, what is left is the balance.
use mathlib.Core.Path.{◌≡◌}
use Prim.Native.Nat.{◌+◌, ◌≤◌}
use lib.Dec.{eqb}
use borrow.Author.Tests.{le-leb}
use Rattle.sessions.specs.declared.Session.{Session}
use Rattle.sessions.specs.Sessions.{totals_fit}

pub only_balance : (s : Session) → s.struck ≤ 1000000000 → s.added ≤ 1000000000 → totals_fit s ≡ eqb (s.n + s.added) (s.sheet_count + s.struck)
unfolding totals_fit
only_balance s ls la = simp (le-leb s.struck 1000000000 ls, le-leb s.added 1000000000 la)
