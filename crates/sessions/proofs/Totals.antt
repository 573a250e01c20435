-- The test of a session's totals: what it means.
use mathlib.Core.Path.{◌≡◌}
use mathlib.Core.Bool.{true, ◌&&◌}
use Prim.Native.Nat.{◌+◌, ◌≤◌}
use lib.Dec.{eqb, leb}
use borrow.Author.Tests.{leb-true, le-leb, eqb-true, eq-eqb}
use Rattle.table.proofs.Basics.{and_l, and_r}
use Rattle.sessions.specs.declared.Session.{Session}
use Rattle.sessions.specs.Sessions.{Balanced, totals_fit}

module _ (s : Session) where
  pub fit_i : s.struck ≤ 1000000000 → s.added ≤ 1000000000 → Balanced s → totals_fit s ≡ true
  unfolding totals_fit
  fit_i ls la e = simp (le-leb s.struck 1000000000 ls, le-leb s.added 1000000000 la, eq-eqb (s.n + s.added) (s.sheet_count + s.struck) e)

  module _ (e : totals_fit s ≡ true) where
    pub fit_struck : s.struck ≤ 1000000000
    unfolding totals_fit
    fit_struck = leb-true s.struck 1000000000 (and_l (leb s.struck 1000000000) (leb s.added 1000000000 && eqb (s.n + s.added) (s.sheet_count + s.struck)) e)

    both_left : (leb s.added 1000000000 && eqb (s.n + s.added) (s.sheet_count + s.struck)) ≡ true
    unfolding totals_fit
    both_left = and_r (leb s.struck 1000000000) (leb s.added 1000000000 && eqb (s.n + s.added) (s.sheet_count + s.struck)) e

    pub fit_added : s.added ≤ 1000000000
    fit_added = leb-true s.added 1000000000 (and_l (leb s.added 1000000000) (eqb (s.n + s.added) (s.sheet_count + s.struck)) both_left)

    pub fit_balanced : Balanced s
    fit_balanced = eqb-true (s.n + s.added) (s.sheet_count + s.struck) (and_r (leb s.added 1000000000) (eqb (s.n + s.added) (s.sheet_count + s.struck)) both_left)
