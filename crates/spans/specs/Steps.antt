-- Where a walk over all rules of a panel may stand, and where it may go next.
use Rattle.std.specs.Prelude.{◌≡◌, true, ℕ, ◌+◌, ◌*◌, ◌^◌, ◌≤◌, ◌<◌}
use Rattle.panel.specs.Rules.{head, must_on, must_off, Rule}
use Rattle.panel.specs.Masks.{apart}

-- the body of w is one of a panel with n relays, whatever its head
pub record Spot (n w : ℕ) : Type 0 where
  pub must_on_lt : must_on w < 2 ^ n
  pub must_off_lt : must_off w < 2 ^ n
  pub disjoint : apart (must_on w) (must_off w) ≡ true

-- a walk may go from w to r: no rule lies between, and r is at most the first word of the next head
pub record Next (n w r : ℕ) : Type 0 where
  pub above : w < r
  pub spot : Spot n r
  pub inside : r ≤ (head w + 1) * 1048576
  pub none : (x : ℕ) → Rule n x → w < x → x < r → ⊥
