-- What it is for two books to clash.
use Rattle.std.specs.Prelude.{◌≡◌, ℕ}
use mathlib.Core.List.{List, Memᴰ as Mem}
use Rattle.panel.specs.Transitions.{state, next}

-- a state has the word t in b and the word u in c, with another successor
pub record Clash (b c : List ℕ) (t u : ℕ) : Type 0 where
  pub in_left : Mem t b
  pub in_right : Mem u c
  pub one_state : state t ≡ state u
  pub apart : next t ≡ next u → ⊥
