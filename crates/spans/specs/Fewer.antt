-- One contact fewer in a body.
use Rattle.std.specs.Prelude.{ℕ, zero, suc, ◌-◌, ◌*◌, ◌^◌, Bool, false, not, ◌&&◌, ◌||◌, cond, eqb}
use Rattle.panel.specs.Masks.{on}
use Rattle.panel.specs.Rules.{must_on, must_off}

-- the rule w with its contact on the relay v taken away; w itself where it has none
unfoldable pub without : ℕ → ℕ → ℕ
without w v = cond (on v (must_on w)) (w - 2 ^ v * 1024) (cond (on v (must_off w)) (w - 2 ^ v) w)

-- q passes at x, and x is not w
unfoldable pub smaller : (ℕ → Bool) → ℕ → ℕ → Bool
smaller q w x = not (eqb x w) && q x

-- q passes at w with the contact on some relay below k taken away
unfoldable pub fewer : ℕ → (ℕ → Bool) → ℕ → Bool
fewer zero q w = false
fewer (suc v) q w = fewer v q w || smaller q w (without w v)
