-- `writing::digits` meets its contract.
use Prim.Native.Nat.{ℕ, zero, suc, ◌+◌, ◌*◌, ◌^◌, ◌/◌, ◌≤◌, ◌<◌, max}
use Rattle.fields.specs.Decimals.{decimal}
use Rattle.fields.proofs.DecimalLaws.{decimal_one, decimal_longer, decimal_short}
use lib.ListN.{length}
use mathlib.Core.Path.{◌≡◌, ◌∙◌, ap}
use native.Mathlib.Nat.{pow-suc}
use native.Mathlib.Omega.{arith}
use Rattle.writing.proofs.digits.Goals as goal

-- between two powers of 10
between_powers : (k v : ℕ) → 10 ^ k ≤ v → v < 10 * 10 ^ k → length (decimal v) ≡ k + 1
between_powers zero v h l = ap length (decimal_one v (omega arith))
between_powers (suc k) v h l =
    let p = pow-suc 10 k in
    decimal_longer v (omega arith) ∙ omega (arith, between_powers k (v / 10) (omega arith) (omega arith))

-- 0 has one digit, as 1 has
of_largest : (v m : ℕ) → m ≡ max v 1 → length (decimal m) ≡ length (decimal v)
of_largest zero m e = ap (λ (x : ℕ). length (decimal x)) e ∙ ap length (decimal_one 1 (omega arith)) ∙ omega (arith, ap length (decimal_one 0 (omega arith)))
of_largest (suc v) m e = ap (λ (x : ℕ). length (decimal x)) (omega arith)

pub returns : goal.returns
returns c =
    let l = between_powers c.ilog10.result c.max.result c.ilog10.ensures.power_le c.ilog10.ensures.next_power_gt in
    omega (arith, of_largest c.args.v c.max.result c.max.ensures, l, decimal_short c.args.v)
