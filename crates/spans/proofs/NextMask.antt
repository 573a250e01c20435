-- The next off-mask beside an on-mask p: add p, so that a carry runs through its bits, add 1, and take p's bits away.
use mathlib.Core.Path.{◌≡◌, refl, ap, ap₂, ◌∙◌}
use mathlib.Core.Logic.{◌⊎◌, inl, inr}
use mathlib.Core.Bool.{true}
use Prim.Native.Nat.{ℕ, zero, suc, ◌+◌, ◌-◌, ◌*◌, ◌/◌, ◌%◌, ◌^◌, ◌≤◌, ◌<◌, min}
use native.Mathlib.Nat.{pow-suc}
use native.Mathlib.Omega.{arith}
use lib.Arith.{lt-one}
use lib.Bits.{bit_and, and_step, and_lt, and_zero_r, and_self}
use Rattle.panel.specs.Masks.{within, apart}
use Rattle.panel.proofs.Masks.{and_assoc, eq_within, within_on, on_apart, not_on}

-- the next mask above m that is apart from p
pub next_off : ℕ → ℕ → ℕ → ℕ
next_off n m p = bit_and (m + p + 1) (2 ^ n - 1 - p)

pub next_off_is : (n m p : ℕ) → bit_and (m + p + 1) (2 ^ n - 1 - p) ≡ next_off n m p
unfolding next_off
next_off_is n m p = refl

-- halves that share no bit, and last bits that are not both 1
halves : (m p : ℕ) → bit_and m p ≡ 0 → (bit_and (m / 2) (p / 2) ≡ 0) × (min (m % 2) (p % 2) ≡ 0)
halves m p e = (omega (arith, and_step m p, e), omega (arith, and_step m p, e))

flip_last : (k p : ℕ) → p < k * 2 → (k * 2 - 1 - p) % 2 ≡ 1 - p % 2
flip_last k p l = omega arith

add_last : (m p b : ℕ) → min (m % 2) (p % 2) ≡ 0 → b ≡ 1 - p % 2 → m / 2 * 2 + min ((m + p) % 2) b ≡ m
add_last m p b e eb = go (p % 2) refl
  where
    go : (x : ℕ) → p % 2 ≡ x → m / 2 * 2 + min ((m + p) % 2) b ≡ m
    go zero q = let r : (m + p) % 2 ≡ m % 2 = omega arith in omega (arith, r, q, eb)
    go (suc zero) q = omega (arith, q, eb)
    go (suc (suc x)) q = absurd (omega (arith, q))

even_last : (m p b : ℕ) → m % 2 + p % 2 ≡ 0 → b ≡ 1 - p % 2 → m / 2 * 2 + min ((m + p + 1) % 2) b ≡ m + 1
even_last m p b z eb =
    let r : (m + p + 1) % 2 ≡ 1 = omega arith in
    let t : b ≡ 1 = omega arith in
    ap₂ (λ (x y : ℕ). m / 2 * 2 + min x y) r t ∙ omega arith

-- a number apart from p is what is left of its sum with p
kept : (n m p : ℕ) → m < 2 ^ n → p < 2 ^ n → bit_and m p ≡ 0 → bit_and (m + p) (2 ^ n - 1 - p) ≡ m
kept zero m p lm lp e = omega (arith, lt-one lm, ap (bit_and (m + p)) zero_mask, and_zero_r (m + p))
  where
    zero_mask : 2 ^ zero - 1 - p ≡ 0
    zero_mask = omega arith
kept (suc n) m p lm lp e =
    let h = halves m p e in
    let ih = kept n (m / 2) (p / 2) (omega (arith, pow-suc 2 n)) (omega (arith, pow-suc 2 n)) h.0 in
    let a : (m + p) / 2 ≡ m / 2 + p / 2 = omega (arith, h.1) in
    let b : (2 ^ suc n - 1 - p) / 2 ≡ 2 ^ n - 1 - p / 2 = omega (arith, pow-suc 2 n) in
    let d : bit_and ((m + p) / 2) ((2 ^ suc n - 1 - p) / 2) ≡ m / 2 = ap₂ bit_and a b ∙ ih in
    let f : (2 ^ suc n - 1 - p) % 2 ≡ 1 - p % 2 = ap (λ (x : ℕ). (x - 1 - p) % 2) (pow-suc 2 n) ∙ flip_last (2 ^ n) p (omega (arith, pow-suc 2 n)) in
    and_step (m + p) (2 ^ suc n - 1 - p) ∙ ap (λ (x : ℕ). x * 2 + min ((m + p) % 2) ((2 ^ suc n - 1 - p) % 2)) d
    ∙ add_last m p ((2 ^ suc n - 1 - p) % 2) h.1 f

pub record Follows (n m p : ℕ) : Type 0 where
  pub above : m < next_off n m p
  pub first : (y : ℕ) → y < 2 ^ n → bit_and y p ≡ 0 → m < y → next_off n m p ≤ y

module _ (n m p : ℕ) (lm : m < 2 ^ suc n) (lp : p < 2 ^ suc n) (e : bit_and m p ≡ 0) where
  low_mask : (2 ^ suc n - 1 - p) / 2 ≡ 2 ^ n - 1 - p / 2
  low_mask = omega (arith, pow-suc 2 n)

  -- neither last bit is 1: one more
  next_off_even : m % 2 + p % 2 ≡ 0 → next_off (suc n) m p ≡ m + 1
  unfolding next_off
  next_off_even z =
      let h = halves m p e in
      let k = kept n (m / 2) (p / 2) (omega (arith, pow-suc 2 n)) (omega (arith, pow-suc 2 n)) h.0 in
      let a : (m + p + 1) / 2 ≡ m / 2 + p / 2 = omega (arith, z) in
      let d : bit_and ((m + p + 1) / 2) ((2 ^ suc n - 1 - p) / 2) ≡ m / 2 = ap₂ bit_and a low_mask ∙ k in
      let f : (2 ^ suc n - 1 - p) % 2 ≡ 1 - p % 2 = ap (λ (x : ℕ). (x - 1 - p) % 2) (pow-suc 2 n) ∙ flip_last (2 ^ n) p (omega (arith, pow-suc 2 n)) in
      and_step (m + p + 1) (2 ^ suc n - 1 - p) ∙ ap (λ (x : ℕ). x * 2 + min ((m + p + 1) % 2) ((2 ^ suc n - 1 - p) % 2)) d
      ∙ even_last m p ((2 ^ suc n - 1 - p) % 2) z f

  -- one of the last bits is 1: the carry goes on
  next_off_odd : m % 2 + p % 2 ≡ 1 → next_off (suc n) m p ≡ next_off n (m / 2) (p / 2) * 2
  unfolding next_off
  next_off_odd z =
      let a : (m + p + 1) / 2 ≡ m / 2 + p / 2 + 1 = omega (arith, z) in
      let d : bit_and ((m + p + 1) / 2) ((2 ^ suc n - 1 - p) / 2) ≡ bit_and (m / 2 + p / 2 + 1) (2 ^ n - 1 - p / 2) = ap₂ bit_and a low_mask in
      and_step (m + p + 1) (2 ^ suc n - 1 - p) ∙ omega (arith, d, z)

  last : (m % 2 + p % 2 ≡ 0) ⊎ (m % 2 + p % 2 ≡ 1)
  last = go (m % 2 + p % 2) refl
    where
      go : (x : ℕ) → m % 2 + p % 2 ≡ x → (m % 2 + p % 2 ≡ 0) ⊎ (m % 2 + p % 2 ≡ 1)
      go zero q = inl q
      go (suc zero) q = inr q
      go (suc (suc x)) q = absurd (omega (arith, q, (halves m p e).1))

pub follows : (n m p : ℕ) → m < 2 ^ n → p < 2 ^ n → bit_and m p ≡ 0 → m + p + 1 < 2 ^ n → Follows n m p
follows zero m p lm lp e l = absurd (omega (arith, l))
follows (suc n) m p lm lp e l =
    go (λ (z : m % 2 + p % 2 ≡ 1). follows n (m / 2) (p / 2) (omega (arith, pow-suc 2 n)) (omega (arith, pow-suc 2 n)) (halves m p e).0 (omega (arith, z, pow-suc 2 n)))
    (last n m p lm lp e)
  where
    go : (m % 2 + p % 2 ≡ 1 → Follows n (m / 2) (p / 2)) → (m % 2 + p % 2 ≡ 0) ⊎ (m % 2 + p % 2 ≡ 1) → Follows (suc n) m p
    go rec (inl z) = let x = next_off_even n m p lm lp e z in record { above = omega (arith, x); first = λ y ly ey k. omega (arith, x, k) }
    go rec (inr z) =
        let x = next_off_odd n m p lm lp e z in
        let ih = rec z in
        record {
          above = omega (arith, x, ih.above);
          first = λ y ly ey k.
              let h = halves y p ey in
              omega (arith, x, ih.first (y / 2) (omega (arith, pow-suc 2 n, ly)) h.0 (omega (arith, k, z, h.1)));
        }

pub next_off_lt : (n m p : ℕ) → m + p + 1 < 2 ^ n → next_off n m p < 2 ^ n
unfolding next_off
next_off_lt n m p l = and_lt n (m + p + 1) (2 ^ n - 1 - p) l (omega (arith, l))

pub next_off_apart : (n m p : ℕ) → p < 2 ^ n → apart p (next_off n m p) ≡ true
unfolding next_off
next_off_apart n m p lp =
    let rest : within (bit_and (m + p + 1) (2 ^ n - 1 - p)) (2 ^ n - 1 - p) ≡ true =
    eq_within (bit_and (m + p + 1) (2 ^ n - 1 - p)) (2 ^ n - 1 - p) (and_assoc (m + p + 1) (2 ^ n - 1 - p) (2 ^ n - 1 - p) ∙ ap (bit_and (m + p + 1)) (and_self (2 ^ n - 1 - p))) in
    on_apart n p (bit_and (m + p + 1) (2 ^ n - 1 - p)) lp
    (λ v k a b. not_on n p v lp k a (within_on (bit_and (m + p + 1) (2 ^ n - 1 - p)) (2 ^ n - 1 - p) v rest b))

-- two masks of the panel that share no bit have a sum below 2^n
pub sum_lt : (n m p : ℕ) → m < 2 ^ n → p < 2 ^ n → bit_and m p ≡ 0 → m + p < 2 ^ n
sum_lt zero m p lm lp e = omega arith
sum_lt (suc n) m p lm lp e =
    let h = halves m p e in
    omega (arith, pow-suc 2 n, h.1, sum_lt n (m / 2) (p / 2) (omega (arith, pow-suc 2 n)) (omega (arith, pow-suc 2 n)) h.0)
