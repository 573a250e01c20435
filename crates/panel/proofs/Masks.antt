-- Masks: the tests bit by bit, and the same tests by one `&`.
use mathlib.Core.Path.{◌≡◌, refl, sym, ap, ap₂, ◌∙◌, subst}
use mathlib.Core.Logic.{◌⊎◌, inl, inr}
use mathlib.Core.Bool.{Bool, true, false, not, ◌&&◌, ◌||◌, false≢true}
use Prim.Native.Nat.{ℕ, zero, suc, ◌+◌, ◌-◌, ◌/◌, ◌%◌, ◌^◌, ◌≤◌, ◌<◌, suc-le-suc, min, max}
use native.Mathlib.Nat.{div-one, pow-suc, div-div-eq-div-mul, mul_comm, mod-lt, zero-lt-suc, le_of_suc-le-suc, not-suc-le-zero, lt-suc_self, eq-or-lt_of_le, lt_irrefl, add-zero}
use native.Mathlib.Omega.{arith}
use lib.Arith.{bin_ind, lt-one}
use lib.Bits.{bit_and, bit_or, and_step, or_step, and_self, and_comm, and_zero_r, and_le_l, and_le_r}
use lib.Dec.{eqb}
use borrow.Author.Tests.{eqb-true, eq-eqb}
use mathlib.Core.List.Memᴰ.{head as here}
use mathlib.Core.List.{[], ◌∷◌, Memᴰ as Mem}
use lib.Pow.{pow_pos}
use Rattle.panel.specs.Masks.{bit_if, bits_where, on, relays, all_on, all_off, within, apart}
use Rattle.table.proofs.Basics.{either, and_l, and_r, and_i, or_e, or_l, or_r, not_e, not_i, passes, each_i, all_e, all_i, same_test, false_test}

-- ---- one bit

-- bit v of x, as a number
unfoldable pub bit : ℕ → ℕ → ℕ
bit v x = x / 2 ^ v % 2

pub on_bit : (v x : ℕ) → on v x ≡ true → bit v x ≡ 1
unfolding on bit
on_bit v x e = eqb-true (x / 2 ^ v % 2) 1 e

pub bit_on : (v x : ℕ) → bit v x ≡ 1 → on v x ≡ true
unfolding on bit
bit_on v x e = eq-eqb (x / 2 ^ v % 2) 1 e

pub bit_lt : (v x : ℕ) → bit v x < 2
unfolding bit
bit_lt v x = mod-lt (x / 2 ^ v) (zero-lt-suc 1)

pub off_bit : (v x : ℕ) → (on v x ≡ true → ⊥) → bit v x ≡ 0
off_bit v x h = go (bit v x) refl (bit_lt v x)
  where
    go : (b : ℕ) → bit v x ≡ b → b < 2 → bit v x ≡ 0
    go zero e l = e
    go (suc zero) e l = absurd (h (bit_on v x e))
    go (suc (suc b)) e l = omega arith

pub bit_off : (v x : ℕ) → bit v x ≡ 0 → on v x ≡ true → ⊥
bit_off v x e p = omega (arith, on_bit v x p)

pub bit_zero : (x : ℕ) → bit zero x ≡ x % 2
unfolding bit
bit_zero x = ap (λ (y : ℕ). y % 2) (div-one x)

pub bit_suc : (v x : ℕ) → bit (suc v) x ≡ bit v (x / 2)
unfolding bit
bit_suc v x =
    ap (λ (y : ℕ). x / y % 2) (pow-suc 2 v ∙ mul_comm (2 ^ v) 2)
    ∙ ap (λ (y : ℕ). y % 2) (sym (div-div-eq-div-mul x 2 (2 ^ v)))

pub bit_of_zero : (v : ℕ) → bit v 0 ≡ 0
bit_of_zero zero = bit_zero 0
bit_of_zero (suc v) = bit_suc v 0 ∙ bit_of_zero v

-- no relay is on in 0
pub off_zero : (v : ℕ) → on v 0 ≡ false
off_zero v = false_test (on v 0) (λ p. bit_off v 0 (bit_of_zero v) p)

half_add : (v x : ℕ) → (x + 2 ^ suc v) / 2 ≡ x / 2 + 2 ^ v
half_add v x = omega (arith, pow-suc 2 v)

half_not : (n x : ℕ) → x < 2 ^ suc n → (2 ^ suc n - 1 - x) / 2 ≡ 2 ^ n - 1 - x / 2
half_not n x l = omega (arith, pow-suc 2 n)

-- ---- the bits of a & b

and_half : (a b : ℕ) → bit_and a b / 2 ≡ bit_and (a / 2) (b / 2)
and_half a b = omega (arith, and_step a b)

and_odd : (a b : ℕ) → bit_and a b % 2 ≡ min (a % 2) (b % 2)
and_odd a b = omega (arith, and_step a b)

pub bit_and_lem : (v a b : ℕ) → bit v (bit_and a b) ≡ min (bit v a) (bit v b)
bit_and_lem zero a b = bit_zero (bit_and a b) ∙ and_odd a b ∙ ap₂ min (sym (bit_zero a)) (sym (bit_zero b))
bit_and_lem (suc v) a b =
    bit_suc v (bit_and a b) ∙ ap (bit v) (and_half a b) ∙ bit_and_lem v (a / 2) (b / 2)
    ∙ ap₂ min (sym (bit_suc v a)) (sym (bit_suc v b))

pub and_assoc : (a b c : ℕ) → bit_and (bit_and a b) c ≡ bit_and a (bit_and b c)
and_assoc =
    bin_ind (λ (a : ℕ). (b c : ℕ) → bit_and (bit_and a b) c ≡ bit_and a (bit_and b c)) (λ b c. refl)
    (λ a ih b c.
    let p : bit_and (bit_and a b / 2) (c / 2) ≡ bit_and (a / 2) (bit_and b c / 2) =
    ap (λ (x : ℕ). bit_and x (c / 2)) (and_half a b) ∙ ih (b / 2) (c / 2) ∙ ap (bit_and (a / 2)) (sym (and_half b c)) in
    omega (arith, p, and_step (bit_and a b) c, and_step a (bit_and b c), and_odd a b, and_odd b c))

-- ---- within: an order on masks

pub within_eq : (a b : ℕ) → within a b ≡ true → bit_and a b ≡ a
unfolding within
within_eq a b e = eqb-true (bit_and a b) a e

pub eq_within : (a b : ℕ) → bit_and a b ≡ a → within a b ≡ true
unfolding within
eq_within a b e = eq-eqb (bit_and a b) a e

pub apart_eq : (a b : ℕ) → apart a b ≡ true → bit_and a b ≡ 0
unfolding apart
apart_eq a b e = eqb-true (bit_and a b) 0 e

pub eq_apart : (a b : ℕ) → bit_and a b ≡ 0 → apart a b ≡ true
unfolding apart
eq_apart a b e = eq-eqb (bit_and a b) 0 e

pub within_refl : (a : ℕ) → within a a ≡ true
within_refl a = eq_within a a (and_self a)

pub within_trans : (a b c : ℕ) → within a b ≡ true → within b c ≡ true → within a c ≡ true
within_trans a b c p q =
    let e : bit_and a b ≡ a = within_eq a b p in
    eq_within a c
    (ap (λ (x : ℕ). bit_and x c) (sym e) ∙ and_assoc a b c ∙ ap (bit_and a) (within_eq b c q) ∙ e)

pub within_antisym : (a b : ℕ) → within a b ≡ true → within b a ≡ true → a ≡ b
within_antisym a b p q = sym (within_eq a b p) ∙ and_comm a b ∙ within_eq b a q

pub within_le : (a b : ℕ) → within a b ≡ true → a ≤ b
within_le a b p = omega (arith, and_le_r a b, within_eq a b p)

-- what lies within a mask is apart from whatever the mask is apart from
pub within_apart : (a b c : ℕ) → within a b ≡ true → apart b c ≡ true → apart a c ≡ true
within_apart a b c p q =
    eq_apart a c
    (ap (λ (x : ℕ). bit_and x c) (sym (within_eq a b p)) ∙ and_assoc a b c ∙ ap (bit_and a) (apart_eq b c q) ∙ and_zero_r a)

pub apart_comm : (a b : ℕ) → apart a b ≡ true → apart b a ≡ true
apart_comm a b p = eq_apart b a (and_comm b a ∙ apart_eq a b p)

-- ---- within and apart, bit by bit

pub within_on : (a b v : ℕ) → within a b ≡ true → on v a ≡ true → on v b ≡ true
within_on a b v p q =
    bit_on v b (omega (arith, bit_lt v b, on_bit v a q, sym (bit_and_lem v a b), ap (bit v) (within_eq a b p)))

pub apart_on : (a b v : ℕ) → apart a b ≡ true → on v a ≡ true → on v b ≡ true → ⊥
apart_on a b v p q r =
    omega (arith, on_bit v a q, on_bit v b r, sym (bit_and_lem v a b), ap (bit v) (apart_eq a b p), bit_of_zero v)

pub on_suc : (v x : ℕ) → on (suc v) x ≡ on v (x / 2)
unfolding on bit
on_suc v x = ap (λ (y : ℕ). eqb y 1) (bit_suc v x)

half_bound : (n a : ℕ) → a < 2 ^ suc n → a / 2 < 2 ^ n
half_bound n a l = omega (arith, pow-suc 2 n)

-- a mask below 2^n whose bits are all on in b lies within b
pub on_within : (n a b : ℕ) → a < 2 ^ n → ((v : ℕ) → v < n → on v a ≡ true → on v b ≡ true) → within a b ≡ true
on_within zero a b l h =
    let e : a ≡ 0 = lt-one l in
    eq_within a b (ap (λ (x : ℕ). bit_and x b) e ∙ sym e)
on_within (suc n) a b l h =
    let ih : within (a / 2) (b / 2) ≡ true =
    on_within n (a / 2) (b / 2) (half_bound n a l)
    (λ v k p. sym (on_suc v b) ∙ h (suc v) (suc-le-suc k) (on_suc v a ∙ p)) in
    eq_within a b (omega (arith, lowest (either (on zero a)), and_step a b, within_eq (a / 2) (b / 2) ih, bit_zero a, bit_zero b))
  where
    lowest : (on zero a ≡ true) ⊎ (on zero a ≡ true → ⊥) → bit zero a ≤ bit zero b
    lowest (inl p) = omega (arith, bit_lt zero a, on_bit zero b (h zero (zero-lt-suc n) p))
    lowest (inr p) = omega (arith, off_bit zero a p)

-- a mask below 2^n whose bits are all off in b is apart from b
pub on_apart : (n a b : ℕ) → a < 2 ^ n → ((v : ℕ) → v < n → on v a ≡ true → on v b ≡ true → ⊥) → apart a b ≡ true
on_apart zero a b l h = eq_apart a b (ap (λ (x : ℕ). bit_and x b) (lt-one l))
on_apart (suc n) a b l h =
    let ih : apart (a / 2) (b / 2) ≡ true =
    on_apart n (a / 2) (b / 2) (half_bound n a l)
    (λ v k p q. h (suc v) (suc-le-suc k) (on_suc v a ∙ p) (on_suc v b ∙ q)) in
    eq_apart a b (omega (arith, lowest (either (on zero a)) (either (on zero b)), and_step a b, apart_eq (a / 2) (b / 2) ih, bit_zero a, bit_zero b))
  where
    lowest : (on zero a ≡ true) ⊎ (on zero a ≡ true → ⊥) → (on zero b ≡ true) ⊎ (on zero b ≡ true → ⊥) → min (bit zero a) (bit zero b) ≡ 0
    lowest (inl p) (inl q) = absurd (h zero (zero-lt-suc n) p q)
    lowest (inl p) (inr q) = omega (arith, off_bit zero b q)
    lowest (inr p) (inl q) = omega (arith, off_bit zero a p)
    lowest (inr p) (inr q) = omega (arith, off_bit zero a p)

-- a test passes at some number below n, or at none
pub find : (n : ℕ) (f : ℕ → Bool) → ((v : ℕ) × (v < n) × (f v ≡ true)) ⊎ ((v : ℕ) → v < n → f v ≡ true → ⊥)
find zero f = inr (λ v l p. not-suc-le-zero l)
find (suc n) f = go (find n f) (either (f n))
  where
    last : ((v : ℕ) → v < n → f v ≡ true → ⊥) → (f n ≡ true → ⊥) → (v : ℕ) → (v ≡ n) ⊎ (v < n) → f v ≡ true → ⊥
    last h k v (inl e) p = k (sym (ap f e) ∙ p)
    last h k v (inr l) p = h v l p

    go : ((v : ℕ) × (v < n) × (f v ≡ true)) ⊎ ((v : ℕ) → v < n → f v ≡ true → ⊥) → (f n ≡ true) ⊎ (f n ≡ true → ⊥)
        → ((v : ℕ) × (v < suc n) × (f v ≡ true)) ⊎ ((v : ℕ) → v < suc n → f v ≡ true → ⊥)
    go (inl r) d = inl (r.0, omega (arith, r.1), r.2)
    go (inr h) (inl p) = inl (n, lt-suc_self n, p)
    go (inr h) (inr k) = inr (λ v l p. last h k v (eq-or-lt_of_le (le_of_suc-le-suc l)) p)

-- so one that is not within b has a bit that is off in b, and one that is not apart from b a bit that is on there
pub not_within : (n a b : ℕ) → a < 2 ^ n → (within a b ≡ true → ⊥) → (v : ℕ) × (v < n) × (on v a ≡ true) × (on v b ≡ true → ⊥)
not_within n a b l h = go (find n (λ v. on v a && not (on v b)))
  where
    go : ((v : ℕ) × (v < n) × ((on v a && not (on v b)) ≡ true)) ⊎ ((v : ℕ) → v < n → (on v a && not (on v b)) ≡ true → ⊥)
        → (v : ℕ) × (v < n) × (on v a ≡ true) × (on v b ≡ true → ⊥)
    go (inl r) = (r.0, r.1, and_l (on r.0 a) (not (on r.0 b)) r.2, not_e (on r.0 b) (and_r (on r.0 a) (not (on r.0 b)) r.2))
    go (inr k) =
        absurd (h (on_within n a b l
        (λ v m p. passes (on v b) (λ f. k v m (and_i (on v a) (not (on v b)) p (not_i (on v b) f))))))

pub not_apart : (n a b : ℕ) → a < 2 ^ n → (apart a b ≡ true → ⊥) → (v : ℕ) × (v < n) × (on v a ≡ true) × (on v b ≡ true)
not_apart n a b l h = go (find n (λ v. on v a && on v b))
  where
    go : ((v : ℕ) × (v < n) × ((on v a && on v b) ≡ true)) ⊎ ((v : ℕ) → v < n → (on v a && on v b) ≡ true → ⊥)
        → (v : ℕ) × (v < n) × (on v a ≡ true) × (on v b ≡ true)
    go (inl r) = (r.0, r.1, and_l (on r.0 a) (on r.0 b) r.2, and_r (on r.0 a) (on r.0 b) r.2)
    go (inr k) = absurd (h (on_apart n a b l (λ v m p q. k v m (and_i (on v a) (on v b) p q))))

-- a bit on in a mask below 2^n is below n
pub on_below : (n a v : ℕ) → a < 2 ^ n → on v a ≡ true → v < n
on_below zero a v l p = absurd (false≢true (sym (off_zero v) ∙ subst (λ (x : ℕ). on v x ≡ true) (lt-one l) p))
on_below (suc n) a zero l p = zero-lt-suc n
on_below (suc n) a (suc v) l p = suc-le-suc (on_below n (a / 2) v (half_bound n a l) (sym (on_suc v a) ∙ p))

-- ---- one more bit

pub add_on : (v x : ℕ) → bit v x ≡ 0 → bit v (x + 2 ^ v) ≡ 1
add_on zero x e = omega (arith, bit_zero x, bit_zero (x + 1))
add_on (suc v) x e =
    bit_suc v (x + 2 ^ suc v) ∙ ap (bit v) (half_add v x) ∙ add_on v (x / 2) (sym (bit_suc v x) ∙ e)

pub add_other : (u v x : ℕ) → (u ≡ v → ⊥) → bit v x ≡ 0 → bit u (x + 2 ^ v) ≡ bit u x
add_other zero zero x h e = absurd (h refl)
add_other zero (suc v) x h e = bit_zero (x + 2 ^ suc v) ∙ omega (arith, pow-suc 2 v) ∙ sym (bit_zero x)
add_other (suc u) zero x h e =
    bit_suc u (x + 1) ∙ ap (bit u) (omega (arith, bit_zero x)) ∙ sym (bit_suc u x)
add_other (suc u) (suc v) x h e =
    bit_suc u (x + 2 ^ suc v) ∙ ap (bit u) (half_add v x)
    ∙ add_other u v (x / 2) (λ p. h (ap suc p)) (sym (bit_suc v x) ∙ e) ∙ sym (bit_suc u x)

pub add_below : (n v x : ℕ) → x < 2 ^ n → v < n → bit v x ≡ 0 → x + 2 ^ v < 2 ^ n
add_below zero v x l k e = absurd (not-suc-le-zero k)
add_below (suc n) zero x l k e = omega (arith, pow-suc 2 n, bit_zero x)
add_below (suc n) (suc v) x l k e =
    omega (arith, pow-suc 2 n, pow-suc 2 v, add_below n v (x / 2) (half_bound n x l) (le_of_suc-le-suc k) (sym (bit_suc v x) ∙ e))

-- ---- one bit fewer in a mask

pub on_le : (v x : ℕ) → on v x ≡ true → 2 ^ v ≤ x
on_le zero x p = omega (arith, on_bit zero x p, bit_zero x)
on_le (suc v) x p = omega (arith, pow-suc 2 v, on_le v (x / 2) (sym (on_suc v x) ∙ p))

pub sub_bit : (v x : ℕ) → on v x ≡ true → bit v (x - 2 ^ v) ≡ 0
sub_bit zero x p = omega (arith, on_bit zero x p, bit_zero x, bit_zero (x - 1))
sub_bit (suc v) x p =
    let q : on v (x / 2) ≡ true = sym (on_suc v x) ∙ p in
    bit_suc v (x - 2 ^ suc v)
    ∙ ap (bit v) (omega (arith, pow-suc 2 v, on_le v (x / 2) q))
    ∙ sub_bit v (x / 2) q

pub sub_off : (v x : ℕ) → on v x ≡ true → on v (x - 2 ^ v) ≡ true → ⊥
sub_off v x p = bit_off v (x - 2 ^ v) (sub_bit v x p)

pub sub_other : (u v x : ℕ) → (u ≡ v → ⊥) → on v x ≡ true → on u (x - 2 ^ v) ≡ on u x
sub_other u v x d p =
    let k : bit u (x - 2 ^ v + 2 ^ v) ≡ bit u (x - 2 ^ v) = add_other u v (x - 2 ^ v) d (sub_bit v x p) in
    let e : x - 2 ^ v + 2 ^ v ≡ x = omega (arith, on_le v x p) in
    let q : bit u x ≡ bit u (x - 2 ^ v) = ap (bit u) (sym e) ∙ k in
    same_test (on u (x - 2 ^ v)) (on u x) (λ o. bit_on u x (q ∙ on_bit u (x - 2 ^ v) o)) (λ o. bit_on u (x - 2 ^ v) (sym q ∙ on_bit u x o))

-- ---- the bits of a that b lacks

less_half : (a b : ℕ) → (a - bit_and a b) / 2 ≡ a / 2 - bit_and (a / 2) (b / 2)
less_half a b = omega (arith, and_step a b, and_le_l (a / 2) (b / 2))

less_odd : (a b : ℕ) → (a - bit_and a b) % 2 ≡ a % 2 - min (a % 2) (b % 2)
less_odd a b = omega (arith, and_step a b, and_le_l (a / 2) (b / 2))

bit_less : (v a b : ℕ) → bit v (a - bit_and a b) ≡ bit v a - min (bit v a) (bit v b)
bit_less zero a b = bit_zero (a - bit_and a b) ∙ less_odd a b ∙ ap₂ (λ (x y : ℕ). x - min x y) (sym (bit_zero a)) (sym (bit_zero b))
bit_less (suc v) a b =
    bit_suc v (a - bit_and a b) ∙ ap (bit v) (less_half a b) ∙ bit_less v (a / 2) (b / 2)
    ∙ ap₂ (λ (x y : ℕ). x - min x y) (sym (bit_suc v a)) (sym (bit_suc v b))

pub on_less : (v a b : ℕ) → on v (a - bit_and a b) ≡ (on v a && not (on v b))
on_less v a b =
    same_test (on v (a - bit_and a b)) (on v a && not (on v b))
    (λ e.
    let k = on_bit v (a - bit_and a b) e in
    and_i (on v a) (not (on v b)) (bit_on v a (omega (arith, bit_less v a b, k, bit_lt v a)))
    (not_i (on v b) (λ q. omega (arith, bit_less v a b, k, bit_lt v a, on_bit v b q))))
    (λ e.
    bit_on v (a - bit_and a b)
    (omega (arith, bit_less v a b, on_bit v a (and_l (on v a) (not (on v b)) e), off_bit v b (not_e (on v b) (and_r (on v a) (not (on v b)) e)))))

pub on_and : (v a b : ℕ) → on v (bit_and a b) ≡ (on v a && on v b)
on_and v a b =
    same_test (on v (bit_and a b)) (on v a && on v b)
    (λ e.
    let k = on_bit v (bit_and a b) e in
    and_i (on v a) (on v b) (bit_on v a (omega (arith, bit_and_lem v a b, k, bit_lt v a))) (bit_on v b (omega (arith, bit_and_lem v a b, k, bit_lt v b))))
    (λ e. bit_on v (bit_and a b) (omega (arith, bit_and_lem v a b, on_bit v a (and_l (on v a) (on v b) e), on_bit v b (and_r (on v a) (on v b) e))))

-- ---- the complement, and numbers by their bits

-- the bits of 2^n - 1 - x are those of x turned over
pub not_on : (n x v : ℕ) → x < 2 ^ n → v < n → on v x ≡ true → on v (2 ^ n - 1 - x) ≡ true → ⊥
not_on zero x v l k p q = absurd (not-suc-le-zero k)
not_on (suc n) x zero l k p q =
    omega (arith, pow-suc 2 n, bit_zero x, bit_zero (2 ^ suc n - 1 - x), on_bit zero x p, on_bit zero (2 ^ suc n - 1 - x) q)
not_on (suc n) x (suc v) l k p q =
    not_on n (x / 2) v (half_bound n x l) (le_of_suc-le-suc k) (sym (on_suc v x) ∙ p)
    (ap (on v) (sym (half_not n x l)) ∙ sym (on_suc v (2 ^ suc n - 1 - x)) ∙ q)

pub on_not : (n x v : ℕ) → x < 2 ^ n → v < n → (on v x ≡ true → ⊥) → on v (2 ^ n - 1 - x) ≡ true
on_not zero x v l k p = absurd (not-suc-le-zero k)
on_not (suc n) x zero l k p =
    bit_on zero (2 ^ suc n - 1 - x) (omega (arith, pow-suc 2 n, bit_zero x, bit_zero (2 ^ suc n - 1 - x), off_bit zero x p))
on_not (suc n) x (suc v) l k p =
    on_suc v (2 ^ suc n - 1 - x) ∙ ap (on v) (half_not n x l)
    ∙ on_not n (x / 2) v (half_bound n x l) (le_of_suc-le-suc k) (λ q. p (on_suc v x ∙ q))

pub on_complement : (n x v : ℕ) → x < 2 ^ n → v < n → on v (2 ^ n - 1 - x) ≡ not (on v x)
on_complement n x v l k =
    same_test (on v (2 ^ n - 1 - x)) (not (on v x)) (λ e. not_i (on v x) (λ q. not_on n x v l k q e)) (λ e. on_not n x v l k (not_e (on v x) e))

-- two numbers below 2^n with the same bits are equal
pub same_bits : (n a b : ℕ) → a < 2 ^ n → b < 2 ^ n → ((v : ℕ) → v < n → on v a ≡ on v b) → a ≡ b
same_bits n a b la lb h =
    within_antisym a b (on_within n a b la (λ v l p. sym (h v l) ∙ p)) (on_within n b a lb (λ v l p. h v l ∙ p))

-- `a & !b` of words of 32 bits
pub and_less : (a b : ℕ) → a < 2 ^ 32 → b < 2 ^ 32 → bit_and a (4294967295 - b) ≡ a - bit_and a b
and_less a b la lb =
    same_bits 32 (bit_and a (4294967295 - b)) (a - bit_and a b) (omega (arith, and_le_l a (4294967295 - b))) (omega arith)
    (λ v l. on_and v a (4294967295 - b) ∙ ap (λ (t : Bool). on v a && t) (on_complement 32 b v lb l) ∙ sym (on_less v a b))

-- ---- the bits of a | b

or_half : (a b : ℕ) → bit_or a b / 2 ≡ bit_or (a / 2) (b / 2)
or_half a b = omega (arith, or_step a b)

or_odd : (a b : ℕ) → bit_or a b % 2 ≡ max (a % 2) (b % 2)
or_odd a b = omega (arith, or_step a b)

pub bit_or_lem : (v a b : ℕ) → bit v (bit_or a b) ≡ max (bit v a) (bit v b)
bit_or_lem zero a b = bit_zero (bit_or a b) ∙ or_odd a b ∙ ap₂ max (sym (bit_zero a)) (sym (bit_zero b))
bit_or_lem (suc v) a b =
    bit_suc v (bit_or a b) ∙ ap (bit v) (or_half a b) ∙ bit_or_lem v (a / 2) (b / 2)
    ∙ ap₂ max (sym (bit_suc v a)) (sym (bit_suc v b))

pub on_or_l : (v a b : ℕ) → on v a ≡ true → on v (bit_or a b) ≡ true
on_or_l v a b p = bit_on v (bit_or a b) (omega (arith, bit_or_lem v a b, on_bit v a p, bit_lt v b))

pub on_or_r : (v a b : ℕ) → on v b ≡ true → on v (bit_or a b) ≡ true
on_or_r v a b p = bit_on v (bit_or a b) (omega (arith, bit_or_lem v a b, on_bit v b p, bit_lt v a))

pub on_or_e : (v a b : ℕ) → on v (bit_or a b) ≡ true → (on v a ≡ true) ⊎ (on v b ≡ true)
on_or_e v a b p = go (either (on v a))
  where
    go : (on v a ≡ true) ⊎ (on v a ≡ true → ⊥) → (on v a ≡ true) ⊎ (on v b ≡ true)
    go (inl q) = inl q
    go (inr q) = inr (bit_on v b (omega (arith, bit_or_lem v a b, on_bit v (bit_or a b) p, off_bit v a q)))

pub on_or : (v a b : ℕ) → on v (bit_or a b) ≡ (on v a || on v b)
on_or v a b = same_test (on v (bit_or a b)) (on v a || on v b) (λ e. to (on_or_e v a b e)) (λ e. from (or_e (on v a) (on v b) e))
  where
    to : (on v a ≡ true) ⊎ (on v b ≡ true) → (on v a || on v b) ≡ true
    to (inl q) = or_l (on v a) (on v b) q
    to (inr q) = or_r (on v a) (on v b) q

    from : (on v a ≡ true) ⊎ (on v b ≡ true) → on v (bit_or a b) ≡ true
    from (inl q) = on_or_l v a b q
    from (inr q) = on_or_r v a b q

-- ---- the tests bit by bit are the tests by one `&`

pub relays_i : (v : ℕ) → v < 10 → Mem v relays
unfolding relays
relays_i v l = each_i 10 (λ u. u ∷ []) v l (here refl)

pub all_on_within : (a b : ℕ) → a < 1024 → all_on a b ≡ within a b
unfolding all_on
all_on_within a b l =
    same_test (all_on a b) (within a b)
    (λ e. on_within 10 a b l (λ v k p. come (on v a) (on v b) p (all_e (λ u. not (on u a) || on u b) (relays_i v k) e)))
    (λ e. all_i (λ u. not (on u a) || on u b) relays (λ v m. go (on v a) (on v b) (λ p. within_on a b v e p)))
  where
    come : (x y : Bool) → x ≡ true → (not x || y) ≡ true → y ≡ true
    come true y p e = e
    come false y p e = absurd (false≢true p)

    go : (x y : Bool) → (x ≡ true → y ≡ true) → (not x || y) ≡ true
    go true y f = f refl
    go false y f = refl

pub all_off_apart : (a b : ℕ) → a < 1024 → all_off a b ≡ apart a b
unfolding all_off
all_off_apart a b l =
    same_test (all_off a b) (apart a b)
    (λ e. on_apart 10 a b l (λ v k p q. come (on v a) (on v b) p q (all_e (λ u. not (on u a) || not (on u b)) (relays_i v k) e)))
    (λ e. all_i (λ u. not (on u a) || not (on u b)) relays (λ v m. go (on v a) (on v b) (λ p q. apart_on a b v e p q)))
  where
    come : (x y : Bool) → x ≡ true → y ≡ true → (not x || not y) ≡ true → ⊥
    come true y p q e = not_e y e q
    come false y p q e = false≢true p

    go : (x y : Bool) → (x ≡ true → y ≡ true → ⊥) → (not x || not y) ≡ true
    go true y f = not_i y (λ q. f refl q)
    go false y f = refl

-- ---- the mask of the relays at which a test passes

pub bits_lt : (n : ℕ) (f : ℕ → Bool) → bits_where n f < 2 ^ n
unfolding bits_where
bits_lt zero f = pow_pos 0
bits_lt (suc n) f = go (f n) (bits_lt n f)
  where
    go : (b : Bool) → bits_where n f < 2 ^ n → bits_where n f + bit_if b n < 2 ^ suc n
    go true l = omega (arith, pow-suc 2 n)
    go false l = omega (arith, pow-suc 2 n)

pub bits_on : (n : ℕ) (f : ℕ → Bool) (h : ℕ) → h < n → on h (bits_where n f) ≡ f h
unfolding bits_where
bits_on zero f h l = absurd (not-suc-le-zero l)
bits_on (suc n) f h l = go (eq-or-lt_of_le (le_of_suc-le-suc l)) (λ (k : h < n). bits_on n f h k)
  where
    a : ℕ
    a = bits_where n f

    off : on n a ≡ true → ⊥
    off p = lt_irrefl n (on_below n a n (bits_lt n f) p)

    top : (b : Bool) → on n (a + bit_if b n) ≡ b
    top true = bit_on n (a + 2 ^ n) (add_on n a (off_bit n a off))
    top false = false_test (on n (a + 0)) (λ p. off (subst (λ (y : ℕ). on n y ≡ true) (add-zero a) p))

    low : (b : Bool) → h < n → on h (a + bit_if b n) ≡ on h a
    low true k =
        same_test (on h (a + 2 ^ n)) (on h a)
        (λ p. bit_on h a (sym (other k) ∙ on_bit h (a + 2 ^ n) p)) (λ p. bit_on h (a + 2 ^ n) (other k ∙ on_bit h a p))
      where
        other : h < n → bit h (a + 2 ^ n) ≡ bit h a
        other k = add_other h n a (λ e. omega arith) (off_bit n a off)
    low false k = ap (on h) (add-zero a)

    go : (h ≡ n) ⊎ (h < n) → (h < n → on h a ≡ f h) → on h (a + bit_if (f n) n) ≡ f h
    go (inl e) rec = subst (λ (k : ℕ). on k (a + bit_if (f n) n) ≡ f k) (sym e) (top (f n))
    go (inr k) rec = low (f n) k ∙ rec k

-- tests that agree on the relays below n have one mask
pub bits_ext : (n : ℕ) (f g : ℕ → Bool) → ((v : ℕ) → v < n → f v ≡ g v) → bits_where n f ≡ bits_where n g
unfolding bits_where
bits_ext zero f g h = refl
bits_ext (suc n) f g h = ap₂ (λ (a : ℕ) (b : Bool). a + bit_if b n) (bits_ext n f g (λ v l. h v (omega arith))) (h n (lt-suc_self n))
