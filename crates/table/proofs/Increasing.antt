-- Strictly increasing lists: how they arise, and that their members determine them.
use mathlib.Core.Path.{◌≡◌, refl, sym, ap₂}
use mathlib.Core.Logic.{◌⊎◌, inl, inr}
use mathlib.Core.Bool.{Bool, true, false}
use mathlib.Core.List.Memᴰ
use mathlib.Core.List.Memᴰ.{head as here}
use mathlib.Core.List.Memᴰ.{tail as there}
use mathlib.Core.List.{List, [], ◌∷◌, ◌++◌, Memᴰ as Mem}
use Prim.Native.Nat.{ℕ, zero, suc, ◌≤◌, ◌<◌}
use native.Mathlib.Nat.{lt-suc_self, le_refl, le_of_suc-le-suc, not-suc-le-zero}
use lib.ListN.{length, get_or}
use Rattle.std.specs.List.Sorted.{IsNonDecreasingBy}
use Rattle.std.proofs.lemmas.List.Sorted.{IsNonDecreasingBy-from_default}
use native.Mathlib.Omega.{arith}
use lib.Dec.{ltb}
use borrow.Author.Tests.{ltb-true, lt-ltb}
use Rattle.table.specs.Lists.{all, cons_if, filter, each, increasing}
use Rattle.table.proofs.Basics.{and_l, and_r, and_i, all_e, all_i, filter_e, each_e, at_in}

pub first_below : (x : ℕ) (xs : List ℕ) → increasing (x ∷ xs) ≡ true → {y : ℕ} → Mem y xs → x < y
first_below x xs e {y} m = ltb-true x y (all_e (ltb x) m (and_l (all (ltb x) xs) (increasing xs) e))

pub rest_increasing : (x : ℕ) (xs : List ℕ) → increasing (x ∷ xs) ≡ true → increasing xs ≡ true
rest_increasing x xs e = and_r (all (ltb x) xs) (increasing xs) e

pub cons_increasing : (x : ℕ) (xs : List ℕ) → ((y : ℕ) → Mem y xs → x < y) → increasing xs ≡ true → increasing (x ∷ xs) ≡ true
cons_increasing x xs h e = and_i (all (ltb x) xs) (increasing xs) (all_i (ltb x) xs (λ y m. lt-ltb x y (h y m))) e

-- what a binary search asks
pub increasing_ordered : (s : List ℕ) → increasing s ≡ true → IsNonDecreasingBy (λ x. x) s
increasing_ordered s h = IsNonDecreasingBy-from_default (λ x. x) s 0 (go s h)
  where
    go : (s : List ℕ) → increasing s ≡ true → (i j : ℕ) → i ≤ j → j < length s → get_or s i 0 ≤ get_or s j 0
    go [] h i j k l = absurd (not-suc-le-zero l)
    go (x ∷ xs) h zero zero k l = le_refl x
    go (x ∷ xs) h zero (suc j) k l = let b = first_below x xs h (at_in xs j (le_of_suc-le-suc l)) in omega (arith, b)
    go (x ∷ xs) h (suc i) zero k l = absurd (not-suc-le-zero k)
    go (x ∷ xs) h (suc i) (suc j) k l = go xs (rest_increasing x xs h) i j (le_of_suc-le-suc k) (le_of_suc-le-suc l)

pub filter_increasing : (f : ℕ → Bool) (s : List ℕ) → increasing s ≡ true → increasing (filter f s) ≡ true
filter_increasing f [] e = refl
filter_increasing f (x ∷ xs) e = go (f x) (filter_increasing f xs (rest_increasing x xs e))
  where
    go : (b : Bool) → increasing (filter f xs) ≡ true → increasing (cons_if b x (filter f xs)) ≡ true
    go true ih = cons_increasing x (filter f xs) (λ y m. first_below x xs e (filter_e f xs m).0) ih
    go false ih = ih

pub append_increasing : (s t : List ℕ) → increasing s ≡ true → increasing t ≡ true
    → ((x y : ℕ) → Mem x s → Mem y t → x < y) → increasing (s ++ t) ≡ true
append_increasing [] t p q h = q
append_increasing (x ∷ xs) t p q h =
    cons_increasing x (xs ++ t) (λ y m. after y (Memᴰ.append_cases xs m))
    (append_increasing xs t (rest_increasing x xs p) q (λ y z m k. h y z (there m) k))
  where
    after : (y : ℕ) → Mem y xs ⊎ Mem y t → x < y
    after y (inl m) = first_below x xs p m
    after y (inr m) = h x y (here refl) m

-- the parts of `each` are increasing, and lie one after the other between the bounds lo 0, lo 1, ..
pub each_increasing : (lo : ℕ → ℕ) → ((i j : ℕ) → i ≤ j → lo i ≤ lo j) → (k : ℕ) (f : ℕ → List ℕ)
    → ((i : ℕ) → i < k → increasing (f i) ≡ true)
    → ((i x : ℕ) → i < k → Mem x (f i) → (lo i ≤ x) × (x < lo (suc i)))
    → increasing (each k f) ≡ true
each_increasing lo mono zero f h b = refl
each_increasing lo mono (suc k) f h b =
    append_increasing (each k f) (f k)
    (each_increasing lo mono k f (λ i l. h i (le_suc_lt l)) (λ i x l m. b i x (le_suc_lt l) m))
    (h k (lt-suc_self k))
    (λ x y m n. before x y (each_e k f m) n)
  where
    le_suc_lt : {i : ℕ} → i < k → i < suc k
    le_suc_lt l = omega arith

    before : (x y : ℕ) → (i : ℕ) × (i < k) × Mem x (f i) → Mem y (f k) → x < y
    before x y r n =
        let up : lo (suc r.0) ≤ lo k = mono (suc r.0) k r.1 in
        let p : (lo r.0 ≤ x) × (x < lo (suc r.0)) = b r.0 x (le_suc_lt r.1) r.2 in
        let q : (lo k ≤ y) × (y < lo (suc k)) = b k y (lt-suc_self k) n in
        omega (arith, p.1, q.0, up)

-- two increasing lists with the same members are equal
pub increasing_unique : (s t : List ℕ) → increasing s ≡ true → increasing t ≡ true
    → ((x : ℕ) → Mem x s → Mem x t) → ((x : ℕ) → Mem x t → Mem x s) → s ≡ t
increasing_unique [] [] p q f g = refl
increasing_unique [] (y ∷ ys) p q f g = absurd (Memᴰ.not-nil (g y (here refl)))
increasing_unique (x ∷ xs) [] p q f g = absurd (Memᴰ.not-nil (f x (here refl)))
increasing_unique (x ∷ xs) (y ∷ ys) p q f g =
    ap₂ (λ (a : ℕ) (l : List ℕ). a ∷ l) first
    (increasing_unique xs ys (rest_increasing x xs p) (rest_increasing y ys q)
    (λ z m. onward z (first_below x xs p m) (Memᴰ.cases_cons (f z (there m))))
    (λ z m. back z (first_below y ys q m) (Memᴰ.cases_cons (g z (there m)))))
  where
    meet : (x ≡ y) ⊎ Mem x ys → (y ≡ x) ⊎ Mem y xs → x ≡ y
    meet (inl e) d = e
    meet (inr m) (inl e) = sym e
    meet (inr m) (inr n) = omega (arith, first_below x xs p n, first_below y ys q m)

    first : x ≡ y
    first = meet (Memᴰ.cases_cons (f x (here refl))) (Memᴰ.cases_cons (g y (here refl)))

    onward : (z : ℕ) → x < z → (z ≡ y) ⊎ Mem z ys → Mem z ys
    onward z l (inl e) = absurd (omega (arith, first))
    onward z l (inr m) = m

    back : (z : ℕ) → y < z → (z ≡ x) ⊎ Mem z xs → Mem z xs
    back z l (inl e) = absurd (omega (arith, first))
    back z l (inr m) = m
