-- The part of an increasing list between two words, and the places where it stands.
use mathlib.Core.Path.{◌≡◌, refl, sym, ap, ◌∙◌}
use mathlib.Core.Logic.{◌⊎◌, inl, inr}
use mathlib.Core.Bool.{Bool, true, false, ◌&&◌}
use mathlib.Core.List.Memᴰ
use mathlib.Core.List.Memᴰ.{head as here}
use mathlib.Core.List.{List, [], ◌∷◌, ◌++◌, Memᴰ as Mem}
use Prim.Native.Nat.{ℕ, ◌-◌, ◌≤◌, ◌<◌}
use native.Mathlib.Nat.{sub-zero, suc-sub-suc}
use native.Mathlib.Omega.{arith}
use lib.Dec.{ltb, leb}
use lib.ListN.{take, drop}
use borrow.Author.Tests.{ltb-true, lt-ltb, leb-true, le-leb, ltb-false, le-ltb, lt-leb}
use Rattle.table.specs.Lists.{cons_if, increasing, has, between}
use Rattle.table.specs.Surgery.{place_of, one_more_if}
use Rattle.table.proofs.Basics.{and_l, and_r, and_i, filter_e, filter_i, single_e, single_i, single_increasing}
use Rattle.table.proofs.Increasing.{first_below, rest_increasing, filter_increasing, append_increasing, increasing_unique}
use Rattle.table.proofs.Counting.{has_e, has_i}

module _ (lo hi : ℕ) where
  pub between_e : (s : List ℕ) (x : ℕ) → Mem x (between lo hi s) → Mem x s × (lo ≤ x) × (x < hi)
  unfolding between
  between_e s x m =
      let k = filter_e (λ w. leb lo w && ltb w hi) s m in
      (k.0, leb-true lo x (and_l (leb lo x) (ltb x hi) k.1), ltb-true x hi (and_r (leb lo x) (ltb x hi) k.1))

  pub between_i : (s : List ℕ) (x : ℕ) → Mem x s → lo ≤ x → x < hi → Mem x (between lo hi s)
  unfolding between
  between_i s x m a b = filter_i (λ w. leb lo w && ltb w hi) m (and_i (leb lo x) (ltb x hi) (le-leb lo x a) (lt-ltb x hi b))

  pub between_increasing : (s : List ℕ) → increasing s ≡ true → increasing (between lo hi s) ≡ true
  unfolding between
  between_increasing s e = filter_increasing (λ w. leb lo w && ltb w hi) s e

  -- an increasing list with those members is that part
  pub between_unique : (s t : List ℕ) → increasing s ≡ true → increasing t ≡ true
      → ((x : ℕ) → Mem x s → lo ≤ x → x < hi → Mem x t) → ((x : ℕ) → Mem x t → Mem x s × (lo ≤ x) × (x < hi))
      → between lo hi s ≡ t
  between_unique s t is it f g =
      increasing_unique (between lo hi s) t (between_increasing s is) it
      (λ x m. let k = between_e s x m in f x k.0 k.1 k.2)
      (λ x m. let k = g x m in between_i s x k.0 k.1 k.2)

  pub between_none : (s : List ℕ) → increasing s ≡ true → ((x : ℕ) → Mem x s → lo ≤ x → x < hi → ⊥) → between lo hi s ≡ []
  between_none s is f = between_unique s [] is refl (λ x m a b. absurd (f x m a b)) (λ x m. absurd (Memᴰ.not-nil m))

  pub between_whole : (s : List ℕ) → increasing s ≡ true → ((x : ℕ) → Mem x s → (lo ≤ x) × (x < hi)) → between lo hi s ≡ s
  between_whole s is f = between_unique s s is is (λ x m a b. m) (λ x m. let k = f x m in (m, k.0, k.1))

pub between_empty : (s : List ℕ) (lo : ℕ) → increasing s ≡ true → between lo lo s ≡ []
between_empty s lo is = between_none lo lo s is (λ x m a b. omega (arith, a, b))

pub between_split : (s : List ℕ) → increasing s ≡ true → (lo mid hi : ℕ) → lo ≤ mid → mid ≤ hi
    → between lo hi s ≡ between lo mid s ++ between mid hi s
between_split s is lo mid hi p q =
    between_unique lo hi s (between lo mid s ++ between mid hi s) is
    (append_increasing (between lo mid s) (between mid hi s) (between_increasing lo mid s is) (between_increasing mid hi s is)
    (λ x y a b. omega (arith, (between_e lo mid s x a).2, (between_e mid hi s y b).1)))
    (λ x m a b. side x m a b (ltb x mid) refl)
    (λ x m. back x (Memᴰ.append_cases (between lo mid s) m))
  where
    side : (x : ℕ) → Mem x s → lo ≤ x → x < hi → (t : Bool) → ltb x mid ≡ t → Mem x (between lo mid s ++ between mid hi s)
    side x m a b true e = Memᴰ.append_left (between mid hi s) (between_i lo mid s x m a (ltb-true x mid e))
    side x m a b false e = Memᴰ.append_right (between lo mid s) (between_i mid hi s x m (ltb-false x mid e) b)

    back : (x : ℕ) → Mem x (between lo mid s) ⊎ Mem x (between mid hi s) → Mem x s × (lo ≤ x) × (x < hi)
    back x (inl m) = let k = between_e lo mid s x m in (k.0, k.1, omega (arith, k.2))
    back x (inr m) = let k = between_e mid hi s x m in (k.0, omega (arith, k.1), k.2)

-- one step of a walk: from w to r, with nothing of s between them
between_step : (s : List ℕ) → increasing s ≡ true → (w r : ℕ) → w < r → ((x : ℕ) → Mem x s → w < x → x < r → ⊥)
    → between w r s ≡ cons_if (has w s) w []
between_step s is w r l f =
    between_unique w r s (cons_if (has w s) w []) is (single_increasing (has w s) w)
    (λ x m a b. at x m a b (ltb w x) refl)
    (λ x m. let k = single_e (has w s) m in (rw k.0 (has_e w s k.1), omega (arith, k.0), omega (arith, k.0)))
  where
    at : (x : ℕ) → Mem x s → w ≤ x → x < r → (t : Bool) → ltb w x ≡ t → Mem x (cons_if (has w s) w [])
    at x m a b true e = absurd (f x m (ltb-true w x e) b)
    at x m a b false e =
        let q : x ≡ w = omega (arith, ltb-false w x e) in
        single_i (has w s) q (has_i w s (rw q at m))

pub between_more : (s : List ℕ) → increasing s ≡ true → (lo w r : ℕ) → lo ≤ w → w < r → ((x : ℕ) → Mem x s → w < x → x < r → ⊥)
    → between lo r s ≡ between lo w s ++ cons_if (has w s) w []
between_more s is lo w r a l f =
    between_split s is lo w r a (omega arith) ∙ ap (λ (t : List ℕ). between lo w s ++ t) (between_step s is w r l f)

-- ---- by places

place_first : (x : ℕ) (s : List ℕ) → ((w : ℕ) → Mem w s → x ≤ w) → place_of x s ≡ 0
place_first x [] f = refl
place_first x (z ∷ zs) f = ap (λ (b : Bool). one_more_if b (place_of x zs)) (le-ltb z x (f z (here refl)))

-- the words between two places are those between two values
pub between_places : (x y : ℕ) → x ≤ y → (s : List ℕ) → increasing s ≡ true
    → take (place_of y s - place_of x s) (drop (place_of x s) s) ≡ between x y s
unfolding between
between_places x y l [] e = refl
between_places x y l (z ∷ zs) e = go (ltb z x) refl (ltb z y) refl (between_places x y l zs (rest_increasing z zs e))
  where
    shape : (a b c : Bool) → ltb z x ≡ a → ltb z y ≡ b → leb x z ≡ c
        → take (one_more_if b (place_of y zs) - one_more_if a (place_of x zs)) (drop (one_more_if a (place_of x zs)) (z ∷ zs)) ≡ cons_if (c && b) z (between x y zs)
        → take (place_of y (z ∷ zs) - place_of x (z ∷ zs)) (drop (place_of x (z ∷ zs)) (z ∷ zs)) ≡ between x y (z ∷ zs)
    shape a b c p q r g = rw (p, q, r) g

    go : (a : Bool) → ltb z x ≡ a → (b : Bool) → ltb z y ≡ b → take (place_of y zs - place_of x zs) (drop (place_of x zs) zs) ≡ between x y zs
        → take (place_of y (z ∷ zs) - place_of x (z ∷ zs)) (drop (place_of x (z ∷ zs)) (z ∷ zs)) ≡ between x y (z ∷ zs)
    go true p true q ih = shape true true false p q (lt-leb x z (ltb-true z x p)) (rw suc-sub-suc ih)
    go true p false q ih = absurd (omega (arith, ltb-true z x p, ltb-false z y q))
    go false p true q ih =
        let i : place_of x zs ≡ 0 = place_first x zs (λ w m. omega (arith, ltb-false z x p, first_below z zs e m)) in
        shape false true true p q (le-leb x z (ltb-false z x p))
        (rw sub-zero (ap (λ (t : List ℕ). z ∷ t) (rw (i, sub-zero) at ih)))
    go false p false q ih =
        shape false false true p q (le-leb x z (ltb-false z x p))
        (sym (between_none x y zs (rest_increasing z zs e) (λ w m a b. omega (arith, ltb-false z y q, first_below z zs e m, b))))
