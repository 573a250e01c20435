-- Elements in one list and in another: what two increasing lists share, and how a change of list is counted.
use mathlib.Core.Path.{◌≡◌, refl, ap, ap₂}
use mathlib.Core.Bool.{Bool, true, false, not}
use mathlib.Core.List.Memᴰ
use mathlib.Core.List.Memᴰ.{head as here}
use mathlib.Core.List.Memᴰ.{tail as there}
use mathlib.Core.List.{List, [], ◌∷◌, Memᴰ as Mem}
use Prim.Native.Nat.{ℕ, suc, ◌+◌, ◌≤◌}
use native.Mathlib.Omega.{arith}
use lib.ListN.{length}
use lib.Dec.{eqb}
use borrow.Author.Tests.{eqb-true, eq-eqb}
use Rattle.table.specs.Lists.{cons_if, filter, increasing, has, missing}
use Rattle.table.proofs.Basics.{any_e, any_i, filter_e, filter_i}
use Rattle.table.proofs.Increasing.{filter_increasing, increasing_unique}

pub has_e : (x : ℕ) (s : List ℕ) → has x s ≡ true → Mem x s
unfolding has
has_e x s e = let k = any_e (eqb x) s e in Memᴰ.cast (eqb-true x k.0 k.2) k.1

pub has_i : (x : ℕ) (s : List ℕ) → Mem x s → has x s ≡ true
unfolding has
has_i x s m = any_i (eqb x) m (eq-eqb x x refl)

-- a test parts a list in two
pub parted : (f : ℕ → Bool) (s : List ℕ) → length (filter f s) + length (filter (λ x. not (f x)) s) ≡ length s
parted f [] = refl
parted f (x ∷ xs) = go (f x) (parted f xs)
  where
    go : (b : Bool) → length (filter f xs) + length (filter (λ y. not (f y)) xs) ≡ length xs
        → length (cons_if b x (filter f xs)) + length (cons_if (not b) x (filter (λ y. not (f y)) xs)) ≡ suc (length xs)
    go true ih = omega (arith, ih)
    go false ih = omega (arith, ih)

-- what two increasing lists share is the same list, seen from either
pub shared : (s t : List ℕ) → increasing s ≡ true → increasing t ≡ true → filter (λ x. has x t) s ≡ filter (λ x. has x s) t
shared s t p q =
    increasing_unique (filter (λ x. has x t) s) (filter (λ x. has x s) t)
    (filter_increasing (λ x. has x t) s p) (filter_increasing (λ x. has x s) t q)
    (λ x m. let k = filter_e (λ y. has y t) s m in filter_i (λ y. has y s) (has_e x t k.1) (has_i x s k.0))
    (λ x m. let k = filter_e (λ y. has y s) t m in filter_i (λ y. has y t) (has_e x s k.1) (has_i x t k.0))

-- so what goes and what comes balance
pub balance : (old new : List ℕ) → increasing old ≡ true → increasing new ≡ true
    → length new + missing new old ≡ length old + missing old new
unfolding missing
balance old new p q =
    omega (arith, parted (λ x. has x new) old, parted (λ x. has x old) new, ap length (shared old new p q))

-- tests that agree on the elements cond the same
pub filter_ext : (f g : ℕ → Bool) (s : List ℕ) → ((x : ℕ) → Mem x s → f x ≡ g x) → filter f s ≡ filter g s
filter_ext f g [] h = refl
filter_ext f g (x ∷ xs) h = ap₂ (λ (b : Bool) (l : List ℕ). cons_if b x l) (h x (here refl)) (filter_ext f g xs (λ y m. h y (there m)))

pub missing_le : (ys xs : List ℕ) → missing ys xs ≤ length xs
unfolding missing
missing_le ys xs = omega (arith, parted (λ x. not (has x ys)) xs)
