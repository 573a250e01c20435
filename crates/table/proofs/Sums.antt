-- Sums over a list, and a list with one element removed.
use mathlib.Core.Path.{◌≡◌, refl, sym, ap, ◌∙◌}
use mathlib.Core.Bool.{Bool, true, false, not, cond}
use mathlib.Core.List.Memᴰ
use mathlib.Core.List.Memᴰ.{head as here}
use mathlib.Core.List.Memᴰ.{tail as there}
use mathlib.Core.List.{List, [], ◌∷◌, Memᴰ as Mem}
use Prim.Native.Nat.{ℕ, suc, ◌+◌, ◌≤◌}
use native.Mathlib.Nat.{le_refl}
use native.Mathlib.Omega.{arith}
use lib.ListN.{length}
use lib.Dec.{eqb, ltb}
use borrow.Author.Tests.{eqb-true, eq-eqb}
use Rattle.table.specs.Lists.{remove, cons_if, filter, increasing, insert, insert_all}
use Rattle.table.proofs.Basics.{not_i, not_e, filter_e, filter_i}
use Rattle.table.proofs.Increasing.{filter_increasing, increasing_unique}
use Rattle.table.proofs.Counting.{parted}

-- ---- sums over a list, and one element less

unfoldable pub sum : (ℕ → ℕ) → List ℕ → ℕ
sum f [] = 0
sum f (x ∷ xs) = f x + sum f xs

sum_insert : (f : ℕ → ℕ) (x : ℕ) (s : List ℕ) → sum f (insert x s) ≡ f x + sum f s
unfolding sum
sum_insert f x [] = refl
sum_insert f x (y ∷ ys) = go (ltb y x) (sum_insert f x ys)
  where
    go : (b : Bool) → sum f (insert x ys) ≡ f x + sum f ys → sum f (cond b (y ∷ insert x ys) (x ∷ y ∷ ys)) ≡ f x + (f y + sum f ys)
    go true ih = omega (arith, ih)
    go false ih = refl

pub sum_insert_all : (f : ℕ → ℕ) (xs s : List ℕ) → sum f (insert_all xs s) ≡ sum f xs + sum f s
unfolding sum
sum_insert_all f [] s = omega arith
sum_insert_all f (x ∷ xs) s = omega (arith, sum_insert_all f xs (insert x s), sum_insert f x s)

pub sum_parted : (f : ℕ → ℕ) (g : ℕ → Bool) (s : List ℕ) → sum f (filter g s) + sum f (filter (λ x. not (g x)) s) ≡ sum f s
unfolding sum
sum_parted f g [] = refl
sum_parted f g (x ∷ xs) = go (g x) (sum_parted f g xs)
  where
    go : (b : Bool) → sum f (filter g xs) + sum f (filter (λ y. not (g y)) xs) ≡ sum f xs
        → sum f (cons_if b x (filter g xs)) + sum f (cons_if (not b) x (filter (λ y. not (g y)) xs)) ≡ f x + sum f xs
    go true ih = omega (arith, ih)
    go false ih = omega (arith, ih)

pub sum_ones : (f : ℕ → ℕ) (s : List ℕ) → ((x : ℕ) → Mem x s → f x ≡ 1) → sum f s ≡ length s
unfolding sum
sum_ones f [] h = refl
sum_ones f (x ∷ xs) h = omega (arith, h x (here refl), sum_ones f xs (λ y m. h y (there m)))

-- every element counts at least 1
pub sum_at_least : (f : ℕ → ℕ) (s : List ℕ) → ((x : ℕ) → Mem x s → 1 ≤ f x) → length s ≤ sum f s
unfolding sum
sum_at_least f [] h = le_refl 0
sum_at_least f (x ∷ xs) h = omega (arith, h x (here refl), sum_at_least f xs (λ y m. h y (there m)))

pub remove_e : (b : ℕ) (s : List ℕ) {r : ℕ} → Mem r (remove b s) → Mem r s × (r ≡ b → ⊥)
unfolding remove
remove_e b s {r} m = let k = filter_e (λ x. not (eqb x b)) s m in (k.0, λ e. not_e (eqb r b) k.1 (eq-eqb r b e))

pub remove_i : (b : ℕ) {r : ℕ} {s : List ℕ} → Mem r s → (r ≡ b → ⊥) → Mem r (remove b s)
unfolding remove
remove_i b {r = r} m f = filter_i (λ x. not (eqb x b)) m (not_i (eqb r b) (λ e. f (eqb-true r b e)))

pub remove_increasing : (b : ℕ) (s : List ℕ) → increasing s ≡ true → increasing (remove b s) ≡ true
unfolding remove
remove_increasing b s i = filter_increasing (λ x. not (eqb x b)) s i

-- what is removed is the one element b
gone : (b : ℕ) (s : List ℕ) → increasing s ≡ true → Mem b s → filter (λ x. not (not (eqb x b))) s ≡ b ∷ []
gone b s i m =
    increasing_unique (filter (λ x. not (not (eqb x b))) s) (b ∷ []) (filter_increasing (λ x. not (not (eqb x b))) s i) refl
    (λ x k. here (is x (filter_e (λ y. not (not (eqb y b))) s k).1))
    (λ x k. filter_i (λ y. not (not (eqb y b))) (Memᴰ.cast (Memᴰ.eq_of_singleton k) m) (back x (Memᴰ.eq_of_singleton k)))
  where
    double : (a : Bool) → not (not a) ≡ a
    double true = refl
    double false = refl

    is : (x : ℕ) → not (not (eqb x b)) ≡ true → x ≡ b
    is x e = eqb-true x b (sym (double (eqb x b)) ∙ e)

    back : (x : ℕ) → x ≡ b → not (not (eqb x b)) ≡ true
    back x e = double (eqb x b) ∙ eq-eqb x b e

pub remove_sum : (f : ℕ → ℕ) (b : ℕ) (s : List ℕ) → increasing s ≡ true → Mem b s → sum f (remove b s) + f b ≡ sum f s
unfolding remove sum
remove_sum f b s i m =
    omega (arith, sum_parted f (λ x. not (eqb x b)) s, ap (sum f) (gone b s i m))

pub remove_length : (b : ℕ) (s : List ℕ) → increasing s ≡ true → Mem b s → suc (length (remove b s)) ≡ length s
unfolding remove
remove_length b s i m = omega (arith, parted (λ x. not (eqb x b)) s, ap length (gone b s i m))
