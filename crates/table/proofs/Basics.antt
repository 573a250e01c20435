-- Tests and members: what a passed test says, and the members of `filter` and `each`.
use mathlib.Core.Path.{◌≡◌, refl, sym, ap, ◌∙◌, subst, ap₂}
use mathlib.Core.Logic.{◌⊎◌, inl, inr}
use mathlib.Core.Bool.{Bool, true, false, not, ◌&&◌, ◌||◌, false≢true}
use mathlib.Core.List.Memᴰ
use mathlib.Core.List.Memᴰ.{head as here}
use mathlib.Core.List.Memᴰ.{tail as there}
use mathlib.Core.List.{List, [], ◌∷◌, Memᴰ as Mem, ◌++◌, append-nil, append_assoc}
use Prim.Native.Nat.{ℕ, zero, suc, ◌<◌, ◌≤◌}
use native.Mathlib.Nat.{le_of_suc-le-suc, not-suc-le-zero, eq-or-lt_of_le, lt-suc_self}
use native.Mathlib.Omega.{arith}
use lib.ListN.{length, get_or}
use Rattle.table.specs.Lists.{any, all, cons_if, one_if, filter, each, increasing}

-- ---- tests

pub and_l : (a b : Bool) → (a && b) ≡ true → a ≡ true
and_l true b e = refl
and_l false b e = e

pub and_r : (a b : Bool) → (a && b) ≡ true → b ≡ true
and_r true b e = e
and_r false b e = absurd (false≢true e)

pub and_i : (a b : Bool) → a ≡ true → b ≡ true → (a && b) ≡ true
and_i true b p q = q
and_i false b p q = p

pub or_e : (a b : Bool) → (a || b) ≡ true → (a ≡ true) ⊎ (b ≡ true)
or_e true b e = inl refl
or_e false b e = inr e

pub or_l : (a b : Bool) → a ≡ true → (a || b) ≡ true
or_l true b e = refl
or_l false b e = absurd (false≢true e)

pub or_r : (a b : Bool) → b ≡ true → (a || b) ≡ true
or_r true b e = refl
or_r false b e = e

pub or_assoc : (a b c : Bool) → ((a || b) || c) ≡ (a || (b || c))
or_assoc true b c = refl
or_assoc false b c = refl

pub not_i : (a : Bool) → (a ≡ true → ⊥) → not a ≡ true
not_i true f = absurd (f refl)
not_i false f = refl

pub not_e : (a : Bool) → not a ≡ true → a ≡ true → ⊥
not_e true e p = false≢true e
not_e false e p = false≢true p

-- a test passes or not
pub either : (a : Bool) → (a ≡ true) ⊎ (a ≡ true → ⊥)
either true = inl refl
either false = inr false≢true

-- two tests that pass together are equal
pub same_test : (a b : Bool) → (a ≡ true → b ≡ true) → (b ≡ true → a ≡ true) → a ≡ b
same_test true b f g = sym (f refl)
same_test false true f g = g refl
same_test false false f g = refl

-- a test passes unless it fails
pub passes : (a : Bool) → ((a ≡ true → ⊥) → ⊥) → a ≡ true
passes true f = refl
passes false f = absurd (f false≢true)

-- a test that does not pass fails
pub false_test : (a : Bool) → (a ≡ true → ⊥) → a ≡ false
false_test true f = absurd (f refl)
false_test false f = refl

-- ---- members

pub any_e : (f : ℕ → Bool) (s : List ℕ) → any f s ≡ true → (x : ℕ) × Mem x s × (f x ≡ true)
any_e f [] e = absurd (false≢true e)
any_e f (x ∷ xs) e = go (λ (p : any f xs ≡ true). any_e f xs p) (or_e (f x) (any f xs) e)
  where
    go : (any f xs ≡ true → (y : ℕ) × Mem y xs × (f y ≡ true)) → (f x ≡ true) ⊎ (any f xs ≡ true) → (y : ℕ) × Mem y (x ∷ xs) × (f y ≡ true)
    go rec (inl p) = (x, here refl, p)
    go rec (inr p) = let r = rec p in (r.0, there r.1, r.2)

pub any_i : (f : ℕ → Bool) {x : ℕ} {s : List ℕ} → Mem x s → f x ≡ true → any f s ≡ true
any_i f (here {x = y} {xs = ys} e) p = or_l (f y) (any f ys) (ap f (sym e) ∙ p)
any_i f (there {x = y} {xs = ys} m) p = or_r (f y) (any f ys) (any_i f m p)

pub all_e : (f : ℕ → Bool) {x : ℕ} {s : List ℕ} → Mem x s → all f s ≡ true → f x ≡ true
all_e f (here {x = y} {xs = ys} e) p = ap f e ∙ and_l (f y) (all f ys) p
all_e f (there {x = y} {xs = ys} m) p = all_e f m (and_r (f y) (all f ys) p)

pub all_i : (f : ℕ → Bool) (s : List ℕ) → ((x : ℕ) → Mem x s → f x ≡ true) → all f s ≡ true
all_i f [] h = refl
all_i f (x ∷ xs) h = and_i (f x) (all f xs) (h x (here refl)) (all_i f xs (λ y m. h y (there m)))

cons_if_e : {x : ℕ} (b : Bool) (y : ℕ) (ys : List ℕ) → Mem x (cons_if b y ys) → ((x ≡ y) × (b ≡ true)) ⊎ Mem x ys
cons_if_e true y ys (here e) = inl (e, refl)
cons_if_e true y ys (there m) = inr m
cons_if_e false y ys m = inr m

cons_if_there : {x : ℕ} (b : Bool) (y : ℕ) {ys : List ℕ} → Mem x ys → Mem x (cons_if b y ys)
cons_if_there true y m = there m
cons_if_there false y m = m

cons_if_here : {x : ℕ} (b : Bool) (y : ℕ) (ys : List ℕ) → x ≡ y → b ≡ true → Mem x (cons_if b y ys)
cons_if_here true y ys e p = here e
cons_if_here false y ys e p = absurd (false≢true p)

-- a list of one element, or of none

pub single_e : {x y : ℕ} (b : Bool) → Mem x (cons_if b y []) → (x ≡ y) × (b ≡ true)
single_e true (here e) = (e, refl)
single_e true (there m) = absurd (Memᴰ.not-nil m)
single_e false m = absurd (Memᴰ.not-nil m)

pub single_i : {x y : ℕ} (b : Bool) → x ≡ y → b ≡ true → Mem x (cons_if b y [])
single_i true e p = here e
single_i false e p = absurd (false≢true p)

pub single_increasing : (b : Bool) (y : ℕ) → increasing (cons_if b y []) ≡ true
single_increasing true y = refl
single_increasing false y = refl

pub one_length : (b : Bool) (x : ℕ) → length (cons_if b x []) ≡ one_if b
one_length true x = refl
one_length false x = refl

pub one_le : (b : Bool) → one_if b ≤ 1
one_le true = omega arith
one_le false = omega arith

pub filter_e : (f : ℕ → Bool) (s : List ℕ) {x : ℕ} → Mem x (filter f s) → Mem x s × (f x ≡ true)
filter_e f [] m = elim m [ ]
filter_e f (y ∷ ys) {x} m = go (λ (k : Mem x (filter f ys)). filter_e f ys k) (cons_if_e (f y) y (filter f ys) m)
  where
    go : (Mem x (filter f ys) → Mem x ys × (f x ≡ true)) → ((x ≡ y) × (f y ≡ true)) ⊎ Mem x (filter f ys) → Mem x (y ∷ ys) × (f x ≡ true)
    go rec (inl p) = (here p.0, ap f p.0 ∙ p.1)
    go rec (inr k) = let r = rec k in (there r.0, r.1)

pub filter_i : (f : ℕ → Bool) {x : ℕ} {s : List ℕ} → Mem x s → f x ≡ true → Mem x (filter f s)
filter_i f (here {x = y} {xs = ys} e) p = cons_if_here (f y) y (filter f ys) e (ap f (sym e) ∙ p)
filter_i f (there {x = y} {xs = ys} m) p = cons_if_there (f y) y (filter_i f m p)

pub each_e : (k : ℕ) (f : ℕ → List ℕ) {x : ℕ} → Mem x (each k f) → (i : ℕ) × (i < k) × Mem x (f i)
each_e zero f m = elim m [ ]
each_e (suc k) f {x} m = go (λ (p : Mem x (each k f)). each_e k f p) (Memᴰ.append_cases (each k f) m)
  where
    go : (Mem x (each k f) → (i : ℕ) × (i < k) × Mem x (f i)) → Mem x (each k f) ⊎ Mem x (f k) → (i : ℕ) × (i < suc k) × Mem x (f i)
    go rec (inl p) = let r = rec p in (r.0, omega (arith, r.1), r.2)
    go rec (inr p) = (k, lt-suc_self k, p)

-- the element at a place of the list is one of it
pub at_in : (s : List ℕ) (k : ℕ) → k < length s → Mem (get_or s k 0) s
at_in [] k l = absurd (not-suc-le-zero l)
at_in (x ∷ s) zero l = here refl
at_in (x ∷ s) (suc k) l = there (at_in s k (le_of_suc-le-suc l))

-- what is collected depends on what is collected at each number below k
pub each_ext : (k : ℕ) (f g : ℕ → List ℕ) → ((i : ℕ) → i < k → f i ≡ g i) → each k f ≡ each k g
each_ext zero f g h = refl
each_ext (suc k) f g h = ap₂ (λ (a b : List ℕ). a ++ b) (each_ext k f g (λ i l. h i (omega arith))) (h k (lt-suc_self k))

-- what is collected below v comes first
pub each_front : (v n : ℕ) (f : ℕ → List ℕ) → v ≤ n → (zs : List ℕ) × (each n f ≡ each v f ++ zs)
each_front v zero f l = let e : v ≡ 0 = omega arith in ([], rw e refl)
each_front v (suc n) f l = go (eq-or-lt_of_le l) (λ (k : v ≤ n). each_front v n f k)
  where
    go : (v ≡ suc n) ⊎ (v < suc n) → (v ≤ n → (zs : List ℕ) × (each n f ≡ each v f ++ zs)) → (zs : List ℕ) × (each (suc n) f ≡ each v f ++ zs)
    go (inl e) rec = ([], rw e (sym (append-nil (each (suc n) f))))
    go (inr k) rec =
        let r = rec (le_of_suc-le-suc k) in
        (r.0 ++ f n, ap (λ (l : List ℕ). l ++ f n) r.1 ∙ append_assoc (each v f) r.0 (f n))

pub each_i : (k : ℕ) (f : ℕ → List ℕ) {x : ℕ} (i : ℕ) → i < k → Mem x (f i) → Mem x (each k f)
each_i zero f i h m = absurd (not-suc-le-zero h)
each_i (suc k) f {x} i h m = go (λ (l : i < k). each_i k f i l m) (eq-or-lt_of_le (le_of_suc-le-suc h))
  where
    go : (i < k → Mem x (each k f)) → (i ≡ k) ⊎ (i < k) → Mem x (each (suc k) f)
    go rec (inl e) = Memᴰ.append_right (each k f) (subst (λ (j : ℕ). Mem x (f j)) e m)
    go rec (inr l) = Memᴰ.append_left (f k) (rec l)
