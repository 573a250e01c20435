-- Loops that look through a list for an element that passes a test: what is left at each turn.
use mathlib.Core.Path.{◌≡◌, refl, ap}
use mathlib.Core.Logic.{◌⊎◌, inl, inr}
use mathlib.Core.Bool.{Bool, true, false, ◌&&◌}
use mathlib.Core.List.Memᴰ
use mathlib.Core.List.Memᴰ.{head as here}
use mathlib.Core.List.{List, [], ◌∷◌, Memᴰ as Mem}
use Prim.Native.Nat.{ℕ, suc, ◌+◌, ◌≤◌, ◌<◌}
use native.Mathlib.Numerals.{add-one}
use native.Mathlib.Omega.{arith}
use lib.ListN.{length, drop, get_or, drop_of_length-le}
use lib.Seq.{drop-cons}
use lib.Dec.{leb, ltb}
use borrow.Author.Tests.{leb-true, le-leb, ltb-true, lt-ltb}
use Rattle.table.specs.Lists.{any, all, increasing}
use Rattle.table.proofs.Basics.{and_l, and_r, and_i, all_e, all_i, same_test, false_test}

-- ---- some element passes f

-- the test of what is left from k on; shut at its uses, so that proofs leave its arguments out
unfoldable pub any_left : (ℕ → Bool) → List ℕ → ℕ → Bool
any_left f s k = any f (drop k s)

pub any_start : (f : ℕ → Bool) (s : List ℕ) → any f s ≡ any_left f s 0
unfolding any_left
any_start f s = refl

module _ (f : ℕ → Bool) (s : List ℕ) (k : ℕ) (l : k < length s) where
  pub any_here : f (get_or s k 0) ≡ true → any_left f s k ≡ true
  unfolding any_left
  any_here e = rw (drop-cons s k 0 l) (simp e)

  pub any_more : f (get_or s k 0) ≡ false → any_left f s k ≡ any_left f s (k + 1)
  unfolding any_left
  any_more e = rw (drop-cons s k 0 l, add-one k) (simp e)

pub any_end : (f : ℕ → Bool) (s : List ℕ) (k : ℕ) → length s ≤ k → any_left f s k ≡ false
unfolding any_left
any_end f s k l = rw (drop_of_length-le s {i = k} l)

-- ---- every element passes f, and the values of g rise from lo on

abbrev pub rises_from : (ℕ → Bool) → (ℕ → ℕ) → ℕ → List ℕ → Bool
rises_from f g lo [] = true
rises_from f g lo (x ∷ xs) = f x && (leb lo (g x) && rises_from f g (suc (g x)) xs)

-- each value of g is below all that follow it
abbrev pub rises_by : (ℕ → ℕ) → List ℕ → Bool
rises_by g [] = true
rises_by g (x ∷ xs) = all (λ y. ltb (g x) (g y)) xs && rises_by g xs

pub increasing_rises : (s : List ℕ) → increasing s ≡ rises_by (λ x. x) s
increasing_rises [] = refl
increasing_rises (x ∷ xs) = ap (λ (b : Bool). all (ltb x) xs && b) (increasing_rises xs)

pub record Rises (f : ℕ → Bool) (g : ℕ → ℕ) (lo : ℕ) (s : List ℕ) : Type 0 where
  pub passing : all f s ≡ true
  pub above : (x : ℕ) → Mem x s → lo ≤ g x
  pub rising : rises_by g s ≡ true

pub rises_e : (f : ℕ → Bool) (g : ℕ → ℕ) (lo : ℕ) (s : List ℕ) → rises_from f g lo s ≡ true → Rises f g lo s
rises_e f g lo [] e = record { passing = refl; above = λ x m. absurd (Memᴰ.not-nil m); rising = refl }
rises_e f g lo (x ∷ xs) e =
    let e1 = and_r (f x) (leb lo (g x) && rises_from f g (suc (g x)) xs) e in
    let k = rises_e f g (suc (g x)) xs (and_r (leb lo (g x)) (rises_from f g (suc (g x)) xs) e1) in
    let l : lo ≤ g x = leb-true lo (g x) (and_l (leb lo (g x)) (rises_from f g (suc (g x)) xs) e1) in
    record {
      passing = and_i (f x) (all f xs) (and_l (f x) (leb lo (g x) && rises_from f g (suc (g x)) xs) e) k.passing;
      above = λ y m. go l k.above y (Memᴰ.cases_cons m);
      rising = and_i (all (λ y. ltb (g x) (g y)) xs) (rises_by g xs)
          (all_i (λ y. ltb (g x) (g y)) xs (λ y m. lt-ltb (g x) (g y) (k.above y m))) k.rising;
    }
  where
    go : lo ≤ g x → ((y : ℕ) → Mem y xs → suc (g x) ≤ g y) → (y : ℕ) → (y ≡ x) ⊎ Mem y xs → lo ≤ g y
    go l h y (inl p) = rw p l
    go l h y (inr m) = omega (arith, h y m)

pub rises_i : (f : ℕ → Bool) (g : ℕ → ℕ) (lo : ℕ) (s : List ℕ) → Rises f g lo s → rises_from f g lo s ≡ true
rises_i f g lo [] k = refl
rises_i f g lo (x ∷ xs) k =
    and_i (f x) (leb lo (g x) && rises_from f g (suc (g x)) xs) (and_l (f x) (all f xs) k.passing)
    (and_i (leb lo (g x)) (rises_from f g (suc (g x)) xs) (le-leb lo (g x) (k.above x (here refl)))
    (rises_i f g (suc (g x)) xs (record {
      passing = and_r (f x) (all f xs) k.passing;
      above = λ y m. ltb-true (g x) (g y) (all_e (λ z. ltb (g x) (g z)) m (and_l (all (λ z. ltb (g x) (g z)) xs) (rises_by g xs) k.rising));
      rising = and_r (all (λ z. ltb (g x) (g z)) xs) (rises_by g xs) k.rising;
    })))

-- the two tests in one loop
pub rises_is : (f : ℕ → Bool) (g : ℕ → ℕ) (s : List ℕ) → (all f s && rises_by g s) ≡ rises_from f g 0 s
rises_is f g s =
    same_test (all f s && rises_by g s) (rises_from f g 0 s)
    (λ e. rises_i f g 0 s (record { passing = and_l (all f s) (rises_by g s) e; above = λ x m. omega arith; rising = and_r (all f s) (rises_by g s) e }))
    (λ e. let k = rises_e f g 0 s e in and_i (all f s) (rises_by g s) k.passing k.rising)

-- what is left from k on, values from lo on
unfoldable pub rises_left : (ℕ → Bool) → (ℕ → ℕ) → ℕ → List ℕ → ℕ → Bool
rises_left f g lo s k = rises_from f g lo (drop k s)

pub rises_start : (f : ℕ → Bool) (g : ℕ → ℕ) (s : List ℕ) → rises_from f g 0 s ≡ rises_left f g 0 s 0
unfolding rises_left
rises_start f g s = refl

module _ (f : ℕ → Bool) (g : ℕ → ℕ) (lo : ℕ) (s : List ℕ) (k : ℕ) (l : k < length s) where
  pub rises_fail : f (get_or s k 0) ≡ false → rises_left f g lo s k ≡ false
  unfolding rises_left
  rises_fail e = rw (drop-cons s k 0 l) (simp e)

  module _ (e : f (get_or s k 0) ≡ true) (x : ℕ) (ex : x ≡ g (get_or s k 0)) where
    pub rises_low : x < lo → rises_left f g lo s k ≡ false
    unfolding rises_left
    rises_low h =
        let q : leb lo (g (get_or s k 0)) ≡ false = false_test (leb lo (g (get_or s k 0))) (λ p. omega (arith, leb-true lo (g (get_or s k 0)) p)) in
        rw (drop-cons s k 0 l) (simp (e, q))

    pub rises_more : lo ≤ x → rises_left f g lo s k ≡ rises_left f g (x + 1) s (k + 1)
    unfolding rises_left
    rises_more h =
        let q : leb lo (g (get_or s k 0)) ≡ true = le-leb lo (g (get_or s k 0)) (omega arith) in
        rw (drop-cons s k 0 l, add-one k, add-one x, ex) (simp (e, q))

pub rises_end : (f : ℕ → Bool) (g : ℕ → ℕ) (lo : ℕ) (s : List ℕ) (k : ℕ) → length s ≤ k → rises_left f g lo s k ≡ true
unfolding rises_left
rises_end f g lo s k l = rw (drop_of_length-le s {i = k} l)
