-- What a code picks, and ladders of refusals.
use mathlib.Core.Path.{◌≡◌, refl, sym, ap}
use mathlib.Core.Bool.{Bool, true, false, not}
use Prim.Native.Nat.{ℕ, zero, suc}
use native.Mathlib.Omega.{arith}
use lib.Dec.{eqb}
use borrow.Author.Tests.{eqb-true, eqb-false, eq-eqb, ne_eqb}
use Rattle.answers.specs.Answers.{refuse, if_done}

-- a refusal picks the second
pub if_refused : {A : Type 0} (c : ℕ) (a b : A) → (c ≡ 0 → ⊥) → if_done c a b ≡ b
if_refused zero a b f = absurd (f refl)
if_refused (suc c) a b f = refl

-- code 0 picks the first
pub if_done_lem : {A : Type 0} (c : ℕ) (a b : A) → c ≡ 0 → if_done c a b ≡ a
if_done_lem c a b e = ap (λ (k : ℕ). if_done k a b) e

-- a test that passed refuses, and one that failed goes on
pub refuse_now : (b : Bool) (code later : ℕ) → b ≡ true → refuse b code later ≡ code
refuse_now b code later e = ap (λ (x : Bool). refuse x code later) e

pub refuse_later : (b : Bool) (code later : ℕ) → b ≡ false → refuse b code later ≡ later
refuse_later b code later e = ap (λ (x : Bool). refuse x code later) e

-- where a ladder ends with 0, none of its tests passed
pub refuse_none : (b : Bool) (code later : ℕ) → refuse b (suc code) later ≡ 0 → (b ≡ false) × (later ≡ 0)
refuse_none true code later e = absurd (suc_not_zero e)
  where
    suc_not_zero : {k : ℕ} → suc k ≡ 0 → ⊥
    suc_not_zero {k} p = omega (arith, p)
refuse_none false code later e = (refl, e)

-- a code that is asked first, and then other tests
pub refuse_first : (c later : ℕ) → (c ≡ 0 → ⊥) → c ≡ refuse (not (eqb c 0)) c later
refuse_first c later f = sym (ap (λ (b : Bool). refuse (not b) c later) (ne_eqb c 0 f))

pub refuse_after : (c later : ℕ) → c ≡ 0 → refuse (not (eqb c 0)) c later ≡ later
refuse_after c later e = ap (λ (b : Bool). refuse (not b) c later) (eq-eqb c 0 e)

pub refuse_both : (c later : ℕ) → refuse (not (eqb c 0)) c later ≡ 0 → (c ≡ 0) × (later ≡ 0)
refuse_both c later e = go (eqb c 0) refl e
  where
    go : (b : Bool) → eqb c 0 ≡ b → refuse (not b) c later ≡ 0 → (c ≡ 0) × (later ≡ 0)
    go true p q = (eqb-true c 0 p, q)
    go false p q = (q, absurd (eqb-false c 0 p q))
