-- Laws of numbers written in decimal: reading one gives the number back.
use Prim.Native.Nat.{ℕ, zero, suc, ◌+◌, ◌/◌, ◌%◌, ◌≤◌, ◌<◌}
use mathlib.Core.Path.{◌≡◌, refl, sym, ◌∙◌, ap}
use mathlib.Core.List.{List, [], ◌∷◌, ◌++◌}
use mathlib.Core.Bool.{Bool, true, false, cond}
use native.Mathlib.Omega.{arith}
use native.Mathlib.Nat.{div-add-mod', zero-add}
use lib.Dec.{ltb}
use lib.ListN.{length, get_or, length-append, get_or-append}
use borrow.Author.Tests.{le-leb, lt-ltb, le-ltb, ltb-true, ltb-false}
use Rattle.std.specs.Prelude.{Option, Some}
use Rattle.fields.specs.Bytes.{mark_of}
use Rattle.fields.specs.Decimals.{decimal_from, decimal}
use Rattle.fields.specs.Values.{digit_of, digits, number_of}
use Rattle.fields.specs.declared.Mark.TheVariants.{Digit}
use Rattle.fields.proofs.ValueLaws.{number_digits}

-- the bound does not matter as long as it is large enough
bound_enough : (f g v : ℕ) → v ≤ f → v ≤ g → decimal_from f v ≡ decimal_from g v
unfolding decimal_from
bound_enough zero zero v h k = refl
bound_enough zero (suc g) v h k = rw (lt-ltb v 10 (omega arith))
bound_enough (suc f) zero v h k = rw (lt-ltb v 10 (omega arith))
bound_enough (suc f) (suc g) v h k = go (ltb v 10) refl (λ l m. bound_enough f g (v / 10) l m)
  where
    go : (t : Bool) → ltb v 10 ≡ t → (v / 10 ≤ f → v / 10 ≤ g → decimal_from f (v / 10) ≡ decimal_from g (v / 10))
        → cond t ((48 + v) ∷ []) (decimal_from f (v / 10) ++ ((48 + v % 10) ∷ [])) ≡ cond t ((48 + v) ∷ []) (decimal_from g (v / 10) ++ ((48 + v % 10) ∷ []))
    go true e r = refl
    go false e r =
        let l = ltb-false v 10 e in
        ap (λ (x : List ℕ). x ++ ((48 + v % 10) ∷ [])) (r (omega arith) (omega arith))

-- one digit, and one digit more
pub decimal_one : (v : ℕ) → v < 10 → decimal v ≡ (48 + v) ∷ []
unfolding decimal decimal_from
decimal_one zero h = refl
decimal_one (suc v) h = rw (lt-ltb (suc v) 10 h)

pub decimal_more : (v : ℕ) → 10 ≤ v → decimal v ≡ decimal (v / 10) ++ ((48 + v % 10) ∷ [])
unfolding decimal decimal_from
decimal_more zero h = absurd (omega arith)
decimal_more (suc v) h =
    rw (le-ltb (suc v) 10 h) (ap (λ (x : List ℕ). x ++ ((48 + suc v % 10) ∷ [])) (bound_enough v (suc v / 10) (suc v / 10) (omega arith) (omega arith)))

-- a byte of a digit
pub digit_mark : (d : ℕ) → d < 10 → mark_of (48 + d) ≡ Digit d
unfolding mark_of
digit_mark d h = rw (le-leb 48 (48 + d) (omega arith), le-leb (48 + d) 57 (omega arith)) (ap Digit (omega arith))

digits_append : (n : Option ℕ) (s t : List ℕ) → digits n (s ++ t) ≡ digits (digits n s) t
unfolding digits
digits_append n [] t = refl
digits_append n (b ∷ s) t = digits_append (digit_of n (mark_of b)) s t

digit_last : (n : Option ℕ) (d : ℕ) → d < 10 → digits n ((48 + d) ∷ []) ≡ digit_of n (Digit d)
unfolding digits
digit_last n d h = ap (λ (m : _). digit_of n m) (digit_mark d h)

digits_decimal : (f v : ℕ) → v ≤ f → digits (Some 0) (decimal_from f v) ≡ Some v
unfolding decimal_from
digits_decimal zero v h = digit_last (Some 0) v (omega arith) ∙ ap Some (zero-add v)
digits_decimal (suc f) v h = go (ltb v 10) refl (λ l. digits_decimal f (v / 10) l)
  where
    go : (t : Bool) → ltb v 10 ≡ t → (v / 10 ≤ f → digits (Some 0) (decimal_from f (v / 10)) ≡ Some (v / 10))
        → digits (Some 0) (cond t ((48 + v) ∷ []) (decimal_from f (v / 10) ++ ((48 + v % 10) ∷ []))) ≡ Some v
    go true e r = digit_last (Some 0) v (ltb-true v 10 e) ∙ ap Some (zero-add v)
    go false e r =
        let l = ltb-false v 10 e in
        digits_append (Some 0) (decimal_from f (v / 10)) ((48 + v % 10) ∷ [])
        ∙ ap (λ (n : Option ℕ). digits n ((48 + v % 10) ∷ [])) (r (omega arith))
        ∙ digit_last (Some (v / 10)) (v % 10) (omega arith)
        ∙ ap Some (div-add-mod' v 10)

-- there is a first digit, and it is 0 only of 0 itself
decimal_some : (f v : ℕ) → 1 ≤ length (decimal_from f v)
unfolding decimal_from
decimal_some zero v = omega arith
decimal_some (suc f) v = go (ltb v 10)
  where
    go : (t : Bool) → 1 ≤ length (cond t ((48 + v) ∷ []) (decimal_from f (v / 10) ++ ((48 + v % 10) ∷ [])))
    go true = omega arith
    go false = omega (arith, length-append (decimal_from f (v / 10)) ((48 + v % 10) ∷ []))

first_digit : (f v : ℕ) → v ≤ f → 1 ≤ v → 48 < get_or (decimal_from f v) 0 0
unfolding decimal_from
first_digit zero v h k = omega arith
first_digit (suc f) v h k = go (ltb v 10) refl (λ l m. first_digit f (v / 10) l m)
  where
    go : (t : Bool) → ltb v 10 ≡ t → (v / 10 ≤ f → 1 ≤ v / 10 → 48 < get_or (decimal_from f (v / 10)) 0 0)
        → 48 < get_or (cond t ((48 + v) ∷ []) (decimal_from f (v / 10) ++ ((48 + v % 10) ∷ []))) 0 0
    go true e r = omega arith
    go false e r =
        let l = ltb-false v 10 e in
        rw (get_or-append (decimal_from f (v / 10)) ((48 + v % 10) ∷ []) 0 0 (decimal_some f (v / 10))) (r (omega arith) (omega arith))

-- reading a number that was written gives it back
pub number_decimal : (v : ℕ) → number_of (decimal v) ≡ Some v
unfolding decimal number_of decimal_from
number_decimal zero = digits_decimal 0 0 (omega arith)
number_decimal (suc v) =
    sym (number_digits (decimal_from (suc v) (suc v)) (λ e. none (length (decimal_from (suc v) (suc v))) (decimal_some (suc v) (suc v)) e)
    (λ _ e. lead (get_or (decimal_from (suc v) (suc v)) 0 0) (first_digit (suc v) (suc v) (omega arith) (omega arith)) e))
    ∙ digits_decimal (suc v) (suc v) (omega arith)
  where
    none : (n : ℕ) → 1 ≤ n → n ≡ 0 → ⊥
    none n h e = omega arith

    lead : (b : ℕ) → 48 < b → b ≡ 48 → ⊥
    lead b h e = omega arith

-- two numbers that are written the same are the same
pub decimal_unique : (v w : ℕ) → decimal v ≡ decimal w → v ≡ w
decimal_unique v w h =
    let e : Some v ≡ Some w = sym (number_decimal v) ∙ ap number_of h ∙ number_decimal w in
    cc

-- every byte of a list is a digit
abbrev pub AllDigits : List ℕ → Type 0
AllDigits [] = Unit {0}
AllDigits (b ∷ s) = ((d : ℕ) × (mark_of b ≡ Digit d)) × AllDigits s

append_digits : (s t : List ℕ) → AllDigits s → AllDigits t → AllDigits (s ++ t)
append_digits [] t h k = k
append_digits (b ∷ s) t h k = (h.0, append_digits s t h.1 k)

from_all_digits : (f v : ℕ) → v ≤ f → AllDigits (decimal_from f v)
unfolding decimal_from
from_all_digits zero v h = ((v, digit_mark v (omega arith)), tt)
from_all_digits (suc f) v h = go (ltb v 10) refl (λ l. from_all_digits f (v / 10) l)
  where
    go : (t : Bool) → ltb v 10 ≡ t → (v / 10 ≤ f → AllDigits (decimal_from f (v / 10)))
        → AllDigits (cond t ((48 + v) ∷ []) (decimal_from f (v / 10) ++ ((48 + v % 10) ∷ [])))
    go true e r = ((v, digit_mark v (ltb-true v 10 e)), tt)
    go false e r =
        let l = ltb-false v 10 e in
        append_digits (decimal_from f (v / 10)) ((48 + v % 10) ∷ []) (r (omega arith)) ((v % 10, digit_mark (v % 10) (omega arith)), tt)

pub decimal_all_digits : (v : ℕ) → AllDigits (decimal v)
unfolding decimal
decimal_all_digits v = from_all_digits v v (omega arith)

pub decimal_length : (v : ℕ) → 1 ≤ length (decimal v)
unfolding decimal
decimal_length v = decimal_some v v

pub decimal_longer : (v : ℕ) → 10 ≤ v → length (decimal v) ≡ length (decimal (v / 10)) + 1
decimal_longer v h = ap length (decimal_more v h) ∙ length-append (decimal (v / 10)) ((48 + v % 10) ∷ [])

from_short : (f v : ℕ) → v ≤ f → length (decimal_from f v) ≤ v + 1
unfolding decimal_from
from_short zero v h = omega arith
from_short (suc f) v h = go (ltb v 10) refl (λ l. from_short f (v / 10) l)
  where
    go : (t : Bool) → ltb v 10 ≡ t → (v / 10 ≤ f → length (decimal_from f (v / 10)) ≤ v / 10 + 1)
        → length (cond t ((48 + v) ∷ []) (decimal_from f (v / 10) ++ ((48 + v % 10) ∷ []))) ≤ v + 1
    go true e r = omega arith
    go false e r =
        let l = ltb-false v 10 e in
        let q = r (omega arith) in
        omega (arith, length-append (decimal_from f (v / 10)) ((48 + v % 10) ∷ []))

pub decimal_short : (v : ℕ) → length (decimal v) ≤ v + 1
unfolding decimal
decimal_short v = from_short v v (omega arith)
