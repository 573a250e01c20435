-- The tests on words as code makes them.
use mathlib.Core.Path.{◌≡◌, refl, sym, ap, ◌∙◌}
use mathlib.Core.Bool.{Bool, true, false, ◌&&◌}
use Prim.Native.Nat.{ℕ, ◌/◌, ◌%◌, ◌^◌, ◌<◌}
use native.Mathlib.Omega.{arith}
use lib.Bits.{bit_and}
use lib.Dec.{eqb, ltb}
use borrow.Author.Tests.{ltb-false}
use Rattle.table.proofs.Basics.{false_test}
use Rattle.panel.specs.Masks.{on, apart}
use Rattle.panel.specs.Rules.{head, must_on, must_off, valid_rule}
use Rattle.panel.proofs.Masks.{on_below, all_off_apart}
use Rattle.panel.proofs.Words.{must_on_small}

-- relay v is on in x, a word of 32 bits: a shift asks for v below 32
pub on_tests : (v x : ℕ) → x < 2 ^ 32 → on v x ≡ (ltb v 32 && eqb (x / 2 ^ v % 2) 1)
unfolding on
on_tests v x l = go (ltb v 32) refl
  where
    go : (b : Bool) → ltb v 32 ≡ b → on v x ≡ (b && eqb (x / 2 ^ v % 2) 1)
    go true e = refl
    go false e = false_test (on v x) (λ p. omega (arith, on_below 32 x v l p, ltb-false v 32 e))

-- a rule word, test by test
pub rule_tests : (n w : ℕ) → valid_rule n w ≡ (ltb (head w) n && (ltb (must_on w) (2 ^ n) && (ltb (must_off w) (2 ^ n) && eqb (bit_and (must_on w) (must_off w)) 0)))
unfolding valid_rule apart
rule_tests n w = rw (all_off_apart (must_on w) (must_off w) (must_on_small w))

-- ---- `if a { b } else { false }` and `a && b`

pub both_then : (x a b y : Bool) → x ≡ a → x ≡ true → y ≡ b → y ≡ (a && b)
both_then x a b y ex e ey = ey ∙ sym (ap (λ (z : Bool). z && b) (sym ex ∙ e))

pub both_else : (x a b : Bool) → x ≡ a → x ≡ false → false ≡ (a && b)
both_else x a b ex e = sym (ap (λ (z : Bool). z && b) (sym ex ∙ e))
