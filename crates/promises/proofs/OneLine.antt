-- The line of a refusal tells its code and its place, and is no sheet's text.
use Prim.Native.Nat.{ℕ}
use mathlib.Core.Path.{◌≡◌, refl, sym, ap, ap₂, ◌∙◌}
use mathlib.Core.Bool.{false≢true}
use mathlib.Core.List.{List, [], ◌∷◌, ◌++◌, append_cancel_left, append_cancel_right, head-eq_of_cons-eq, tail-eq_of_cons-eq}
use native.Mathlib.Omega.{arith}
use Rattle.fields.specs.Bytes.{mark_of, space_mark}
use Rattle.fields.specs.Decimals.{decimal}
use Rattle.fields.proofs.DecimalLaws.{AllDigits, decimal_all_digits, decimal_unique}
use Rattle.writing.specs.TableText.{header_text, table_text}
use Rattle.writing.specs.SheetText.{sheet_text}
use Rattle.program.specs.Program.{refusal_line}

-- no digit is a blank
no_blank : (b : ℕ) (s : List ℕ) → AllDigits (b ∷ s) → 32 ≡ b → ⊥
unfolding mark_of
no_blank b s h e = false≢true (sym (ap space_mark h.0.1) ∙ ap (λ (z : ℕ). space_mark (mark_of z)) (sym e))

-- digits up to the first blank
digits_cut : (a b x y : List ℕ) → AllDigits a → AllDigits b → a ++ 32 ∷ x ≡ b ++ 32 ∷ y → (a ≡ b) × (x ≡ y)
digits_cut [] [] x y h k e = (refl, tail-eq_of_cons-eq e)
digits_cut [] (c ∷ b) x y h k e = absurd (no_blank c b k (head-eq_of_cons-eq e))
digits_cut (c ∷ a) [] x y h k e = absurd (no_blank c a h (sym (head-eq_of_cons-eq e)))
digits_cut (c ∷ a) (d ∷ b) x y h k e =
    let r = digits_cut a b x y h.1 k.1 (tail-eq_of_cons-eq e) in
    (ap₂ (λ (z : ℕ) (zs : List ℕ). z ∷ zs) (head-eq_of_cons-eq e) r.0, r.1)

pub line_unique : (c p d q : ℕ) → refusal_line c p ≡ refusal_line d q → (c ≡ d) × (p ≡ q)
unfolding refusal_line header_text
line_unique c p d q e =
    let tail = append_cancel_left (114 ∷ 101 ∷ 102 ∷ 117 ∷ 115 ∷ 101 ∷ 100 ∷ 32 ∷ []) _ _ e in
    let k = digits_cut (decimal c) (decimal d) _ _ (decimal_all_digits c) (decimal_all_digits d) tail in
    let digits = append_cancel_right (decimal p) (decimal q) (10 ∷ []) (append_cancel_left (97 ∷ 116 ∷ 32 ∷ []) _ _ k.1) in
    (decimal_unique c d k.0, decimal_unique p q digits)

pub line_not_sheet : (c p n : ℕ) (names : List (List ℕ)) (s : List ℕ) → refusal_line c p ≡ sheet_text n names s → ⊥
unfolding refusal_line sheet_text table_text header_text
line_not_sheet c p n names s e = omega (arith, head-eq_of_cons-eq e)
