-- The fresh sheet, written rule by rule.
use mathlib.Core.Path.{◌≡◌, refl, sym, ap, ap₂, ◌∙◌}
use mathlib.Core.List.{List, [], ◌∷◌, ◌++◌, append_assoc}
use Prim.Native.Nat.{ℕ, zero, suc, ◌+◌, ◌<◌}
use native.Mathlib.Numerals.{add-one}
use native.Mathlib.Omega.{arith}
use lib.ListN.{length, drop, set, length-append}
use lib.Seq.{drop-cons, set-append_seam}
use Rattle.panel.specs.Rules.{rule_word}
use Rattle.prime.specs.Sheets.{fresh_sheet}

pub fresh_length : (n : ℕ) → length (fresh_sheet n) ≡ n
unfolding fresh_sheet
fresh_length zero = refl
fresh_length (suc n) = length-append (fresh_sheet n) (rule_word n 0 0 ∷ []) ∙ omega (arith, fresh_length n)

pub fresh_start : (s : List ℕ) → s ≡ fresh_sheet 0 ++ drop 0 s
unfolding fresh_sheet
fresh_start s = refl

pub fresh_more : (s s₀ : List ℕ) (h : ℕ) → h < length s₀ → s ≡ fresh_sheet h ++ drop h s₀ → set s h (rule_word h 0 0) ≡ fresh_sheet (h + 1) ++ drop (h + 1) s₀
unfolding fresh_sheet
fresh_more s s₀ h l e =
    ap₂ (λ (x : List ℕ) (i : ℕ). set x i (rule_word h 0 0)) (e ∙ ap (λ (y : List ℕ). fresh_sheet h ++ y) (drop-cons s₀ h 0 l)) (sym (fresh_length h))
    ∙ set-append_seam (fresh_sheet h) _ (drop (suc h) s₀) (rule_word h 0 0)
    ∙ sym (append_assoc (fresh_sheet h) (rule_word h 0 0 ∷ []) (drop (suc h) s₀))
    ∙ ap (λ (x : ℕ). fresh_sheet x ++ drop x s₀) (sym (add-one h))
