-- Join as a walk: inside one head the stretches do for the sheets, and the quick test for `permits`.
use mathlib.Core.Path.{◌≡◌, refl, sym, ap, ap₂, ◌∙◌}
use mathlib.Core.Bool.{Bool, false, ◌&&◌, false≢true}
use mathlib.Core.List.{List, [], ◌∷◌}
use Prim.Native.Nat.{ℕ, ◌≤◌}
use native.Mathlib.Omega.{arith}
use lib.ListN.{length}
use Rattle.table.proofs.Basics.{same_test, and_r}
use Rattle.panel.specs.Rules.{head, of_head}
use Rattle.panel.proofs.Words.{narrows_e}
use Rattle.panel.proofs.Stretches.{stretch_e, stretch_i}
use Rattle.prime.specs.Sheets.{sheet_where, permits, join_sheet}
use Rattle.prime.proofs.Least.{permits_e, permits_i}
use Rattle.spans.specs.Touching.{both_permit, touches, both_touch}
use Rattle.spans.proofs.Touching.{touches_permits}
use Rattle.spans.proofs.Heads.{head_ext, head_none}

-- ---- join is the walk with `both_permit`

pub join_permit : (n : ℕ) (s t : List ℕ) → sheet_where n (both_permit s t) ≡ join_sheet n s t
unfolding both_permit join_sheet
join_permit n s t = refl

pub join_room : (n : ℕ) (s t : List ℕ) (k : ℕ) → length (join_sheet n s t) ≤ k → length (sheet_where n (both_permit s t)) ≤ k
join_room n s t k h = rw join_permit h

-- ---- and inside one head with `both_touch`

-- a head's bodies are permitted by the rules of that head alone
permits_head : (h : ℕ) (s : List ℕ) (w : ℕ) → head w ≡ h → permits (of_head h s) w ≡ permits s w
permits_head h s w e =
    same_test (permits (of_head h s) w) (permits s w)
    (λ p. let k = permits_e (of_head h s) w p in permits_i s w (stretch_e h s k.0 k.1).0 k.2)
    (λ p. let k = permits_e s w p in permits_i (of_head h s) w (stretch_i h s k.0 k.1 (sym (narrows_e w k.0 k.2).one_head ∙ e)) k.2)

-- the stretch of a head touches what the sheet permits
touches_head : (h : ℕ) (s s' : List ℕ) → s' ≡ of_head h s → (w : ℕ) → head w ≡ h → touches s' w ≡ permits s w
touches_head h s s' es w e =
    ap (λ (x : List ℕ). touches x w) es
    ∙ touches_permits (of_head h s) w (λ r m. e ∙ sym (stretch_e h s r m).1)
    ∙ permits_head h s w e

-- the stretches of a head do for the whole sheets, and the quick test for `permits`
pub join_head : (n : ℕ) → n ≤ 10 → (h : ℕ) (s t s' t' : List ℕ) → s' ≡ of_head h s → t' ≡ of_head h t
    → of_head h (sheet_where n (both_touch s' t')) ≡ of_head h (sheet_where n (both_permit s t))
unfolding both_permit both_touch
join_head n small h s t s' t' es et =
    head_ext n small h (both_touch s' t') (both_permit s t)
    (λ w e. ap₂ (λ (a b : Bool). a && b) (touches_head h s s' es w e) (touches_head h t t' et w e))

-- a head that has no rule on one side
pub head_none_left : (n : ℕ) → n ≤ 10 → (h : ℕ) (s t : List ℕ) → length s ≡ 0 → 0 ≡ length (of_head h (sheet_where n (both_touch s t)))
unfolding both_touch touches
head_none_left n small h [] t e = head_none n small h (both_touch [] t) (λ w p. false≢true p)
head_none_left n small h (x ∷ s) t e = absurd (omega (arith, e))

pub head_none_right : (n : ℕ) → n ≤ 10 → (h : ℕ) (s t : List ℕ) → length t ≡ 0 → 0 ≡ length (of_head h (sheet_where n (both_touch s t)))
unfolding both_touch touches
head_none_right n small h s [] e = head_none n small h (both_touch s []) (λ w p. false≢true (and_r (touches s w) false p))
head_none_right n small h s (x ∷ t) e = absurd (omega (arith, e))
