-- The mask of the heirs tells which they are, and whether there is one.
use mathlib.Core.Path.{◌≡◌, refl, sym, ap, ◌∙◌}
use mathlib.Core.Bool.{Bool, true, false}
use mathlib.Core.List.Memᴰ.{head as here}
use mathlib.Core.List.Memᴰ.{tail as there}
use mathlib.Core.List.{List, [], append-nil, Memᴰ as Mem}
use Prim.Native.Nat.{ℕ, ◌≤◌, ◌<◌, zero, suc}
use mathlib.Core.Logic.{◌⊎◌, inl, inr}
use native.Mathlib.Nat.{lt_of_lt_of_le, zero-lt-suc}
use lib.ListN.{length}
use lib.Pow.{pow_pos}
use Rattle.table.specs.Lists.{cons_if, each}
use Rattle.table.proofs.Basics.{each_ext, each_i, false_test, single_i}
use Rattle.panel.specs.Masks.{on, bits_where}
use Rattle.panel.proofs.Masks.{bits_lt, bits_on, bits_ext, same_bits, find, off_zero}
use Rattle.panel.specs.Transitions.{state}
use Rattle.panel.specs.Contacts.{candidate}
use Rattle.heirs.specs.Heirs.{heir_by, heirs_in, heir_mask, picked}

-- ---- the mask tells the heirs

pub picked_heirs : (n t b m : ℕ) (part : List ℕ) → m ≡ heir_mask n t b part → picked n m b (state t) ≡ heirs_in n t b part
unfolding picked heirs_in heir_mask
picked_heirs n t b m part e =
    each_ext n (λ v. cons_if (on v m) (candidate b v (state t)) []) (λ v. cons_if (heir_by t b v part) (candidate b v (state t)) [])
    (λ v l. ap (λ (x : Bool). cons_if x (candidate b v (state t)) []) (ap (on v) e ∙ bits_on n (λ u. heir_by t b u part) v l))

-- the first relays of the mask tell the first heirs
pub picked_first : (v n t b m : ℕ) (part : List ℕ) → v ≤ n → m ≡ heir_mask n t b part → picked v m b (state t) ≡ heirs_in v t b part
unfolding picked heirs_in heir_mask
picked_first v n t b m part l e =
    each_ext v (λ u. cons_if (on u m) (candidate b u (state t)) []) (λ u. cons_if (heir_by t b u part) (candidate b u (state t)) [])
    (λ u k. ap (λ (x : Bool). cons_if x (candidate b u (state t)) []) (ap (on u) e ∙ bits_on n (λ w. heir_by t b w part) u (lt_of_lt_of_le k l)))

-- an empty mask has no heir, and one that is not empty has
pub mask_none : (n t b m : ℕ) (part : List ℕ) → m ≡ heir_mask n t b part → m ≡ 0 → length (heirs_in n t b part) ≡ 0
unfolding heirs_in heir_mask
mask_none n t b m part e z = ap length (each_ext n (λ v. cons_if (heir_by t b v part) (candidate b v (state t)) []) (λ v. []) (λ v l. ap (λ (x : Bool). cons_if x (candidate b v (state t)) []) (off v l))) ∙ none n
  where
    off : (v : ℕ) → v < n → heir_by t b v part ≡ false
    off v l = sym (bits_on n (λ w. heir_by t b w part) v l) ∙ ap (on v) (sym e ∙ z) ∙ off_zero v

    none : (k : ℕ) → length (each k (λ v. [])) ≡ 0
    none zero = refl
    none (suc k) = ap length (append-nil (each k (λ v. []))) ∙ none k

pub mask_some : (n t b m : ℕ) (part : List ℕ) → m ≡ heir_mask n t b part → (m ≡ 0 → ⊥) → 1 ≤ length (heirs_in n t b part)
unfolding heirs_in heir_mask
mask_some n t b m part e z = go (find n (λ v. heir_by t b v part))
  where
    some : {x : ℕ} {l : List ℕ} → Mem x l → 1 ≤ length l
    some (here {xs = ys} p) = zero-lt-suc (length ys)
    some (there {xs = ys} p) = zero-lt-suc (length ys)

    empty : (k : ℕ) → bits_where k (λ v. false) ≡ 0
    empty k = same_bits k (bits_where k (λ v. false)) 0 (bits_lt k (λ v. false)) (pow_pos k) (λ v l. bits_on k (λ u. false) v l ∙ sym (off_zero v))

    go : ((v : ℕ) × (v < n) × (heir_by t b v part ≡ true)) ⊎ ((v : ℕ) → v < n → heir_by t b v part ≡ true → ⊥) → 1 ≤ length (each n (λ v. cons_if (heir_by t b v part) (candidate b v (state t)) []))
    go (inl k) = some (each_i n (λ v. cons_if (heir_by t b v part) (candidate b v (state t)) []) k.0 k.1 (single_i (heir_by t b k.0 part) refl k.2))
    go (inr f) = absurd (z (e ∙ bits_ext n (λ v. heir_by t b v part) (λ v. false) (λ v l. false_test (heir_by t b v part) (f v l)) ∙ empty n))
