-- Laws of the words of a row.
use Prim.Native.Nat.{ℕ, zero, suc, ◌+◌, ◌-◌, ◌^◌, ◌≤◌, ◌<◌}
use mathlib.Core.Path.{◌≡◌, refl, sym, ◌∙◌, ap}
use mathlib.Core.List.{[], ◌∷◌, ◌++◌, append-nil}
use mathlib.Core.Bool.{Bool, true, false, cond, ◌&&◌}
use native.Mathlib.Omega.{arith}
use native.Mathlib.Numerals.{add-one}
use native.Mathlib.Nat.{pow-le-pow_right, zero-add, suc-add, sub-add_cancel}
use lib.Bits.{bit_and}
use lib.Dec.{eqb, lit<}
use lib.ListN.{length, length-append}
use borrow.Author.Tests.{eq-eqb, ne_eqb}
use Rattle.lines.specs.declared.Masks.{Masks}
use Rattle.table.proofs.Basics.{and_l, and_r, false_test}
use Rattle.panel.specs.Transitions.{transition_word}
use Rattle.panel.specs.Masks.{all_on, all_off, within, apart}
use Rattle.panel.proofs.Masks.{all_on_within, all_off_apart, within_le, on_within, on_not, apart_on}
use Rattle.lines.specs.Bounds.{RowOk}
use Rattle.reading.specs.Rows.{matches_of, words_below}

-- 2^n for n up to 10
pub power_few : (n : ℕ) → n ≤ 10 → 2 ^ n ≤ 1024
power_few n h = pow-le-pow_right (lit< tt) {i = n} {j = 10} h

-- a state matches by one `&` for each mask
module _ (m : Masks) (i : ℕ) (h : RowOk m) where
  matches_masks : matches_of m i ≡ (within m.on i && apart m.off i)
  unfolding matches_of
  matches_masks =
      let k = power_few m.width h.few in
      rw (all_on_within m.on i (omega (arith, h.on_small)), all_off_apart m.off i (omega (arith, h.off_small)))

  pub matches_by_on : (bit_and m.on i ≡ m.on → ⊥) → eqb (bit_and m.on i) m.on ≡ matches_of m i
  unfolding within
  matches_by_on n = let e = ne_eqb (bit_and m.on i) m.on n in e ∙ sym (matches_masks ∙ ap (λ (t : Bool). t && apart m.off i) e)

  pub matches_by_off : bit_and m.on i ≡ m.on → eqb (bit_and m.off i) 0 ≡ matches_of m i
  unfolding within apart
  matches_by_off e = sym (matches_masks ∙ ap (λ (t : Bool). t && apart m.off i) (eq-eqb (bit_and m.on i) m.on e))

-- one state more: it matches, or it does not
pub words_in_lem : (m : Masks) (i : ℕ) → matches_of m i ≡ true → words_below m (i + 1) ≡ words_below m i ++ (transition_word i m.next ∷ [])
unfolding words_below
words_in_lem m i h = rw (add-one, h)

pub words_out : (m : Masks) (i : ℕ) → matches_of m i ≡ false → words_below m (i + 1) ≡ words_below m i
unfolding words_below
words_out m i h = rw (add-one, h, append-nil)

words_grow : (m : Masks) (i d : ℕ) → length (words_below m i) ≤ length (words_below m (d + i))
unfolding words_below
words_grow m i zero = rw zero-add (omega arith)
words_grow m i (suc d) = rw suc-add (step (words_grow m i d))
  where
    step : length (words_below m i) ≤ length (words_below m (d + i)) → length (words_below m i) ≤ length (words_below m (suc (d + i)))
    step h = omega (arith, length-append (words_below m (d + i)) (cond (matches_of m (d + i)) (transition_word (d + i) m.next ∷ []) []))

pub words_mono : (m : Masks) (i j : ℕ) → i ≤ j → length (words_below m i) ≤ length (words_below m j)
words_mono m i j h = rw (sub-add_cancel h) at (words_grow m i (j - i))

-- ---- states that cannot match

module _ (m : Masks) (h : RowOk m) where
  masks_small : (m.on < 1024) × (m.off < 1024)
  masks_small = let k = power_few m.width h.few in (omega (arith, h.on_small), omega (arith, h.off_small))

  on_in : (i : ℕ) → matches_of m i ≡ true → within m.on i ≡ true
  unfolding matches_of
  on_in i e = sym (all_on_within m.on i masks_small.0) ∙ and_l (all_on m.on i) (all_off m.off i) e

  off_out : (i : ℕ) → matches_of m i ≡ true → apart m.off i ≡ true
  unfolding matches_of
  off_out i e = sym (all_off_apart m.off i masks_small.1) ∙ and_r (all_on m.on i) (all_off m.off i) e

  -- a state below the on-mask does not match
  early_out : (i : ℕ) → i < m.on → matches_of m i ≡ false
  early_out i l = false_test (matches_of m i) (λ e. omega (arith, within_le m.on i (on_in i e)))

  -- nor does one that is larger than the state with every bit but those of the off-mask
  late_out : (i : ℕ) → i < 2 ^ m.width → 2 ^ m.width - m.off ≤ i → matches_of m i ≡ false
  late_out i l g = false_test (matches_of m i) (λ e. omega (arith, within_le i (2 ^ m.width - 1 - m.off) (rest (off_out i e)), h.off_small))
    where
      rest : apart m.off i ≡ true → within i (2 ^ m.width - 1 - m.off) ≡ true
      rest a = on_within m.width i (2 ^ m.width - 1 - m.off) l (λ v b o. on_not m.width m.off v h.off_small b (λ x. apart_on m.off i v a x o))

  -- so the words below the on-mask are none
  pub words_none : (i : ℕ) → i ≤ m.on → words_below m i ≡ []
  unfolding words_below
  words_none zero l = refl
  words_none (suc i) l = rw (early_out i (omega arith), append-nil) (words_none i (omega arith))

  words_still : (d i : ℕ) → 2 ^ m.width - m.off ≤ i → d + i ≤ 2 ^ m.width → words_below m (d + i) ≡ words_below m i
  unfolding words_below
  words_still zero i g l = rw zero-add refl
  words_still (suc d) i g l = rw (suc-add, late_out (d + i) (omega (arith, rw suc-add at l)) (omega arith), append-nil) (words_still d i g (omega (arith, rw suc-add at l)))

  -- and from there on none are added
  pub words_all : (i : ℕ) → 2 ^ m.width - m.off ≤ i → i ≤ 2 ^ m.width → words_below m (2 ^ m.width) ≡ words_below m i
  words_all i g l = rw (sub-add_cancel l) at (words_still (2 ^ m.width - i) i g (omega (arith, sub-add_cancel l)))
