-- A word of three fields: the codec both ways, the order of words by their fields, and their bits.
use mathlib.Core.Path.{◌≡◌, sym, ap, ap₂, ◌∙◌}
use Prim.Native.Nat.{ℕ, ◌+◌, ◌-◌, ◌*◌, ◌/◌, ◌%◌, ◌^◌, ◌≤◌, ◌<◌}
use native.Mathlib.Omega.{arith}
use lib.Bits.{bit_and, and_block}
use lib.Dec.{eqb}
use lib.Pow.{field, mod-mod-pow, shr-shr}
use Rattle.panel.specs.Masks.{on}
use Rattle.panel.specs.Codec.{word_of, high, middle, low}

-- ---- the word of the fields, and back

module _ (a b c : ℕ) (hb : b < 1024) (hc : c < 1024) where
  pub high_word : high (word_of a b c) ≡ a
  high_word = omega arith

  pub middle_word : middle (word_of a b c) ≡ b
  middle_word = omega arith

  pub low_word : low (word_of a b c) ≡ c
  low_word = omega arith

pub word_fields : (w : ℕ) → word_of (high w) (middle w) (low w) ≡ w
word_fields w = omega arith

-- two fields are below 1,024, whatever the word
pub middle_small : (w : ℕ) → middle w < 1024
middle_small w = omega arith

pub low_small : (w : ℕ) → low w < 1024
low_small w = omega arith

-- a word is determined by its fields
pub same_word : (w r : ℕ) → high w ≡ high r → middle w ≡ middle r → low w ≡ low r → w ≡ r
same_word w r a b c = sym (word_fields w) ∙ ap₂ (λ (x y : ℕ). x + y) (ap₂ (λ (x y : ℕ). x * 1048576 + y * 1024) a b) c ∙ word_fields r

-- ---- words in order

-- which words have the high field a
pub high_range : (a w : ℕ) → high w ≡ a → (a * 1048576 ≤ w) × (w < (a + 1) * 1048576)
high_range a w e = (omega arith, omega arith)

pub range_high : (a w : ℕ) → a * 1048576 ≤ w → w < (a + 1) * 1048576 → high w ≡ a
range_high a w l k = omega arith

-- words in order have their high fields in order
pub high_up : (w r : ℕ) → w ≤ r → high w ≤ high r
high_up w r l = omega arith

-- ---- the bits of a word

pub low_on : (v w : ℕ) → v < 10 → on v (low w) ≡ on v w
unfolding on
low_on v w l =
    let e : (9 - v) + 1 + v ≡ 10 = omega arith in
    ap (λ (k : ℕ). eqb k 1)
    (ap (λ (k : ℕ). w % 2 ^ k / 2 ^ v % 2) (sym e) ∙ ap (λ (k : ℕ). k % 2) (field w (9 - v + 1) v) ∙ mod-mod-pow (w / 2 ^ v) (9 - v) 1)

above_on : (v w : ℕ) → on v (w / 1024) ≡ on (v + 10) w
unfolding on
above_on v w = ap (λ (k : ℕ). eqb (k % 2) 1) (shr-shr w 10 v ∙ ap (λ (k : ℕ). w / 2 ^ k) (omega arith))

pub middle_on : (v w : ℕ) → v < 10 → on v (middle w) ≡ on (v + 10) w
middle_on v w l = low_on v (w / 1024) l ∙ above_on v w

as_blocks : (w : ℕ) → w ≡ (high w * 1024 + middle w) * 1024 + low w
as_blocks w = omega arith

-- the bits that two words share, field by field
pub and_word : (r w : ℕ) → bit_and r w ≡ word_of (bit_and (high r) (high w)) (bit_and (middle r) (middle w)) (bit_and (low r) (low w))
and_word r w =
    let e = ap₂ bit_and (as_blocks r) (as_blocks w)
    ∙ and_block 10 (high r * 1024 + middle r) (high w * 1024 + middle w) (low r) (low w) (low_small r) (low_small w)
    ∙ ap (λ (x : ℕ). x * 1024 + bit_and (low r) (low w))
    (and_block 10 (high r) (high w) (middle r) (middle w) (middle_small r) (middle_small w)) in
    omega (arith, e)
