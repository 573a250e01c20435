-- Where a walk goes next: the next off-mask, the next on-mask, or the next head.
use mathlib.Core.Path.{◌≡◌, sym, ap, ap₂, ◌∙◌, subst}
use mathlib.Core.Bool.{true}
use Prim.Native.Nat.{ℕ, ◌+◌, ◌-◌, ◌*◌, ◌/◌, ◌%◌, ◌^◌, ◌≤◌, ◌<◌}
use native.Mathlib.Omega.{arith}
use lib.Bits.{bit_and, and_zero_r, and_le_r}
use lib.Pow.{pow_pos}
use Rattle.panel.specs.Rules.{head, must_on, must_off, Rule}
use Rattle.panel.specs.Masks.{apart}
use Rattle.panel.proofs.Masks.{apart_eq, eq_apart, apart_comm}
use Rattle.panel.proofs.Words.{rule_word_is, word_fields, rule_fields, must_on_small, must_off_small, mask_small}
use Rattle.spans.specs.Steps.{Spot, Next}
use Rattle.spans.proofs.NextMask.{next_off, next_off_is, follows, next_off_lt, next_off_apart, sum_lt}

pub rule_of_spot : (n w : ℕ) → Spot n w → head w < n → Rule n w
rule_of_spot n w s h = record { head_lt = h; must_on_lt = s.must_on_lt; must_off_lt = s.must_off_lt; disjoint = s.disjoint }

split : (x : ℕ) → x ≡ head x * 1048576 + must_on x * 1024 + must_off x
split x = sym (word_fields x) ∙ rule_word_is (head x) (must_on x) (must_off x)

fields : (h p m x : ℕ) → p < 1024 → m < 1024 → x ≡ h * 1048576 + p * 1024 + m → (head x ≡ h) × (must_on x ≡ p) × (must_off x ≡ m)
fields h p m x a b e = rule_fields h p m a b x (e ∙ sym (rule_word_is h p m))

-- words with one on-mask: those from w on up to the next block of 1,024
block : (x w m : ℕ) → m ≡ must_off w → w < x → x < w - m + 1024 → (head x ≡ head w) × (must_on x ≡ must_on w) × (must_off w < must_off x)
unfolding head must_on must_off
block x w m e a b =
    let q : x / 1024 ≡ w / 1024 = omega arith in
    (deep x ∙ ap (λ (y : ℕ). y / 1024) q ∙ sym (deep w), ap (λ (y : ℕ). y % 1024) q, omega (arith, q))
  where
    deep : (y : ℕ) → y / 1048576 ≡ y / 1024 / 1024
    deep y = omega arith

apart_zero : (p : ℕ) → apart p 0 ≡ true
apart_zero p = eq_apart p 0 (and_zero_r p)

-- size is 2^n, m and p are the masks of w
module _ (n w : ℕ) (small : n ≤ 10) (sp : Spot n w) (size : ℕ) (es : size ≡ 2 ^ n) (m : ℕ) (em : m ≡ must_off w) (p : ℕ) (ep : p ≡ must_on w) where
  size_le : size ≤ 1024
  size_le = omega (arith, es, mask_top)
    where
      mask_top : 2 ^ n ≤ 1024
      mask_top = omega (arith, mask_small n small {x = 2 ^ n - 1} (omega (arith, sp.must_on_lt)))

  -- the sums and differences fit
  pub step_room : head w < 10 → (m ≤ w) × (p + 1 ≤ size) × (size ≤ 1024) × (w + 2048 < 16777216) × (bit_and (m + p + 1) (size - 1 - p) ≤ 1024)
  step_room l =
      let a = split w in
      (omega (arith, a), omega (arith, sp.must_on_lt, es), size_le, omega (arith, a, must_on_small w, must_off_small w), omega (arith, size_le, and_le_r (m + p + 1) (size - 1 - p)))

  pub step_off : m + p + 1 < size → Next n w (w - m + bit_and (m + p + 1) (size - 1 - p))
  step_off l =
      let a = split w in
      let d : bit_and m p ≡ 0 = ap₂ bit_and em ep ∙ apart_eq (must_off w) (must_on w) (apart_comm (must_on w) (must_off w) sp.disjoint) in
      let lm : m < 2 ^ n = omega (arith, sp.must_off_lt) in
      let lp : p < 2 ^ n = omega (arith, sp.must_on_lt) in
      let f = follows n m p lm lp d (omega (arith, es)) in
      let t = next_off_lt n m p (omega (arith, es)) in
      let e : w - m + bit_and (m + p + 1) (size - 1 - p) ≡ w - m + next_off n m p =
      ap (λ (x : ℕ). w - m + bit_and (m + p + 1) (x - 1 - p)) es ∙ ap (λ (x : ℕ). w - m + x) (next_off_is n m p) in
      let g = fields (head w) (must_on w) (next_off n m p) (w - m + next_off n m p) (must_on_small w) (omega (arith, t, es, size_le)) (omega (arith, a, em)) in
      subst (λ (x : ℕ). Next n w x) (sym e) (record {
        above = omega (arith, f.above, a, em);
        spot = record {
          must_on_lt = rw g.1 sp.must_on_lt;
          must_off_lt = rw g.2 t;
          disjoint = ap₂ apart (g.1 ∙ sym ep) g.2 ∙ next_off_apart n m p lp;
        };
        inside = omega (arith, a, em, must_on_small w, t, es, size_le);
        none = λ x r b c.
            let y = split x in
            let z = block x w m em b (omega (arith, c, t, es, size_le)) in
            let k : bit_and (must_off x) p ≡ 0 = ap (bit_and (must_off x)) (ep ∙ sym z.1) ∙ apart_eq (must_off x) (must_on x) (apart_comm (must_on x) (must_off x) r.disjoint) in
            omega (arith, z.0, z.1, a, y, c, em, f.first (must_off x) r.must_off_lt k (omega (arith, z.2, em)));
      })

  -- no off-mask is left: p and m fill the panel
  full_above : size ≤ m + p + 1 → (x : ℕ) → Rule n x → head x ≡ head w → must_on x ≡ must_on w → must_off w < must_off x → ⊥
  full_above l x r eh e k =
      let d : bit_and (must_off x) p ≡ 0 = ap (bit_and (must_off x)) (ep ∙ sym e) ∙ apart_eq (must_off x) (must_on x) (apart_comm (must_on x) (must_off x) r.disjoint) in
      omega (arith, l, es, em, k, sum_lt n (must_off x) p r.must_off_lt (omega (arith, sp.must_on_lt)) d)

  pub step_on : size ≤ m + p + 1 → p + 1 < size → Next n w (w - m + 1024)
  step_on l k =
      let a = split w in
      let g = fields (head w) (must_on w + 1) 0 (w - m + 1024) (omega (arith, size_le)) (omega arith) (omega (arith, a)) in
      record {
        above = omega (arith, a, must_off_small w, em);
        spot = record {
          must_on_lt = rw g.1 (omega arith);
          must_off_lt = rw g.2 (omega arith);
          disjoint = ap (apart (must_on (w - m + 1024))) g.2 ∙ apart_zero (must_on (w - m + 1024));
        };
        inside = omega (arith, a, must_on_small w, must_off_small w, size_le);
        none = λ x r b d.
            let k = block x w m em b d in
            full_above l x r k.0 k.1 k.2;
      }

  pub step_head : size ≤ m + p + 1 → size ≤ p + 1 → (h : ℕ) → h ≡ head w → Next n w ((h + 1) * 1048576)
  step_head l k h eh =
      let a = split w in
      let g = fields (h + 1) 0 0 ((h + 1) * 1048576) (omega arith) (omega arith) (omega arith) in
      record {
        above = omega (arith, a, must_off_small w, must_on_small w);
        spot = record {
          must_on_lt = rw g.1 (omega (arith, sp.must_on_lt));
          must_off_lt = rw g.2 (omega (arith, sp.must_on_lt));
          disjoint = ap (apart (must_on ((h + 1) * 1048576))) g.2 ∙ apart_zero (must_on ((h + 1) * 1048576));
        };
        inside = omega arith;
        none = λ x r b d.
            let y = split x in
            let hh : head x ≡ head w = omega (arith, a, must_on_small w, must_off_small w, y, must_on_small x, must_off_small x, b, d, eh) in
            let hp : must_on x ≡ must_on w = omega (arith, hh, a, must_on_small w, must_off_small w, y, must_on_small x, must_off_small x, b, d, r.must_on_lt) in
            full_above l x r hh hp (omega (arith, hp, hh, a, y, b));
      }

-- the first word of a head
pub spot_start : (n h : ℕ) → Spot n (h * 1048576)
unfolding must_on must_off
spot_start n h =
    let p : must_on (h * 1048576) ≡ 0 = omega arith in
    let m : must_off (h * 1048576) ≡ 0 = omega arith in
    record {
      must_on_lt = omega (arith, p, pow_pos n);
      must_off_lt = omega (arith, m, pow_pos n);
      disjoint = ap (apart (must_on (h * 1048576))) m ∙ apart_zero (must_on (h * 1048576));
    }
