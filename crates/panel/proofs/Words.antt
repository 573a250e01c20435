-- Rule words: their fields, the list of all of them, and the order `narrows`.
use mathlib.Core.Path.{◌≡◌, refl, sym, ap, ap₂, ◌∙◌}
use mathlib.Core.Bool.{Bool, true, ◌&&◌}
use mathlib.Core.List.{[], Memᴰ as Mem}
use Prim.Native.Nat.{ℕ, ◌+◌, ◌*◌, ◌^◌, ◌≤◌, ◌<◌}
use native.Mathlib.Nat.{lt_of_lt_of_le}
use native.Mathlib.Omega.{arith}
use lib.Bits.{bit_and, and_lt, and_self}
use lib.Pow.{pow_mono}
use lib.Dec.{eqb, ltb}
use borrow.Author.Tests.{eqb-true, eq-eqb, ltb-true, lt-ltb}
use Rattle.table.specs.Lists.{cons_if, each, increasing}
use Rattle.panel.specs.Masks.{all_off, within, apart}
use Rattle.panel.specs.Rules.{contains, rule_word, head, must_on, must_off, valid_rule, Rule, covers, narrows, rules}
use Rattle.table.proofs.Basics.{and_l, and_r, and_i, each_e, each_i, single_e, single_i, single_increasing}
use Rattle.table.proofs.Increasing.{each_increasing}
use Rattle.panel.proofs.Codec as codec
use Rattle.panel.proofs.Masks.{within_refl, within_trans, within_antisym, within_le, within_apart, all_on_within, all_off_apart, within_eq, eq_within}

-- ---- the fields of a word

pub rule_word_is : (h p m : ℕ) → rule_word h p m ≡ h * 1048576 + p * 1024 + m
unfolding rule_word
rule_word_is h p m = refl

module _ (h p m : ℕ) (hp : p < 1024) (hm : m < 1024) where
  pub head_word : head (rule_word h p m) ≡ h
  unfolding head rule_word
  head_word = codec.high_word h p m hp hm

  pub must_on_word : must_on (rule_word h p m) ≡ p
  unfolding must_on rule_word
  must_on_word = codec.middle_word h p m hp hm

  pub must_off_word : must_off (rule_word h p m) ≡ m
  unfolding must_off rule_word
  must_off_word = codec.low_word h p m hp hm

  -- all three at once
  pub rule_fields : (w : ℕ) → w ≡ rule_word h p m → (head w ≡ h) × (must_on w ≡ p) × (must_off w ≡ m)
  rule_fields w e = (ap head e ∙ head_word, ap must_on e ∙ must_on_word, ap must_off e ∙ must_off_word)

pub word_fields : (w : ℕ) → rule_word (head w) (must_on w) (must_off w) ≡ w
unfolding rule_word head must_on must_off
word_fields w = codec.word_fields w

-- the masks of a body fit ten relays, whatever the word
pub must_on_small : (w : ℕ) → must_on w < 1024
unfolding must_on
must_on_small w = codec.middle_small w

pub must_off_small : (w : ℕ) → must_off w < 1024
unfolding must_off
must_off_small w = codec.low_small w

pub same_word : (w r : ℕ) → head w ≡ head r → must_on w ≡ must_on r → must_off w ≡ must_off r → w ≡ r
unfolding head must_on must_off
same_word w r a b c = codec.same_word w r a b c

-- ---- the words of a head

pub head_range : (h w : ℕ) → head w ≡ h → (h * 1048576 ≤ w) × (w < (h + 1) * 1048576)
unfolding head
head_range h w e = codec.high_range h w e

pub range_head : (h w : ℕ) → h * 1048576 ≤ w → w < (h + 1) * 1048576 → head w ≡ h
unfolding head
range_head h w a b = codec.range_high h w a b

pub head_up : (w r : ℕ) → w ≤ r → head w ≤ head r
unfolding head
head_up w r l = codec.high_up w r l

-- ---- what the tests say

pub rule_e : (n w : ℕ) → valid_rule n w ≡ true → Rule n w
unfolding valid_rule
rule_e n w e =
    let e1 = and_r (ltb (head w) n) (ltb (must_on w) (2 ^ n) && (ltb (must_off w) (2 ^ n) && all_off (must_on w) (must_off w))) e in
    let e2 = and_r (ltb (must_on w) (2 ^ n)) (ltb (must_off w) (2 ^ n) && all_off (must_on w) (must_off w)) e1 in
    record {
      head_lt = ltb-true (head w) n (and_l (ltb (head w) n) (ltb (must_on w) (2 ^ n) && (ltb (must_off w) (2 ^ n) && all_off (must_on w) (must_off w))) e);
      must_on_lt = ltb-true (must_on w) (2 ^ n) (and_l (ltb (must_on w) (2 ^ n)) (ltb (must_off w) (2 ^ n) && all_off (must_on w) (must_off w)) e1);
      must_off_lt = ltb-true (must_off w) (2 ^ n) (and_l (ltb (must_off w) (2 ^ n)) (all_off (must_on w) (must_off w)) e2);
      disjoint = sym (all_off_apart (must_on w) (must_off w) (must_on_small w)) ∙ and_r (ltb (must_off w) (2 ^ n)) (all_off (must_on w) (must_off w)) e2;
    }

pub rule_i : (n w : ℕ) → Rule n w → valid_rule n w ≡ true
unfolding valid_rule
rule_i n w r =
    and_i (ltb (head w) n) (ltb (must_on w) (2 ^ n) && (ltb (must_off w) (2 ^ n) && all_off (must_on w) (must_off w))) (lt-ltb (head w) n r.head_lt)
    (and_i (ltb (must_on w) (2 ^ n)) (ltb (must_off w) (2 ^ n) && all_off (must_on w) (must_off w)) (lt-ltb (must_on w) (2 ^ n) r.must_on_lt)
    (and_i (ltb (must_off w) (2 ^ n)) (all_off (must_on w) (must_off w)) (lt-ltb (must_off w) (2 ^ n) r.must_off_lt)
    (all_off_apart (must_on w) (must_off w) (must_on_small w) ∙ r.disjoint)))

pub record Narrows (w r : ℕ) : Type 0 where
  pub one_head : head w ≡ head r
  pub must_on_in : within (must_on r) (must_on w) ≡ true
  pub must_off_in : within (must_off r) (must_off w) ≡ true

-- the tests of 01's words, and the same by one `&` for each mask
pub contains_masks : (w r : ℕ) → contains w r ≡ (within (must_on r) (must_on w) && within (must_off r) (must_off w))
unfolding contains
contains_masks w r = ap₂ (λ (a b : Bool). a && b) (all_on_within (must_on r) (must_on w) (must_on_small r)) (all_on_within (must_off r) (must_off w) (must_off_small r))

pub covers_masks : (w i : ℕ) → covers w i ≡ (within (must_on w) i && apart (must_off w) i)
unfolding covers
covers_masks w i = ap₂ (λ (a b : Bool). a && b) (all_on_within (must_on w) i (must_on_small w)) (all_off_apart (must_off w) i (must_off_small w))

pub narrows_masks : (w r : ℕ) → narrows w r ≡ (eqb (head w) (head r) && (within (must_on r) (must_on w) && within (must_off r) (must_off w)))
unfolding narrows
narrows_masks w r = ap (λ (b : Bool). eqb (head w) (head r) && b) (contains_masks w r)

pub narrows_e : (w r : ℕ) → narrows w r ≡ true → Narrows w r
narrows_e w r e' =
    let e = sym (narrows_masks w r) ∙ e' in
    let e1 = and_r (eqb (head w) (head r)) (within (must_on r) (must_on w) && within (must_off r) (must_off w)) e in
    record {
      one_head = eqb-true (head w) (head r) (and_l (eqb (head w) (head r)) (within (must_on r) (must_on w) && within (must_off r) (must_off w)) e);
      must_on_in = and_l (within (must_on r) (must_on w)) (within (must_off r) (must_off w)) e1;
      must_off_in = and_r (within (must_on r) (must_on w)) (within (must_off r) (must_off w)) e1;
    }

pub narrows_i : (w r : ℕ) → Narrows w r → narrows w r ≡ true
narrows_i w r k =
    narrows_masks w r
    ∙ and_i (eqb (head w) (head r)) (within (must_on r) (must_on w) && within (must_off r) (must_off w)) (eq-eqb (head w) (head r) k.one_head)
    (and_i (within (must_on r) (must_on w)) (within (must_off r) (must_off w)) k.must_on_in k.must_off_in)

pub record Covers (w i : ℕ) : Type 0 where
  pub must_on_on : within (must_on w) i ≡ true
  pub must_off_off : apart (must_off w) i ≡ true

pub covers_e : (w i : ℕ) → covers w i ≡ true → Covers w i
covers_e w i e =
    let k = sym (covers_masks w i) ∙ e in
    record {
      must_on_on = and_l (within (must_on w) i) (apart (must_off w) i) k;
      must_off_off = and_r (within (must_on w) i) (apart (must_off w) i) k;
    }

pub covers_i : (w i : ℕ) → Covers w i → covers w i ≡ true
covers_i w i k = covers_masks w i ∙ and_i (within (must_on w) i) (apart (must_off w) i) k.must_on_on k.must_off_off

-- ---- the order

pub narrows_refl : (w : ℕ) → narrows w w ≡ true
narrows_refl w = narrows_i w w (record { one_head = refl; must_on_in = within_refl (must_on w); must_off_in = within_refl (must_off w) })

pub narrows_trans : (a b c : ℕ) → narrows a b ≡ true → narrows b c ≡ true → narrows a c ≡ true
narrows_trans a b c p q =
    let x = narrows_e a b p in
    let y = narrows_e b c q in
    narrows_i a c (record {
      one_head = x.one_head ∙ y.one_head;
      must_on_in = within_trans (must_on c) (must_on b) (must_on a) y.must_on_in x.must_on_in;
      must_off_in = within_trans (must_off c) (must_off b) (must_off a) y.must_off_in x.must_off_in;
    })

pub narrows_antisym : (a b : ℕ) → narrows a b ≡ true → narrows b a ≡ true → a ≡ b
narrows_antisym a b p q =
    let x = narrows_e a b p in
    let y = narrows_e b a q in
    same_word a b x.one_head (within_antisym (must_on a) (must_on b) y.must_on_in x.must_on_in) (within_antisym (must_off a) (must_off b) y.must_off_in x.must_off_in)

-- a narrower rule has a word at least as large: the ground on which every rule that passes a test narrows a smallest one
pub narrows_le : (w r : ℕ) → narrows w r ≡ true → r ≤ w
unfolding rule_word
narrows_le w r p =
    let x = narrows_e w r p in
    omega (arith, word_fields w, word_fields r, x.one_head, within_le (must_on r) (must_on w) x.must_on_in, within_le (must_off r) (must_off w) x.must_off_in)

-- the bits that two words share, field by field
shared : (r w : ℕ) → bit_and r w ≡ rule_word (bit_and (head r) (head w)) (bit_and (must_on r) (must_on w)) (bit_and (must_off r) (must_off w))
unfolding rule_word head must_on must_off
shared r w = codec.and_word r w

one_head_shared : (r w : ℕ) → head w ≡ head r → bit_and (head r) (head w) ≡ head r
one_head_shared r w e = ap (bit_and (head r)) e ∙ and_self (head r)

-- the bits of a rule's word are on in the word of a rule that narrows it: the quick test of code, one `&` and one compare
pub narrows_word : (w r : ℕ) → narrows w r ≡ true → bit_and r w ≡ r
unfolding rule_word
narrows_word w r p =
    let x = narrows_e w r p in
    let h = one_head_shared r w x.one_head in
    omega (arith, shared r w, h, within_eq (must_on r) (must_on w) x.must_on_in, within_eq (must_off r) (must_off w) x.must_off_in, word_fields r)

-- and back, for rules of one head
pub word_narrows : (w r : ℕ) → head w ≡ head r → bit_and r w ≡ r → narrows w r ≡ true
unfolding rule_word
word_narrows w r e q =
    let h = one_head_shared r w e in
    let s = shared r w in
    let f = word_fields r in
    let bp = and_lt 10 (must_on r) (must_on w) (must_on_small r) (must_on_small w) in
    let bm = and_lt 10 (must_off r) (must_off w) (must_off_small r) (must_off_small w) in
    narrows_i w r (record {
      one_head = e;
      must_on_in = eq_within (must_on r) (must_on w) (omega (arith, h, s, q, f, bp, bm, must_on_small r, must_off_small r));
      must_off_in = eq_within (must_off r) (must_off w) (omega (arith, h, s, q, f, bp, bm, must_on_small r, must_off_small r));
    })

-- a wider rule covers what a narrower one covers
pub narrows_covers : (w r i : ℕ) → narrows w r ≡ true → covers w i ≡ true → covers r i ≡ true
narrows_covers w r i p q =
    let x = narrows_e w r p in
    let y = covers_e w i q in
    covers_i r i (record {
      must_on_on = within_trans (must_on r) (must_on w) i x.must_on_in y.must_on_on;
      must_off_off = within_apart (must_off r) (must_off w) i x.must_off_in y.must_off_off;
    })

-- ---- the list of all rules

pub rules_i : (n w : ℕ) → Rule n w → Mem w (rules n)
unfolding rules
rules_i n w r =
    each_i n (λ h. each (2 ^ n) (λ p. each (2 ^ n) (λ m. cons_if (all_off p m) (rule_word h p m) []))) (head w) r.head_lt
    (each_i (2 ^ n) (λ p. each (2 ^ n) (λ m. cons_if (all_off p m) (rule_word (head w) p m) [])) (must_on w) r.must_on_lt
    (each_i (2 ^ n) (λ m. cons_if (all_off (must_on w) m) (rule_word (head w) (must_on w) m) []) (must_off w) r.must_off_lt
    (single_i (all_off (must_on w) (must_off w)) (sym (word_fields w)) (all_off_apart (must_on w) (must_off w) (must_on_small w) ∙ r.disjoint))))

-- where a word of the list comes from
record From (n w : ℕ) : Type 0 where
  pub h : ℕ
  pub p : ℕ
  pub m : ℕ
  pub h_lt : h < n
  pub p_lt : p < 2 ^ n
  pub m_lt : m < 2 ^ n
  pub disj : all_off p m ≡ true
  pub is : w ≡ rule_word h p m

rules_from : (n w : ℕ) → Mem w (rules n) → From n w
unfolding rules
rules_from n w k =
    let a = each_e n (λ h. each (2 ^ n) (λ p. each (2 ^ n) (λ m. cons_if (all_off p m) (rule_word h p m) []))) k in
    let b = each_e (2 ^ n) (λ p. each (2 ^ n) (λ m. cons_if (all_off p m) (rule_word a.0 p m) [])) a.2 in
    let c = each_e (2 ^ n) (λ m. cons_if (all_off b.0 m) (rule_word a.0 b.0 m) []) b.2 in
    let d = single_e (all_off b.0 c.0) c.2 in
    record { h = a.0; p = b.0; m = c.0; h_lt = a.1; p_lt = b.1; m_lt = c.1; disj = d.1; is = d.0 }

module _ (n : ℕ) (small : n ≤ 10) where
  pub mask_small : {x : ℕ} → x < 2 ^ n → x < 1024
  mask_small l = lt_of_lt_of_le l (pow_mono small)

  from_rule : (w : ℕ) → From n w → Rule n w
  from_rule w f =
      let ph : f.p < 1024 = mask_small f.p_lt in
      let mh : f.m < 1024 = mask_small f.m_lt in
      let is = rule_fields f.h f.p f.m ph mh w f.is in
      record {
        head_lt = rw is.0 f.h_lt;
        must_on_lt = rw is.1 f.p_lt;
        must_off_lt = rw is.2 f.m_lt;
        disjoint = ap₂ apart is.1 is.2 ∙ sym (all_off_apart f.p f.m ph) ∙ f.disj;
      }

  -- the list holds the rules of the panel and nothing else
  pub rules_e : (w : ℕ) → Mem w (rules n) → Rule n w
  rules_e w k = from_rule w (rules_from n w k)

  -- and is strictly increasing
  pub rules_increasing : increasing (rules n) ≡ true
  unfolding rules rule_word
  rules_increasing =
      each_increasing (λ h. h * 1048576) (λ i j l. omega arith) n _
      (λ h lh. each_increasing (λ p. h * 1048576 + p * 1024) (λ i j l. omega arith) (2 ^ n) _
      (λ p lp. each_increasing (λ m. h * 1048576 + p * 1024 + m) (λ i j l. omega arith) (2 ^ n) _
      (λ m lm. single_increasing (all_off p m) (rule_word h p m))
      (λ m x lm k. let e = single_e (all_off p m) k in omega (arith, e.0)))
      (λ p x lp k.
      let a = each_e (2 ^ n) (λ m. cons_if (all_off p m) (rule_word h p m) []) k in
      let e = single_e (all_off p a.0) a.2 in
      omega (arith, e.0, mask_small a.1)))
      (λ h x lh k.
      let b = each_e (2 ^ n) (λ p. each (2 ^ n) (λ m. cons_if (all_off p m) (rule_word h p m) [])) k in
      let a = each_e (2 ^ n) (λ m. cons_if (all_off b.0 m) (rule_word h b.0 m) []) b.2 in
      let e = single_e (all_off b.0 a.0) a.2 in
      omega (arith, e.0, mask_small a.1, mask_small b.1))
