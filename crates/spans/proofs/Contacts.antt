-- One contact fewer in a rule: the rule with it back is a candidate.
use mathlib.Core.Path.{◌≡◌, sym, ap, ap₂, ◌∙◌, subst}
use mathlib.Core.Logic.{◌⊎◌, inl, inr}
use mathlib.Core.Bool.{Bool, true, false, cond}
use Prim.Native.Nat.{ℕ, ◌+◌, ◌-◌, ◌*◌, ◌/◌, ◌%◌, ◌^◌, ◌≤◌, ◌<◌}
use native.Mathlib.Nat.{lt_of_le_of_lt}
use native.Mathlib.Omega.{arith}
use lib.Pow.{pow_pos}
use Rattle.table.proofs.Basics.{either, false_test}
use Rattle.panel.specs.Masks.{on, within, apart}
use Rattle.panel.specs.Rules.{rule_word, head, must_on, must_off, narrows, Rule}
use Rattle.panel.specs.Contacts.{free, contact, candidate}
use Rattle.panel.proofs.Masks.{on_le, sub_off, within_on, within_apart, apart_comm, apart_on, on_within, not_within, off_zero}
use Rattle.panel.proofs.Words.{Narrows, narrows_e, narrows_i, rule_word_is, word_fields, rule_fields, mask_small}
use Rattle.panel.proofs.Candidates.{add_keeps, free_must_on, free_must_off, free_i, added}
use Rattle.spans.specs.Fewer.{without}

-- ---- one bit fewer in a mask

sub_within : (n v x : ℕ) → x < 2 ^ n → on v x ≡ true → within (x - 2 ^ v) x ≡ true
sub_within n v x l p =
    on_within n (x - 2 ^ v) x (lt_of_le_of_lt (omega arith) l)
    (λ u k q. ap (on u) (sym (omega (arith, on_le v x p))) ∙ add_keeps (x - 2 ^ v) v u (sub_off v x p) q)

-- ---- which word it is

module _ (w v : ℕ) where
  pub without_on : on v (must_on w) ≡ true → w - 2 ^ v * 1024 ≡ without w v
  unfolding without
  without_on e = sym (ap (λ (b : Bool). cond b (w - 2 ^ v * 1024) (cond (on v (must_off w)) (w - 2 ^ v) w)) e)

  pub without_off : on v (must_on w) ≡ false → on v (must_off w) ≡ true → w - 2 ^ v ≡ without w v
  unfolding without
  without_off d e =
      sym (ap (λ (b : Bool). cond b (w - 2 ^ v * 1024) (cond (on v (must_off w)) (w - 2 ^ v) w)) d
      ∙ ap (λ (b : Bool). cond b (w - 2 ^ v) w) e)

  pub without_none : on v (must_on w) ≡ false → on v (must_off w) ≡ false → w ≡ without w v
  unfolding without
  without_none d e =
      sym (ap (λ (b : Bool). cond b (w - 2 ^ v * 1024) (cond (on v (must_off w)) (w - 2 ^ v) w)) d
      ∙ ap (λ (b : Bool). cond b (w - 2 ^ v) w) e)

  -- the word is large enough for the difference
  pub room_on : on v (must_on w) ≡ true → 2 ^ v * 1024 ≤ w
  unfolding must_on
  room_on e = let l : 2 ^ v ≤ w / 1024 % 1024 = on_le v (w / 1024 % 1024) e in omega arith

  pub room_off : on v (must_off w) ≡ true → 2 ^ v ≤ w
  unfolding must_off
  room_off e = let l : 2 ^ v ≤ w % 1024 = on_le v (w % 1024) e in omega arith

-- ---- what it is to w

-- x is a rule that lacks the relay v, and w is x with a contact there
pub record Lesser (n w v x : ℕ) : Type 0 where
  pub is_rule : Rule n x
  pub lacks : free v x ≡ true
  pub below : x < w
  pub seen : ℕ
  pub back : candidate x v seen ≡ w

module _ (n : ℕ) (small : n ≤ 10) (w : ℕ) (rr : Rule n w) (v : ℕ) where
  lesser_on : on v (must_on w) ≡ true → Lesser n w v (w - 2 ^ v * 1024)
  unfolding candidate
  lesser_on p =
      let is : w - 2 ^ v * 1024 ≡ rule_word (head w) (must_on w - 2 ^ v) (must_off w) =
      omega (arith, on_le v (must_on w) p, word_fields w, rule_word_is (head w) (must_on w) (must_off w), rule_word_is (head w) (must_on w - 2 ^ v) (must_off w)) in
      let lt : must_on w - 2 ^ v < 2 ^ n = omega (arith, rr.must_on_lt) in
      let ps = mask_small n small lt in
      let ms = mask_small n small rr.must_off_lt in
      let f = rule_fields (head w) (must_on w - 2 ^ v) (must_off w) ps ms (w - 2 ^ v * 1024) is in
      record {
        is_rule = record {
          head_lt = rw f.0 rr.head_lt;
          must_on_lt = rw f.1 lt;
          must_off_lt = rw f.2 rr.must_off_lt;
          disjoint = ap₂ apart f.1 f.2 ∙ within_apart (must_on w - 2 ^ v) (must_on w) (must_off w) (sub_within n v (must_on w) rr.must_on_lt p) rr.disjoint;
        };
        lacks = free_i v (w - 2 ^ v * 1024) (λ q. sub_off v (must_on w) p (sym (ap (on v) f.1) ∙ q))
            (λ q. apart_on (must_on w) (must_off w) v rr.disjoint p (sym (ap (on v) f.2) ∙ q));
        below = omega (arith, room_on w v p, pow_pos v);
        seen = 0;
        back = ap (λ (b : Bool). w - 2 ^ v * 1024 + contact b v) (off_zero v) ∙ omega (arith, room_on w v p);
      }

  lesser_off : on v (must_off w) ≡ true → Lesser n w v (w - 2 ^ v)
  unfolding candidate
  lesser_off p =
      let is : w - 2 ^ v ≡ rule_word (head w) (must_on w) (must_off w - 2 ^ v) =
      omega (arith, on_le v (must_off w) p, word_fields w, rule_word_is (head w) (must_on w) (must_off w), rule_word_is (head w) (must_on w) (must_off w - 2 ^ v)) in
      let lt : must_off w - 2 ^ v < 2 ^ n = omega (arith, rr.must_off_lt) in
      let ps = mask_small n small rr.must_on_lt in
      let ms = mask_small n small lt in
      let f = rule_fields (head w) (must_on w) (must_off w - 2 ^ v) ps ms (w - 2 ^ v) is in
      let d = apart_comm (must_on w) (must_off w) rr.disjoint in
      record {
        is_rule = record {
          head_lt = rw f.0 rr.head_lt;
          must_on_lt = rw f.1 rr.must_on_lt;
          must_off_lt = rw f.2 lt;
          disjoint = ap₂ apart f.1 f.2 ∙ apart_comm (must_off w - 2 ^ v) (must_on w) (within_apart (must_off w - 2 ^ v) (must_off w) (must_on w) (sub_within n v (must_off w) rr.must_off_lt p) d);
        };
        lacks = free_i v (w - 2 ^ v) (λ q. apart_on (must_off w) (must_on w) v d p (sym (ap (on v) f.1) ∙ q))
            (λ q. sub_off v (must_off w) p (sym (ap (on v) f.2) ∙ q));
        below = omega (arith, room_off w v p, pow_pos v);
        seen = must_off w;
        back = ap (λ (b : Bool). w - 2 ^ v + contact b v) p ∙ omega (arith, room_off w v p);
      }

  -- where w has a contact, `without` takes it away; where it has none, w stays
  pub without_lesser : (free v w ≡ true) ⊎ Lesser n w v (without w v)
  without_lesser = go (either (on v (must_on w))) (either (on v (must_off w)))
    where
      go : (on v (must_on w) ≡ true) ⊎ (on v (must_on w) ≡ true → ⊥) → (on v (must_off w) ≡ true) ⊎ (on v (must_off w) ≡ true → ⊥) → (free v w ≡ true) ⊎ Lesser n w v (without w v)
      go (inl p) q = inr (rw (without_on w v p) at (lesser_on p))
      go (inr p) (inl q) = inr (rw (without_off w v (false_test (on v (must_on w)) p) q) at (lesser_off q))
      go (inr p) (inr q) = inl (free_i v w p q)

pub without_free : (w v : ℕ) → free v w ≡ true → without w v ≡ w
without_free w v f =
    sym (without_none w v (false_test (on v (must_on w)) (free_must_on v w f)) (false_test (on v (must_off w)) (free_must_off v w f)))

module _ (n : ℕ) (small : n ≤ 10) where
  -- what a candidate narrows, and has no contact on its relay, the rule narrows already
  pub narrows_still : (b v i : ℕ) → Rule n b → v < n → free v b ≡ true → (r : ℕ) → Rule n r → narrows (candidate b v i) r ≡ true → free v r ≡ true → narrows b r ≡ true
  narrows_still b v i rb lv fb r rr p fr =
      let a = added n small b v rb lv fb i in
      let k = narrows_e (candidate b v i) r p in
      narrows_i b r (record {
        one_head = sym a.one_head ∙ k.one_head;
        must_on_in = on_within n (must_on r) (must_on b) rr.must_on_lt (λ u l q. keep_on u q (a.must_on_from u (within_on (must_on r) (must_on (candidate b v i)) u k.must_on_in q)));
        must_off_in = on_within n (must_off r) (must_off b) rr.must_off_lt (λ u l q. keep_off u q (a.must_off_from u (within_on (must_off r) (must_off (candidate b v i)) u k.must_off_in q)));
      })
    where
      keep_on : {A : Type 0} (u : ℕ) → on u (must_on r) ≡ true → (on u (must_on b) ≡ true) ⊎ ((u ≡ v) × A) → on u (must_on b) ≡ true
      keep_on u q (inl t) = t
      keep_on u q (inr e) = absurd (free_must_on v r fr (subst (λ (x : ℕ). on x (must_on r) ≡ true) e.0 q))

      keep_off : {A : Type 0} (u : ℕ) → on u (must_off r) ≡ true → (on u (must_off b) ≡ true) ⊎ ((u ≡ v) × A) → on u (must_off b) ≡ true
      keep_off u q (inl t) = t
      keep_off u q (inr e) = absurd (free_must_off v r fr (subst (λ (x : ℕ). on x (must_off r) ≡ true) e.0 q))

  -- a rule that w narrows without being narrowed by it lacks a contact of w
  pub contact_lacking : (w r : ℕ) → Rule n w → narrows w r ≡ true → (narrows r w ≡ true → ⊥) → (v : ℕ) × (v < n) × (free v w ≡ true → ⊥) × (free v r ≡ true)
  contact_lacking w r rr p f = go (either (within (must_on w) (must_on r))) (either (within (must_off w) (must_off r)))
    where
      k : Narrows w r
      k = narrows_e w r p

      go : (within (must_on w) (must_on r) ≡ true) ⊎ (within (must_on w) (must_on r) ≡ true → ⊥) → (within (must_off w) (must_off r) ≡ true) ⊎ (within (must_off w) (must_off r) ≡ true → ⊥)
          → (v : ℕ) × (v < n) × (free v w ≡ true → ⊥) × (free v r ≡ true)
      go (inr a) b =
          let x = not_within n (must_on w) (must_on r) rr.must_on_lt a in (
            x.0,
            x.1,
            λ e. free_must_on x.0 w e x.2,
            free_i x.0 r x.3 (λ q. apart_on (must_on w) (must_off w) x.0 rr.disjoint x.2 (within_on (must_off r) (must_off w) x.0 k.must_off_in q)),
          )
      go (inl a) (inr b) =
          let x = not_within n (must_off w) (must_off r) rr.must_off_lt b in (
            x.0,
            x.1,
            λ e. free_must_off x.0 w e x.2,
            free_i x.0 r (λ q. apart_on (must_on w) (must_off w) x.0 rr.disjoint (within_on (must_on r) (must_on w) x.0 k.must_on_in q) x.2) x.3,
          )
      go (inl a) (inl b) = absurd (f (narrows_i r w (record { one_head = sym k.one_head; must_on_in = a; must_off_in = b })))
