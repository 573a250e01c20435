-- One more contact: what `candidate` does to a rule.
use mathlib.Core.Path.{◌≡◌, refl, sym, ap, ap₂, ◌∙◌, subst}
use mathlib.Core.Logic.{◌⊎◌, inl, inr}
use mathlib.Core.Bool.{Bool, true, false, not, false≢true}
use Prim.Native.Nat.{ℕ, ◌+◌, ◌*◌, ◌^◌, ◌≤◌, ◌<◌}
use native.Mathlib.Omega.{arith}
use lib.Pow.{pow_pos}
use native.Mathlib.Decide.{ℕ_discrete}
use Rattle.panel.specs.Masks.{on, within, apart}
use Rattle.panel.specs.Rules.{rule_word, head, must_on, must_off, covers, narrows, Rule}
use Rattle.panel.specs.Contacts.{free, contact, candidate}
use Rattle.table.proofs.Basics.{and_l, and_r, and_i, not_e, not_i, either}
use Rattle.panel.proofs.Masks.{on_bit, bit_on, off_bit, within_on, apart_comm, apart_on, on_within, on_apart, not_within, not_apart, add_on, add_other, add_below}
use Rattle.panel.proofs.Words.{Narrows, Covers, narrows_e, narrows_i, covers_e, covers_i, rule_word_is, word_fields, rule_fields, mask_small}

-- ---- one more bit in a mask

pub add_keeps : (x v u : ℕ) → (on v x ≡ true → ⊥) → on u x ≡ true → on u (x + 2 ^ v) ≡ true
add_keeps x v u off p =
    bit_on u (x + 2 ^ v)
    (add_other u v x (λ e. off (subst (λ (k : ℕ). on k x ≡ true) e p)) (off_bit v x off) ∙ on_bit u x p)

pub add_new : (x v : ℕ) → (on v x ≡ true → ⊥) → on v (x + 2 ^ v) ≡ true
add_new x v off = bit_on v (x + 2 ^ v) (add_on v x (off_bit v x off))

pub add_from : (x v u : ℕ) → (on v x ≡ true → ⊥) → on u (x + 2 ^ v) ≡ true → (on u x ≡ true) ⊎ (u ≡ v)
add_from x v u off p = go (ℕ_discrete u v)
  where
    go : Dec (u ≡ v) → (on u x ≡ true) ⊎ (u ≡ v)
    go (yes e) = inr e
    go (no d) = inl (bit_on u x (sym (add_other u v x d (off_bit v x off)) ∙ on_bit u (x + 2 ^ v) p))

-- a mask stays apart from another that gains a bit which it lacks
add_apart : (n p m v : ℕ) → p < 2 ^ n → apart p m ≡ true → (on v p ≡ true → ⊥) → (on v m ≡ true → ⊥) → apart p (m + 2 ^ v) ≡ true
add_apart n p m v l d op om = on_apart n p (m + 2 ^ v) l (λ u k a b. clash u a (add_from m v u om b))
  where
    clash : (u : ℕ) → on u p ≡ true → (on u m ≡ true) ⊎ (u ≡ v) → ⊥
    clash u a (inl b) = apart_on p m u d a b
    clash u a (inr e) = op (subst (λ (k : ℕ). on k p ≡ true) e a)

tag : {A B C : Type 0} → C → A ⊎ B → A ⊎ (B × C)
tag c (inl a) = inl a
tag c (inr b) = inr (b, c)

-- ---- one more contact

pub free_must_on : (v w : ℕ) → free v w ≡ true → on v (must_on w) ≡ true → ⊥
unfolding free
free_must_on v w e = not_e (on v (must_on w)) (and_l (not (on v (must_on w))) (not (on v (must_off w))) e)

pub free_must_off : (v w : ℕ) → free v w ≡ true → on v (must_off w) ≡ true → ⊥
unfolding free
free_must_off v w e = not_e (on v (must_off w)) (and_r (not (on v (must_on w))) (not (on v (must_off w))) e)

pub free_i : (v w : ℕ) → (on v (must_on w) ≡ true → ⊥) → (on v (must_off w) ≡ true → ⊥) → free v w ≡ true
unfolding free
free_i v w p q = and_i (not (on v (must_on w))) (not (on v (must_off w))) (not_i (on v (must_on w)) p) (not_i (on v (must_off w)) q)

-- c is the rule b with one more contact, on v, that disagrees with i
pub record Added (n b v i c : ℕ) : Type 0 where
  pub is_rule : Rule n c
  pub one_head : head c ≡ head b
  pub must_on_keep : (u : ℕ) → on u (must_on b) ≡ true → on u (must_on c) ≡ true
  pub must_off_keep : (u : ℕ) → on u (must_off b) ≡ true → on u (must_off c) ≡ true
  pub must_on_from : (u : ℕ) → on u (must_on c) ≡ true → (on u (must_on b) ≡ true) ⊎ ((u ≡ v) × (on v i ≡ true → ⊥))
  pub must_off_from : (u : ℕ) → on u (must_off c) ≡ true → (on u (must_off b) ≡ true) ⊎ ((u ≡ v) × (on v i ≡ true))
  pub must_on_new : (on v i ≡ true → ⊥) → on v (must_on c) ≡ true
  pub must_off_new : on v i ≡ true → on v (must_off c) ≡ true

module _ (n : ℕ) (small : n ≤ 10) (b v : ℕ) (rb : Rule n b) (lv : v < n) (fr : free v b ≡ true) where
  must_off_more : must_off b + 2 ^ v < 2 ^ n
  must_off_more = add_below n v (must_off b) rb.must_off_lt lv (off_bit v (must_off b) (free_must_off v b fr))

  must_on_more : must_on b + 2 ^ v < 2 ^ n
  must_on_more = add_below n v (must_on b) rb.must_on_lt lv (off_bit v (must_on b) (free_must_on v b fr))

  -- the contact is in N
  off_word : b + 2 ^ v ≡ rule_word (head b) (must_on b) (must_off b + 2 ^ v)
  off_word = omega (arith, word_fields b, rule_word_is (head b) (must_on b) (must_off b), rule_word_is (head b) (must_on b) (must_off b + 2 ^ v))

  -- the contact is in P
  on_word : b + 2 ^ v * 1024 ≡ rule_word (head b) (must_on b + 2 ^ v) (must_off b)
  on_word = omega (arith, word_fields b, rule_word_is (head b) (must_on b) (must_off b), rule_word_is (head b) (must_on b + 2 ^ v) (must_off b))

  added_off : (i c : ℕ) → on v i ≡ true → c ≡ b + 2 ^ v → Added n b v i c
  added_off i c o e =
      let is : c ≡ rule_word (head b) (must_on b) (must_off b + 2 ^ v) = e ∙ off_word in
      let ps = mask_small n small rb.must_on_lt in
      let ns = mask_small n small must_off_more in
      let f = rule_fields (head b) (must_on b) (must_off b + 2 ^ v) ps ns c is in
      record {
        is_rule = record {
          head_lt = rw f.0 rb.head_lt;
          must_on_lt = rw f.1 rb.must_on_lt;
          must_off_lt = rw f.2 must_off_more;
          disjoint = ap₂ apart f.1 f.2 ∙ add_apart n (must_on b) (must_off b) v rb.must_on_lt rb.disjoint (free_must_on v b fr) (free_must_off v b fr);
        };
        one_head = f.0;
        must_on_keep = λ u p. rw f.1 p;
        must_off_keep = λ u p. rw f.2 (add_keeps (must_off b) v u (free_must_off v b fr) p);
        must_on_from = λ u p. inl (rw f.1 at p);
        must_off_from = λ u p. tag o (add_from (must_off b) v u (free_must_off v b fr) (rw f.2 at p));
        must_on_new = λ d. absurd (d o);
        must_off_new = λ d. rw f.2 (add_new (must_off b) v (free_must_off v b fr));
      }

  added_on : (i c : ℕ) → (on v i ≡ true → ⊥) → c ≡ b + 2 ^ v * 1024 → Added n b v i c
  added_on i c o e =
      let is : c ≡ rule_word (head b) (must_on b + 2 ^ v) (must_off b) = e ∙ on_word in
      let ps = mask_small n small must_on_more in
      let ns = mask_small n small rb.must_off_lt in
      let f = rule_fields (head b) (must_on b + 2 ^ v) (must_off b) ps ns c is in
      record {
        is_rule = record {
          head_lt = rw f.0 rb.head_lt;
          must_on_lt = rw f.1 must_on_more;
          must_off_lt = rw f.2 rb.must_off_lt;
          disjoint =
              ap₂ apart f.1 f.2
              ∙ apart_comm (must_off b) (must_on b + 2 ^ v)
              (add_apart n (must_off b) (must_on b) v rb.must_off_lt (apart_comm (must_on b) (must_off b) rb.disjoint) (free_must_off v b fr) (free_must_on v b fr));
        };
        one_head = f.0;
        must_on_keep = λ u p. rw f.1 (add_keeps (must_on b) v u (free_must_on v b fr) p);
        must_off_keep = λ u p. rw f.2 p;
        must_on_from = λ u p. tag o (add_from (must_on b) v u (free_must_on v b fr) (rw f.1 at p));
        must_off_from = λ u p. inl (rw f.2 at p);
        must_on_new = λ d. rw f.1 (add_new (must_on b) v (free_must_on v b fr));
        must_off_new = λ d. absurd (o d);
      }

  pub added : (i : ℕ) → Added n b v i (candidate b v i)
  unfolding candidate
  added i = go (on v i) refl
    where
      go : (t : Bool) → on v i ≡ t → Added n b v i (candidate b v i)
      go true e = added_off i (b + contact (on v i) v) e (ap (λ (t : Bool). b + contact t v) e)
      go false e = added_on i (b + contact (on v i) v) (λ p. false≢true (sym e ∙ p)) (ap (λ (t : Bool). b + contact t v) e)

-- ---- what take needs to know of it

module _ (n : ℕ) (small : n ≤ 10) where
  -- it narrows the rule, and does not cover i
  pub candidate_narrows : (b v i : ℕ) → Rule n b → v < n → free v b ≡ true → narrows (candidate b v i) b ≡ true
  candidate_narrows b v i rb lv fr =
      let a = added n small b v rb lv fr i in
      narrows_i (candidate b v i) b (record {
        one_head = a.one_head;
        must_on_in = on_within n (must_on b) (must_on (candidate b v i)) rb.must_on_lt (λ u l p. a.must_on_keep u p);
        must_off_in = on_within n (must_off b) (must_off (candidate b v i)) rb.must_off_lt (λ u l p. a.must_off_keep u p);
      })

  pub candidate_misses : (b v i : ℕ) → Rule n b → v < n → free v b ≡ true → covers (candidate b v i) i ≡ true → ⊥
  candidate_misses b v i rb lv fr c = go (either (on v i))
    where
      a : Added n b v i (candidate b v i)
      a = added n small b v rb lv fr i

      k : Covers (candidate b v i) i
      k = covers_e (candidate b v i) i c

      go : (on v i ≡ true) ⊎ (on v i ≡ true → ⊥) → ⊥
      go (inl o) = apart_on (must_off (candidate b v i)) i v k.must_off_off (a.must_off_new o) o
      go (inr o) = o (within_on (must_on (candidate b v i)) i v k.must_on_on (a.must_on_new o))

  -- a rule that narrows b and does not cover i, where b does, narrows b with one more contact that disagrees with i
  pub candidate_found : (r b i : ℕ) → Rule n r → Rule n b → narrows r b ≡ true → covers b i ≡ true → (covers r i ≡ true → ⊥)
      → (v : ℕ) × (v < n) × (free v b ≡ true) × (narrows r (candidate b v i) ≡ true)
  candidate_found r b i rr rb nr cb miss = go (either (within (must_on r) i)) (either (apart (must_off r) i))
    where
      x : Narrows r b
      x = narrows_e r b nr

      y : Covers b i
      y = covers_e b i cb

      found : (v : ℕ) → v < n → (fr : free v b ≡ true) → ((on v i ≡ true → ⊥) → on v (must_on r) ≡ true) → (on v i ≡ true → on v (must_off r) ≡ true)
          → (v : ℕ) × (v < n) × (free v b ≡ true) × (narrows r (candidate b v i) ≡ true)
      found v lv fr hp hn =
          let a = added n small b v rb lv fr i in (
            v,
            lv,
            fr,
            narrows_i r (candidate b v i) (record {
              one_head = x.one_head ∙ sym a.one_head;
              must_on_in = on_within n (must_on (candidate b v i)) (must_on r) a.is_rule.must_on_lt (λ u l p. must_on_side u (a.must_on_from u p));
              must_off_in = on_within n (must_off (candidate b v i)) (must_off r) a.is_rule.must_off_lt (λ u l p. must_off_side u (a.must_off_from u p));
            }),
          )
        where
          must_on_side : (u : ℕ) → (on u (must_on b) ≡ true) ⊎ ((u ≡ v) × (on v i ≡ true → ⊥)) → on u (must_on r) ≡ true
          must_on_side u (inl p) = within_on (must_on b) (must_on r) u x.must_on_in p
          must_on_side u (inr p) = subst (λ (k : ℕ). on k (must_on r) ≡ true) (sym p.0) (hp p.1)

          must_off_side : (u : ℕ) → (on u (must_off b) ≡ true) ⊎ ((u ≡ v) × (on v i ≡ true)) → on u (must_off r) ≡ true
          must_off_side u (inl p) = within_on (must_off b) (must_off r) u x.must_off_in p
          must_off_side u (inr p) = subst (λ (k : ℕ). on k (must_off r) ≡ true) (sym p.0) (hn p.1)

      go : (within (must_on r) i ≡ true) ⊎ (within (must_on r) i ≡ true → ⊥) → (apart (must_off r) i ≡ true) ⊎ (apart (must_off r) i ≡ true → ⊥)
          → (v : ℕ) × (v < n) × (free v b ≡ true) × (narrows r (candidate b v i) ≡ true)
      go (inl p) (inl q) = absurd (miss (covers_i r i (record { must_on_on = p; must_off_off = q })))
      go (inl p) (inr q) =
          let k = not_apart n (must_off r) i rr.must_off_lt q in
          found k.0 k.1
          (free_i k.0 b
          (λ t. apart_on (must_on r) (must_off r) k.0 rr.disjoint (within_on (must_on b) (must_on r) k.0 x.must_on_in t) k.2)
          (λ t. apart_on (must_off b) i k.0 y.must_off_off t k.3))
          (λ o. absurd (o k.3)) (λ o. k.2)
      go (inr p) q =
          let k = not_within n (must_on r) i rr.must_on_lt p in
          found k.0 k.1
          (free_i k.0 b
          (λ t. k.3 (within_on (must_on b) i k.0 y.must_on_on t))
          (λ t. apart_on (must_on r) (must_off r) k.0 rr.disjoint k.2 (within_on (must_off b) (must_off r) k.0 x.must_off_in t)))
          (λ o. k.2) (λ o. absurd (k.3 o))

  -- two candidates, of rules that cover i, are in order only if their contacts are one and the rules are in order
  pub candidate_order : (b v c u i : ℕ) → Rule n b → v < n → free v b ≡ true → covers b i ≡ true
      → Rule n c → u < n → free u c ≡ true → covers c i ≡ true
      → narrows (candidate b v i) (candidate c u i) ≡ true → (u ≡ v) × (narrows b c ≡ true)
  candidate_order b v c u i rb lv fb cb rc lu fc cc' p = (
    one,
    narrows_i b c (record {
      one_head = sym ab.one_head ∙ x.one_head ∙ ac.one_head;
      must_on_in = on_within n (must_on c) (must_on b) rc.must_on_lt (λ k l t. must_on_side k t (ab.must_on_from k (within_on (must_on C) (must_on B) k x.must_on_in (ac.must_on_keep k t))));
      must_off_in = on_within n (must_off c) (must_off b) rc.must_off_lt (λ k l t. must_off_side k t (ab.must_off_from k (within_on (must_off C) (must_off B) k x.must_off_in (ac.must_off_keep k t))));
    }),
  )
    where
      B : ℕ
      B = candidate b v i

      C : ℕ
      C = candidate c u i

      ab : Added n b v i B
      ab = added n small b v rb lv fb i

      ac : Added n c u i C
      ac = added n small c u rc lu fc i

      x : Narrows B C
      x = narrows_e B C p

      yb : Covers b i
      yb = covers_e b i cb

      one_must_on : (on u i ≡ true → ⊥) → (on u (must_on b) ≡ true) ⊎ ((u ≡ v) × (on v i ≡ true → ⊥)) → u ≡ v
      one_must_on o (inl t) = absurd (o (within_on (must_on b) i u yb.must_on_on t))
      one_must_on o (inr t) = t.0

      one_must_off : on u i ≡ true → (on u (must_off b) ≡ true) ⊎ ((u ≡ v) × (on v i ≡ true)) → u ≡ v
      one_must_off o (inl t) = absurd (apart_on (must_off b) i u yb.must_off_off t o)
      one_must_off o (inr t) = t.0

      cond : (on u i ≡ true) ⊎ (on u i ≡ true → ⊥) → u ≡ v
      cond (inl o) = one_must_off o (ab.must_off_from u (within_on (must_off C) (must_off B) u x.must_off_in (ac.must_off_new o)))
      cond (inr o) = one_must_on o (ab.must_on_from u (within_on (must_on C) (must_on B) u x.must_on_in (ac.must_on_new o)))

      one : u ≡ v
      one = cond (either (on u i))

      must_on_side : (k : ℕ) → on k (must_on c) ≡ true → (on k (must_on b) ≡ true) ⊎ ((k ≡ v) × (on v i ≡ true → ⊥)) → on k (must_on b) ≡ true
      must_on_side k t (inl q) = q
      must_on_side k t (inr q) = absurd (free_must_on u c fc (subst (λ (m : ℕ). on m (must_on c) ≡ true) (q.0 ∙ sym one) t))

      must_off_side : (k : ℕ) → on k (must_off c) ≡ true → (on k (must_off b) ≡ true) ⊎ ((k ≡ v) × (on v i ≡ true)) → on k (must_off b) ≡ true
      must_off_side k t (inl q) = q
      must_off_side k t (inr q) = absurd (free_must_off u c fc (subst (λ (m : ℕ). on m (must_off c) ≡ true) (q.0 ∙ sym one) t))

-- its word is larger
pub candidate_above : (b v i : ℕ) → b < candidate b v i
unfolding candidate
candidate_above b v i = go (on v i)
  where
    go : (x : Bool) → b < b + contact x v
    go true = omega (arith, pow_pos v)
    go false = omega (arith, pow_pos v)
