-- What one rule has beyond another: the one contact that bars a candidate, bit by bit and by one `&`.
use mathlib.Core.Path.{◌≡◌, refl, sym, ap, ap₂, ◌∙◌, subst}
use mathlib.Core.Logic.{◌⊎◌, inl, inr}
use mathlib.Core.Bool.{Bool, true, false, not, ◌&&◌, ◌||◌, cond, false≢true}
use Prim.Native.Nat.{ℕ, zero, suc, ◌+◌, ◌-◌, ◌/◌, ◌%◌, ◌^◌, ◌≤◌, ◌<◌}
use native.Mathlib.Nat.{pow-suc}
use native.Mathlib.Omega.{arith}
use lib.Bits.{bit_and, bit_or, and_step, and_self, and_le_l, or_lt}
use lib.Dec.{eqb}
use lib.Pow.{pow_pos, pow-add}
use borrow.Author.Tests.{eqb-true, eq-eqb}
use Rattle.panel.specs.Masks.{on, bits_where}
use Rattle.panel.specs.Rules.{head, must_on, must_off, valid_rule, covers, narrows, Rule}
use Rattle.panel.specs.Contacts.{free, contact, candidate, beyond, lone, near, place_by, contact_place}
use Rattle.table.proofs.Basics.{and_l, and_r, and_i, not_e, not_i, either, same_test, passes, false_test}
use Rattle.panel.proofs.Masks.{bits_lt, bits_on, same_bits, on_complement, on_or, on_less, bit, bit_zero, bit_suc, on_and, on_bit, bit_on, off_zero, within_on, apart_on, on_within, within_eq, eq_within, within_antisym, and_less}
use Rattle.panel.proofs.Codec.{low_on, middle_on}
use Rattle.panel.proofs.Words.{rule_e, must_on_small, must_off_small, Covers, narrows_e, covers_e, narrows_word, word_narrows, narrows_covers}
use Rattle.panel.proofs.Candidates.{add_keeps, add_new, add_from, added, free_must_on, free_must_off}

-- ---- one bit alone

below_self : (x : ℕ) → x < 2 ^ x
below_self zero = omega arith
below_self (suc x) = omega (arith, below_self x, pow-suc 2 x)

odd_lone : (d : ℕ) → bit_and d (d - 1) ≡ 0 → d % 2 ≡ 1 → d ≡ 1
odd_lone d e o =
    let half : (d - 1) / 2 ≡ d / 2 = omega arith in
    let k : bit_and (d / 2) ((d - 1) / 2) ≡ d / 2 = ap (bit_and (d / 2)) half ∙ and_self (d / 2) in
    omega (arith, k, and_step d (d - 1))

-- a number with no more than one bit on is the power of a bit that is on
lone_bit : (p d : ℕ) → bit_and d (d - 1) ≡ 0 → bit p d ≡ 1 → d ≡ 2 ^ p
lone_bit zero d e b = odd_lone d e (sym (bit_zero d) ∙ b)
lone_bit (suc p) d e b = go (d % 2) refl (λ k. lone_bit p (d / 2) k (sym (bit_suc p d) ∙ b))
  where
    up : bit p (d / 2) ≡ 1
    up = sym (bit_suc p d) ∙ b

    go : (m : ℕ) → d % 2 ≡ m → (bit_and (d / 2) (d / 2 - 1) ≡ 0 → d / 2 ≡ 2 ^ p) → d ≡ 2 ^ suc p
    go zero q ih =
        let half : (d - 1) / 2 ≡ d / 2 - 1 = omega arith in
        let k : bit_and (d / 2) (d / 2 - 1) ≡ bit_and (d / 2) ((d - 1) / 2) = ap (bit_and (d / 2)) (sym half) in
        let h : d / 2 ≡ 2 ^ p = ih (omega (arith, k, and_step d (d - 1))) in
        omega (arith, h, pow-suc 2 p)
    go (suc m) q ih =
        let one : d ≡ 1 = odd_lone d e (omega arith) in
        let none : bit p 0 ≡ 1 = subst (λ (x : ℕ). bit p x ≡ 1) (omega (arith, one)) up in
        absurd (false≢true (sym (off_zero p) ∙ bit_on p 0 none))

power_lone : (p : ℕ) → bit_and (2 ^ p) (2 ^ p - 1) ≡ 0
power_lone zero = refl
power_lone (suc p) =
    let a : 2 ^ suc p / 2 ≡ 2 ^ p = omega (arith, pow-suc 2 p) in
    let b : (2 ^ suc p - 1) / 2 ≡ 2 ^ p - 1 = omega (arith, pow-suc 2 p, pow_pos p) in
    let k : bit_and (2 ^ suc p / 2) ((2 ^ suc p - 1) / 2) ≡ 0 = ap₂ bit_and a b ∙ power_lone p in
    omega (arith, k, and_step (2 ^ suc p) (2 ^ suc p - 1), pow-suc 2 p)

power_on : (p : ℕ) → on p (2 ^ p) ≡ true
power_on p = ap (on p) (omega arith) ∙ add_new 0 p (λ e. false≢true (sym (off_zero p) ∙ e))

-- ---- the bits that r has beyond b

-- the bit p is what r has beyond b
pub record Beyond (p b r : ℕ) : Type 0 where
  pub one_head : head r ≡ head b
  pub is : bit_and r b + 2 ^ p ≡ r

pub near_e : (p b r : ℕ) → on p (near b r) ≡ true → Beyond p b r
unfolding near lone beyond
near_e p b r e = go (either (eqb (head r) (head b) && eqb (bit_and (r - bit_and r b) (r - bit_and r b - 1)) 0))
  where
    t : Bool
    t = eqb (head r) (head b) && eqb (bit_and (r - bit_and r b) (r - bit_and r b - 1)) 0

    go : (t ≡ true) ⊎ (t ≡ true → ⊥) → Beyond p b r
    go (inl q) =
        let o : on p (r - bit_and r b) ≡ true = ap (λ (x : Bool). on p (cond x (r - bit_and r b) 0)) (sym q) ∙ e in
        let k : bit_and (r - bit_and r b) (r - bit_and r b - 1) ≡ 0 =
        eqb-true (bit_and (r - bit_and r b) (r - bit_and r b - 1)) 0 (and_r (eqb (head r) (head b)) (eqb (bit_and (r - bit_and r b) (r - bit_and r b - 1)) 0) q) in
        let d : r - bit_and r b ≡ 2 ^ p = lone_bit p (r - bit_and r b) k (on_bit p (r - bit_and r b) o) in
        record {
          one_head = eqb-true (head r) (head b) (and_l (eqb (head r) (head b)) (eqb (bit_and (r - bit_and r b) (r - bit_and r b - 1)) 0) q);
          is = omega (arith, d, and_le_l r b);
        }
    go (inr f) = absurd (false≢true (sym (off_zero p) ∙ ap (λ (x : Bool). on p (cond x (r - bit_and r b) 0)) (sym (false_test t f)) ∙ e))

pub near_i : (p b r : ℕ) → Beyond p b r → on p (near b r) ≡ true
unfolding near lone beyond
near_i p b r k =
    let d : r - bit_and r b ≡ 2 ^ p = omega (arith, k.is) in
    let l : bit_and (r - bit_and r b) (r - bit_and r b - 1) ≡ 0 = ap (λ (x : ℕ). bit_and x (x - 1)) d ∙ power_lone p in
    ap (λ (x : Bool). on p (cond x (r - bit_and r b) 0))
    (and_i (eqb (head r) (head b)) (eqb (bit_and (r - bit_and r b) (r - bit_and r b - 1)) 0) (eq-eqb (head r) (head b) k.one_head) (eq-eqb (bit_and (r - bit_and r b) (r - bit_and r b - 1)) 0 l))
    ∙ ap (on p) d ∙ power_on p

-- what the code tests, where the heads are known to agree; `d - 1` wraps at 0
pub near_tests : (b r : ℕ) → b < 2 ^ 32 → r < 2 ^ 32 → head r ≡ head b
    → near b r ≡ cond (eqb (bit_and (bit_and r (4294967295 - b)) ((bit_and r (4294967295 - b) + 4294967295) % 4294967296)) 0) (bit_and r (4294967295 - b)) 0
unfolding near lone beyond
near_tests b r lb lr h =
    rw (eq-eqb (head r) (head b) h, and_less r b lr lb) (wraps (r - bit_and r b) (omega arith))
  where
    wraps : (d : ℕ) → d < 2 ^ 32 → cond (eqb (bit_and d (d - 1)) 0) d 0 ≡ cond (eqb (bit_and d ((d + 4294967295) % 4294967296)) 0) d 0
    wraps zero l = refl
    wraps (suc d) l = ap (λ (x : ℕ). cond (eqb (bit_and (suc d) x) 0) (suc d) 0) (omega arith)

-- ---- the bits of a rule's word, and of its masks

and_on_l : (v a b : ℕ) → on v (bit_and a b) ≡ true → on v a ≡ true
and_on_l v a b e = and_l (on v a) (on v b) (sym (on_and v a b) ∙ e)

and_on_r : (v a b : ℕ) → on v (bit_and a b) ≡ true → on v b ≡ true
and_on_r v a b e = and_r (on v a) (on v b) (sym (on_and v a b) ∙ e)

and_on : (v a b : ℕ) → on v a ≡ true → on v b ≡ true → on v (bit_and a b) ≡ true
and_on v a b p q = on_and v a b ∙ and_i (on v a) (on v b) p q

-- with the bit p, that b lacks: c has all that r has exactly when r has nothing else beyond b
module _ (p b c r : ℕ) (off : on p b ≡ true → ⊥) (is : c ≡ b + 2 ^ p) where
  abbrev x : ℕ
  x = bit_and r b

  off_x : on p x ≡ true → ⊥
  off_x e = off (and_on_r p r b e)

  beyond_within : x + 2 ^ p ≡ r → bit_and r c ≡ r
  beyond_within e = within_eq r c (on_within r r c (below_self r) (λ u l o. in_c u (add_from x p u off_x (ap (on u) e ∙ o))))
    where
      in_c : (u : ℕ) → (on u x ≡ true) ⊎ (u ≡ p) → on u c ≡ true
      in_c u (inl o) = ap (on u) is ∙ add_keeps b p u off (and_on_r u r b o)
      in_c u (inr q) = ap₂ on q is ∙ add_new b p off

  within_beyond : bit_and r c ≡ r → on p r ≡ true → x + 2 ^ p ≡ r
  within_beyond e o =
      within_antisym (x + 2 ^ p) r
      (on_within (x + 2 ^ p) (x + 2 ^ p) r (below_self (x + 2 ^ p)) (λ u l q. in_r u (add_from x p u off_x q)))
      (on_within r r (x + 2 ^ p) (below_self r) (λ u l q. in_sum u q (add_from b p u off (ap (on u) (sym is) ∙ within_on r c u (eq_within r c e) q))))
    where
      in_r : (u : ℕ) → (on u x ≡ true) ⊎ (u ≡ p) → on u r ≡ true
      in_r u (inl q) = and_on_l u r b q
      in_r u (inr q) = ap (λ (k : ℕ). on k r) q ∙ o

      in_sum : (u : ℕ) → on u r ≡ true → (on u b ≡ true) ⊎ (u ≡ p) → on u (x + 2 ^ p) ≡ true
      in_sum u q (inl s) = add_keeps x p u off_x (and_on u r b q s)
      in_sum u q (inr s) = ap (λ (k : ℕ). on k (x + 2 ^ p)) s ∙ add_new x p off_x

  -- what r has within c and not within b is the bit p
  within_less : bit_and r c ≡ r → (on p r ≡ true → ⊥) → bit_and r b ≡ r
  within_less e f = within_eq r b (on_within r r b (below_self r) (λ u l q. in_b u q (add_from b p u off (ap (on u) (sym is) ∙ within_on r c u (eq_within r c e) q))))
    where
      in_b : (u : ℕ) → on u r ≡ true → (on u b ≡ true) ⊎ (u ≡ p) → on u b ≡ true
      in_b u q (inl s) = s
      in_b u q (inr s) = absurd (f (ap (λ (k : ℕ). on k r) (sym s) ∙ q))

-- the bits of the masks are bits of the word
pub must_off_bit : (v w : ℕ) → v < 10 → on v (must_off w) ≡ on v w
unfolding must_off
must_off_bit v w l = low_on v w l

pub must_on_bit : (v w : ℕ) → v < 10 → on v (must_on w) ≡ on (v + 10) w
unfolding must_on
must_on_bit v w l = middle_on v w l

-- ---- the contact of a candidate

-- the candidate's word has one bit more, at the place of its contact
candidate_bit : (b v i : ℕ) → candidate b v i ≡ b + 2 ^ contact_place v i
unfolding candidate contact_place
candidate_bit b v i = go (on v i)
  where
    go : (t : Bool) → b + contact t v ≡ b + 2 ^ place_by t v
    go true = refl
    go false = ap (λ (k : ℕ). b + k) (sym (pow-add 2 v 10))

-- a rule with the contact does not cover the state
contact_misses : (v i r : ℕ) → v < 10 → on (contact_place v i) r ≡ true → covers r i ≡ true → ⊥
unfolding contact_place
contact_misses v i r l o c = go (on v i) refl o
  where
    k : Covers r i
    k = covers_e r i c

    go : (t : Bool) → on v i ≡ t → on (place_by t v) r ≡ true → ⊥
    go true e q = apart_on (must_off r) i v k.must_off_off (must_off_bit v r l ∙ q) e
    go false e q = false≢true (sym e ∙ within_on (must_on r) i v k.must_on_on (must_on_bit v r l ∙ q))

contact_off : (v i b : ℕ) → v < 10 → free v b ≡ true → on (contact_place v i) b ≡ true → ⊥
unfolding contact_place
contact_off v i b l fr o = go (on v i) o
  where
    go : (t : Bool) → on (place_by t v) b ≡ true → ⊥
    go true q = free_must_off v b fr (must_off_bit v b l ∙ q)
    go false q = free_must_on v b fr (must_on_bit v b l ∙ q)

-- where b covers the state: r has the candidate's contact alone beyond b exactly when the candidate narrows r and r does not cover the state
pub near_candidate : (n : ℕ) → n ≤ 10 → (b v i r : ℕ) → Rule n b → v < n → free v b ≡ true → covers b i ≡ true
    → on (contact_place v i) (near b r) ≡ (narrows (candidate b v i) r && not (covers r i))
near_candidate n small b v i r rb lv fr cb =
    same_test (on p (near b r)) (narrows c r && not (covers r i))
    (λ e.
    let k = near_e p b r e in
    and_i (narrows c r) (not (covers r i))
    (word_narrows c r (one ∙ sym k.one_head) (beyond_within p b c r off (candidate_bit b v i) k.is))
    (not_i (covers r i) (contact_misses v i r l (ap (on p) (sym k.is) ∙ add_new (bit_and r b) p (λ q. off (and_on_r p r b q))))))
    (λ e.
    let nr = and_l (narrows c r) (not (covers r i)) e in
    let w = narrows_word c r nr in
    let h : head r ≡ head b = sym (narrows_e c r nr).one_head ∙ one in
    near_i p b r (record {
      one_head = h;
      is = within_beyond p b c r off (candidate_bit b v i) w
          (passes (on p r)
          (λ f. not_e (covers r i) (and_r (narrows c r) (not (covers r i)) e)
          (narrows_covers b r i (word_narrows b r (sym h) (within_less p b c r off (candidate_bit b v i) w f)) cb)));
    }))
  where
    p : ℕ
    p = contact_place v i

    c : ℕ
    c = candidate b v i

    l : v < 10
    l = omega arith

    off : on p b ≡ true → ⊥
    off = contact_off v i b l fr

    one : head c ≡ head b
    one = (added n small b v rb lv fr i).one_head

-- ---- all relays at once

-- the relays that are in neither mask, as the code finds them
pub free_bits : (n w s p m k : ℕ) → n ≤ 10 → valid_rule n w ≡ true → s ≡ 2 ^ n → p ≡ must_on w → m ≡ must_off w → k ≡ bit_or p m → s - 1 - k ≡ bits_where n (λ v. free v w)
unfolding free
free_bits n w s p m k small rr es ep em ek =
    let r = rule_e n w rr in
    let ok : k ≡ bit_or (must_on w) (must_off w) = ek ∙ ap₂ bit_or ep em in
    let lk : k < 2 ^ n = subst (λ (x : ℕ). x < 2 ^ n) (sym ok) (or_lt n (must_on w) (must_off w) r.must_on_lt r.must_off_lt) in
    ap (λ (x : ℕ). x - 1 - k) es
    ∙ same_bits n (2 ^ n - 1 - k) (bits_where n (λ v. not (on v (must_on w)) && not (on v (must_off w)))) (omega (arith, pow_pos n)) (bits_lt n (λ v. not (on v (must_on w)) && not (on v (must_off w))))
    (λ v l.
    on_complement n k v lk l
    ∙ ap not (ap (on v) ok ∙ on_or v (must_on w) (must_off w))
    ∙ neither (on v (must_on w)) (on v (must_off w))
    ∙ sym (bits_on n (λ u. not (on u (must_on w)) && not (on u (must_off w))) v l))
  where
    neither : (a b : Bool) → not (a || b) ≡ (not a && not b)
    neither true b = refl
    neither false b = refl

-- the word is large enough for the differences
pub free_room : (n w s p m k : ℕ) → n ≤ 10 → valid_rule n w ≡ true → s ≡ 2 ^ n → p ≡ must_on w → m ≡ must_off w → k ≡ bit_or p m → (1 ≤ s) × (k ≤ s - 1)
free_room n w s p m k small rr es ep em ek =
    let r = rule_e n w rr in
    let l : bit_or (must_on w) (must_off w) < 2 ^ n = or_lt n (must_on w) (must_off w) r.must_on_lt r.must_off_lt in
    (omega (arith, es, pow_pos n), omega (arith, es, ek ∙ ap₂ bit_or ep em, l))

-- the relays whose contact was seen, by one `&` for each mask
pub against_bits : (seen i p m : ℕ) → p ≡ must_on seen → m ≡ must_off seen → bit_or (bit_and m i) (p - bit_and p i) ≡ bits_where 10 (λ v. on (contact_place v i) seen)
unfolding contact_place
against_bits seen i p m ep em =
    same_bits 10 (bit_or (bit_and m i) (p - bit_and p i)) (bits_where 10 (λ v. on (place_by (on v i) v) seen))
    (or_lt 10 (bit_and m i) (p - bit_and p i) (omega (arith, and_le_l m i, em, must_off_small seen)) (omega (arith, ep, must_on_small seen)))
    (bits_lt 10 (λ v. on (place_by (on v i) v) seen))
    (λ v l.
    on_or v (bit_and m i) (p - bit_and p i)
    ∙ ap₂ (λ (x y : Bool). x || y) (on_and v m i ∙ ap (λ (x : Bool). x && on v i) (ap (on v) em ∙ must_off_bit v seen l))
    (on_less v p i ∙ ap (λ (x : Bool). x && not (on v i)) (ap (on v) ep ∙ must_on_bit v seen l))
    ∙ either_way (on v i) v
    ∙ sym (bits_on 10 (λ u. on (place_by (on u i) u) seen) v l))
  where
    either_way : (x : Bool) (v : ℕ) → ((on v seen && x) || (on (v + 10) seen && not x)) ≡ on (place_by x v) seen
    either_way true v = first (on v seen) (on (v + 10) seen)
      where
        first : (a b : Bool) → ((a && true) || (b && false)) ≡ a
        first true b = refl
        first false true = refl
        first false false = refl
    either_way false v = second (on v seen) (on (v + 10) seen)
      where
        second : (a b : Bool) → ((a && false) || (b && true)) ≡ b
        second true true = refl
        second true false = refl
        second false true = refl
        second false false = refl

-- the same as the code finds them, by the complement of the state
pub against_bits_but : (seen i p m : ℕ) → i < 2 ^ 32 → p ≡ must_on seen → m ≡ must_off seen → bit_or (bit_and m i) (bit_and p (4294967295 - i)) ≡ bits_where 10 (λ v. on (contact_place v i) seen)
against_bits_but seen i p m li ep em =
    rw (and_less p i (omega (arith, ep, must_on_small seen)) li) (against_bits seen i p m ep em)
