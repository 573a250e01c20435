-- One pass over a part of a sheet finds the heirs of a hit rule: a candidate is barred by a rule that has its contact alone beyond the hit rule.
use mathlib.Core.Path.{◌≡◌, refl, sym, ap, ap₂, ◌∙◌}
use mathlib.Core.Bool.{Bool, true, false, not, ◌&&◌, ◌||◌, or-false, false≢true}
use mathlib.Core.List.{List, [], ◌∷◌}
use Prim.Native.Nat.{ℕ, ◌+◌, ◌-◌, ◌≤◌, ◌<◌}
use native.Mathlib.Numerals.{add-one}
use native.Mathlib.Omega.{arith}
use lib.Bits.{bit_and, bit_or}
use lib.Dec.{eqb}
use borrow.Author.Tests.{eqb-true}
use lib.ListN.{length, drop, get_or, drop_of_length-le}
use lib.Seq.{drop-cons}
use Rattle.table.specs.Lists.{any, all}
use Rattle.table.proofs.Basics.{and_l, and_r, and_i, not_i, not_e, same_test, all_e, at_in, or_assoc}
use Rattle.panel.specs.Masks.{on, bits_where}
use Rattle.panel.specs.Rules.{head, valid_rule, covers, narrows}
use Rattle.panel.specs.Transitions.{state, rests, spared}
use Rattle.panel.specs.Contacts.{free, candidate, near, contact_place}
use lib.Pow.{pow_mono}
use Rattle.panel.proofs.Masks.{and_less, on_or, on_less, off_zero, same_bits, bits_on, bits_lt}
use Rattle.panel.proofs.Words.{rule_e, narrows_e}
use Rattle.panel.proofs.Candidates.{added}
use Rattle.panel.proofs.Near.{near_candidate}
use Rattle.prime.proofs.Laws.{spared_e, hit_e}
use Rattle.heirs.specs.Heirs.{blocked, heir_by, heir_mask, near_all}
use Rattle.heirs.proofs.Take.{spared_miss}

-- ---- the pass

-- the bits seen at the end are those seen before and those of the part
near_on : (p b seen : ℕ) (part : List ℕ) → on p (near_all b seen part) ≡ (on p seen || any (λ r. on p (near b r)) part)
unfolding near_all
near_on p b seen [] = sym (or-false (on p seen))
near_on p b seen (r ∷ part) =
    near_on p b (bit_or seen (near b r)) part
    ∙ ap (λ (x : Bool). x || any (λ y. on p (near b y)) part) (on_or p seen (near b r))
    ∙ or_assoc (on p seen) (on p (near b r)) (any (λ y. on p (near b y)) part)

-- a rule of the part has the head
pub in_head : (b : ℕ) (part : List ℕ) (k : ℕ) → all (λ r. eqb (head r) (head b)) part ≡ true → k < length part → head (get_or part k 0) ≡ head b
in_head b part k e l = eqb-true (head (get_or part k 0)) (head b) (all_e (λ r. eqb (head r) (head b)) (at_in part k l) e)

pub pass_more : (b seen k x : ℕ) (part : List ℕ) → k < length part → x ≡ near b (get_or part k 0) → near_all b seen (drop k part) ≡ near_all b 0 part
    → near_all b (bit_or seen x) (drop (k + 1) part) ≡ near_all b 0 part
unfolding near_all
pass_more b seen k x part l ex e =
    ap₂ (λ (y z : ℕ). near_all b (bit_or seen y) (drop z part)) ex (add-one k)
    ∙ sym (ap (near_all b seen) (drop-cons part k 0 l)) ∙ e

pub pass_end : (b seen k : ℕ) (part : List ℕ) → length part ≤ k → near_all b seen (drop k part) ≡ near_all b 0 part → seen ≡ near_all b 0 part
unfolding near_all
pass_end b seen k part l e = sym (ap (near_all b seen) (drop_of_length-le part {i = k} l)) ∙ e

-- what the pass rests on
pub ruleset near_pass = (in_head, pass_more, pass_end)

-- ---- what was seen tells the heirs

any_same : (f g : ℕ → Bool) (s : List ℕ) → ((x : ℕ) → f x ≡ g x) → any f s ≡ any g s
any_same f g [] h = refl
any_same f g (x ∷ s) h = ap₂ (λ (a b : Bool). a || b) (h x) (any_same f g s h)

module _ (n t b : ℕ) (small : n ≤ 10) (rb : valid_rule n b ≡ true) (hit : spared t b ≡ false) where
  struck : (rests t (head b) ≡ true) × (covers b (state t) ≡ true)
  struck = hit_e t b (λ e. false≢true (sym hit ∙ e))

  -- a rule of the head that the candidate narrows is spared exactly when it does not cover the state
  barring : (v r : ℕ) → v < n → free v b ≡ true
      → (narrows (candidate b v (state t)) r && not (covers r (state t))) ≡ (spared t r && narrows (candidate b v (state t)) r)
  barring v r l fr =
      same_test (narrows c r && not (covers r (state t))) (spared t r && narrows c r)
      (λ e. and_i (spared t r) (narrows c r) (spared_miss t r (not_e (covers r (state t)) (and_r (narrows c r) (not (covers r (state t))) e))) (and_l (narrows c r) (not (covers r (state t))) e))
      (λ e.
      let nr = and_r (spared t r) (narrows c r) e in
      let h : head b ≡ head r = sym (added n small b v (rule_e n b rb) l fr (state t)).one_head ∙ (narrows_e c r nr).one_head in
      and_i (narrows c r) (not (covers r (state t))) nr
      (not_i (covers r (state t)) (spared_e t r (and_l (spared t r) (narrows c r) e) (ap (rests t) (sym h) ∙ struck.0))))
    where
      c : ℕ
      c = candidate b v (state t)

  heir_seen : (v seen i : ℕ) (part : List ℕ) → v < n → seen ≡ near_all b 0 part → i ≡ state t
      → (free v b && not (on (contact_place v i) seen)) ≡ heir_by t b v part
  unfolding heir_by blocked
  heir_seen v seen i part l es ei = ap₂ (λ (j k : ℕ). free v b && not (on (contact_place v j) k)) ei es ∙ go (free v b) refl
    where
      bars : free v b ≡ true → on (contact_place v (state t)) (near_all b 0 part) ≡ any (λ r. spared t r && narrows (candidate b v (state t)) r) part
      bars fr =
          near_on (contact_place v (state t)) b 0 part
          ∙ ap (λ (y : Bool). y || any (λ r. on (contact_place v (state t)) (near b r)) part) (off_zero (contact_place v (state t)))
          ∙ any_same (λ r. on (contact_place v (state t)) (near b r)) (λ r. spared t r && narrows (candidate b v (state t)) r) part
          (λ r. near_candidate n small b v (state t) r (rule_e n b rb) l fr struck.1 ∙ barring v r l fr)

      go : (f : Bool) → free v b ≡ f
          → (f && not (on (contact_place v (state t)) (near_all b 0 part))) ≡ (f && not (any (λ r. spared t r && narrows (candidate b v (state t)) r) part))
      go true fr = ap not (bars fr)
      go false fr = refl

  -- the free relays whose contact no rule has alone beyond b are those of the heirs
  pub heir_bits : (seen i frees barred : ℕ) (part : List ℕ) → seen ≡ near_all b 0 part → i ≡ state t → frees ≡ bits_where n (λ v. free v b)
      → barred ≡ bits_where 10 (λ v. on (contact_place v i) seen) → frees - bit_and frees barred ≡ heir_mask n t b part
  unfolding heir_mask
  heir_bits seen i frees barred part es ei eo eb =
      same_bits n (frees - bit_and frees barred) (bits_where n (λ v. heir_by t b v part)) (omega (arith, eo, bits_lt n (λ v. free v b))) (bits_lt n (λ v. heir_by t b v part))
      (λ v l.
      on_less v frees barred
      ∙ ap₂ (λ (x y : Bool). x && not y)
      (ap (on v) eo ∙ bits_on n (λ u. free u b) v l)
      (ap (on v) eb ∙ bits_on 10 (λ u. on (contact_place u i) seen) v (omega arith))
      ∙ heir_seen v seen i part l es ei
      ∙ sym (bits_on n (λ u. heir_by t b u part) v l))

  -- the same as the code finds them, by the complement of what is barred
  pub heir_bits_but : (seen i frees barred : ℕ) (part : List ℕ) → seen ≡ near_all b 0 part → i ≡ state t → frees ≡ bits_where n (λ v. free v b)
      → barred ≡ bits_where 10 (λ v. on (contact_place v i) seen) → bit_and frees (4294967295 - barred) ≡ heir_mask n t b part
  heir_bits_but seen i frees barred part es ei eo eb =
      rw (and_less frees barred (omega (arith, eo, bits_lt n (λ v. free v b), pow_mono {j = 10} small)) (omega (arith, eb, bits_lt 10 (λ v. on (contact_place v i) seen))))
      (heir_bits seen i frees barred part es ei eo eb)
