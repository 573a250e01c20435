-- What the sheet of a set of transitions says of a state, and that it reproduces the set.
use mathlib.Core.Path.{◌≡◌, refl, sym, ap, ap₂, ◌∙◌, subst}
use mathlib.Core.Bool.{true, not, ◌&&◌}
use mathlib.Core.List.{List, Memᴰ as Mem}
use Prim.Native.Nat.{ℕ, ◌-◌, ◌^◌, ◌≤◌, ◌<◌}
use native.Mathlib.Nat.{lt_of_lt_of_le}
use native.Mathlib.Omega.{arith}
use lib.Dec.{eqb}
use borrow.Author.Tests.{eqb-true, eq-eqb}
use Rattle.panel.specs.Masks.{on, relays, within, apart}
use Rattle.panel.specs.Rules.{rule_word, head, must_on, must_off, covers, Rule}
use Rattle.panel.specs.Transitions.{state, next, rests, observed}
use Rattle.prime.specs.Sheets.{consistent, negative, sheet_of, pulls_in, apply_sheet}
use Rattle.table.proofs.Basics.{and_l, and_r, and_i, not_i, not_e, passes, same_test, any_e, any_i, all_e}
use Rattle.panel.proofs.Masks.{within_refl, within_antisym, apart_on, on_within, on_apart, not_on, on_not, same_bits, relays_i, bits_lt, bits_on}
use Rattle.panel.proofs.Words.{covers_e, covers_i, narrows_e, narrows_covers, mask_small, head_word, must_on_word, must_off_word}
use Rattle.prime.proofs.Least.{member_e, sheet_narrowed}
use Rattle.prime.proofs.Laws.{spared_e, spared_i, consistent_e, consistent_i}

-- ---- negative states, in the words of document 01

pub negative_e : (es : List ℕ) (h i : ℕ) → negative es h i ≡ true → (t : ℕ) × Mem t es × (state t ≡ i) × (rests t h ≡ true)
unfolding negative
negative_e es h i e =
    let k = any_e (λ t. eqb (state t) i && rests t h) es e in
    (k.0, k.1, eqb-true (state k.0) i (and_l (eqb (state k.0) i) (rests k.0 h) k.2), and_r (eqb (state k.0) i) (rests k.0 h) k.2)

pub negative_i : (es : List ℕ) (h i t : ℕ) → Mem t es → state t ≡ i → rests t h ≡ true → negative es h i ≡ true
unfolding negative
negative_i es h i t m e d = any_i (λ u. eqb (state u) i && rests u h) m (and_i (eqb (state t) i) (rests t h) (eq-eqb (state t) i e) d)

-- a body is consistent exactly if it covers no negative state
pub consistent_covers : (es : List ℕ) (w : ℕ) → consistent es w ≡ true → (i : ℕ) → negative es (head w) i ≡ true → covers w i ≡ true → ⊥
consistent_covers es w e i ng c =
    let k = negative_e es (head w) i ng in
    spared_e k.0 w (consistent_e es w e k.1) k.3 (subst (λ (x : ℕ). covers w x ≡ true) (sym k.2) c)

pub covers_consistent : (es : List ℕ) (w : ℕ) → ((i : ℕ) → negative es (head w) i ≡ true → covers w i ≡ true → ⊥) → consistent es w ≡ true
covers_consistent es w f =
    consistent_i es w (λ t m. spared_i t w (λ d c. f (state t) (negative_i es (head w) (state t) t m refl d) c))

-- ---- lit

pub pulls_in_e : (s : List ℕ) (x h : ℕ) → pulls_in s x h ≡ true → (w : ℕ) × Mem w s × (head w ≡ h) × (covers w x ≡ true)
unfolding pulls_in
pulls_in_e s x h e =
    let k = any_e (λ w. eqb (head w) h && covers w x) s e in
    (k.0, k.1, eqb-true (head k.0) h (and_l (eqb (head k.0) h) (covers k.0 x) k.2), and_r (eqb (head k.0) h) (covers k.0 x) k.2)

pub pulls_in_i : (s : List ℕ) (x h w : ℕ) → Mem w s → head w ≡ h → covers w x ≡ true → pulls_in s x h ≡ true
unfolding pulls_in
pulls_in_i s x h w m e c = any_i (λ v. eqb (head v) h && covers v x) m (and_i (eqb (head w) h) (covers w x) (eq-eqb (head w) h e) c)

-- ---- apply, relay by relay

pub apply_lt : (n : ℕ) (s : List ℕ) (x : ℕ) → apply_sheet n s x < 2 ^ n
unfolding apply_sheet
apply_lt n s x = bits_lt n (pulls_in s x)

pub apply_on : (n : ℕ) (s : List ℕ) (x h : ℕ) → h < n → on h (apply_sheet n s x) ≡ pulls_in s x h
unfolding apply_sheet
apply_on n s x h l = bits_on n (pulls_in s x) h l

-- ---- the rule that covers one state only

module _ (n : ℕ) (small : n ≤ 10) (h x : ℕ) (lh : h < n) (lx : x < 2 ^ n) where
  full : ℕ
  full = rule_word h x (2 ^ n - 1 - x)

  comp_lt : 2 ^ n - 1 - x < 2 ^ n
  comp_lt = omega arith

  head_full : head full ≡ h
  unfolding full
  head_full = head_word h x (2 ^ n - 1 - x) (mask_small n small lx) (mask_small n small comp_lt)

  must_on_full : must_on full ≡ x
  unfolding full
  must_on_full = must_on_word h x (2 ^ n - 1 - x) (mask_small n small lx) (mask_small n small comp_lt)

  must_off_full : must_off full ≡ 2 ^ n - 1 - x
  unfolding full
  must_off_full = must_off_word h x (2 ^ n - 1 - x) (mask_small n small lx) (mask_small n small comp_lt)

  full_rule : Rule n full
  full_rule = record {
    head_lt = rw head_full lh;
    must_on_lt = rw must_on_full lx;
    must_off_lt = rw must_off_full comp_lt;
    disjoint = ap₂ apart must_on_full must_off_full ∙ on_apart n x (2 ^ n - 1 - x) lx (λ v l p q. not_on n x v lx l p q);
  }

  full_covers : covers full x ≡ true
  full_covers = covers_i full x (record {
    must_on_on = ap (λ (y : ℕ). within y x) must_on_full ∙ within_refl x;
    must_off_off = ap (λ (y : ℕ). apart y x) must_off_full ∙ on_apart n (2 ^ n - 1 - x) x comp_lt (λ v l p q. not_on n x v lx l q p);
  })

  full_only : (i : ℕ) → i < 2 ^ n → covers full i ≡ true → i ≡ x
  full_only i li c =
      let k = covers_e full i c in
      let pk : within x i ≡ true = sym (ap (λ (y : ℕ). within y i) must_on_full) ∙ k.must_on_on in
      let nk : apart (2 ^ n - 1 - x) i ≡ true = sym (ap (λ (y : ℕ). apart y i) must_off_full) ∙ k.must_off_off in
      within_antisym i x
      (on_within n i x li (λ v l p. passes (on v x) (λ o. apart_on (2 ^ n - 1 - x) i v nk (on_not n x v lx l o) p))) pk

  -- ---- the sheet of a set of transitions covers a state for a head exactly if the state is not negative for the head
  pub pulls_in_sheet_of : (es : List ℕ) → ((t : ℕ) → Mem t es → state t < 2 ^ n) → pulls_in (sheet_of n es) x h ≡ not (negative es h x)
  unfolding sheet_of
  pulls_in_sheet_of es valid =
      same_test (pulls_in (sheet_of n es) x h) (not (negative es h x))
      (λ e. let k = pulls_in_e (sheet_of n es) x h e in
      not_i (negative es h x) (λ ng.
      consistent_covers es k.0 (member_e n small (consistent es) k.0 k.1).1.holds x
      (subst (λ (g : ℕ). negative es g x ≡ true) (sym k.2) ng) k.3))
      (λ e. let k = sheet_narrowed n small (consistent es) full full_rule (fine e) in
      pulls_in_i (sheet_of n es) x h k.0 k.1 (sym (narrows_e full k.0 k.2).one_head ∙ head_full)
      (narrows_covers full k.0 x k.2 full_covers))
    where
      fine : not (negative es h x) ≡ true → consistent es full ≡ true
      fine e = consistent_i es full (λ t m. spared_i t full (λ d c.
          let i = full_only (state t) (valid t m) c in
          not_e (negative es h x) e (negative_i es h x t m i (subst (λ (g : ℕ). rests t g ≡ true) head_full d))))

-- ---- the sheet of a set of transitions reproduces the set

pub rests_e : (t h : ℕ) → rests t h ≡ true → on h (next t) ≡ true → ⊥
unfolding rests
rests_e t h e p = not_e (on h (next t)) (and_r (on h (observed t)) (not (on h (next t))) e) p

-- every relay of a panel was observed
pub all_observed : (t h : ℕ) → h < 10 → on h (observed t) ≡ true
unfolding observed on relays
all_observed t h l = all_e (λ v. on v 1023) (relays_i h l) refl

pub rests_i : (t h : ℕ) → h < 10 → (on h (next t) ≡ true → ⊥) → rests t h ≡ true
unfolding rests
rests_i t h l f = and_i (on h (observed t)) (not (on h (next t))) (all_observed t h l) (not_i (on h (next t)) f)

-- valid words, no state with two successors
pub record Booked (n : ℕ) (es : List ℕ) : Type 0 where
  pub state_lt : (t : ℕ) → Mem t es → state t < 2 ^ n
  pub next_lt : (t : ℕ) → Mem t es → next t < 2 ^ n
  pub one_next : (t u : ℕ) → Mem t es → Mem u es → state t ≡ state u → next t ≡ next u

pub reproduces : (n : ℕ) → n ≤ 10 → (es : List ℕ) → Booked n es → (t : ℕ) → Mem t es → apply_sheet n (sheet_of n es) (state t) ≡ next t
reproduces n small es b t m =
    same_bits n (apply_sheet n (sheet_of n es) (state t)) (next t) (apply_lt n (sheet_of n es) (state t)) (b.next_lt t m)
    (λ h l. apply_on n (sheet_of n es) (state t) h l ∙ pulls_in_sheet_of n small h (state t) l (b.state_lt t m) es b.state_lt ∙ last h (lt_of_lt_of_le l small))
  where
    other : (h : ℕ) → on h (next t) ≡ true → (u : ℕ) × Mem u es × (state u ≡ state t) × (rests u h ≡ true) → ⊥
    other h p k = rests_e k.0 h k.3 (subst (λ (y : ℕ). on h y ≡ true) (sym (b.one_next k.0 t k.1 m k.2)) p)

    last : (h : ℕ) → h < 10 → not (negative es h (state t)) ≡ on h (next t)
    last h l =
        same_test (not (negative es h (state t))) (on h (next t))
        (λ e. passes (on h (next t)) (λ f. not_e (negative es h (state t)) e (negative_i es h (state t) t m refl (rests_i t h l f))))
        (λ p. not_i (negative es h (state t)) (λ e. other h p (negative_e es h (state t) e)))
