-- Least by taking one contact away at a time, for any test that is closed upwards.
use mathlib.Core.Path.{◌≡◌, sym, ap, ◌∙◌, subst}
use mathlib.Core.Logic.{◌⊎◌, inl, inr}
use mathlib.Core.Bool.{Bool, true, false, not, ◌||◌, false≢true}
use Prim.Native.Nat.{ℕ, zero, suc, ◌-◌, ◌*◌, ◌^◌, ◌≤◌, ◌<◌}
use native.Mathlib.Nat.{eq-or-lt_of_le, le_of_suc-le-suc, not-suc-le-zero}
use native.Mathlib.Omega.{arith}
use lib.Dec.{eqb}
use borrow.Author.Tests.{eqb-true, eq-eqb}
use Rattle.table.proofs.Basics.{and_l, and_r, and_i, or_e, or_l, or_r, not_i, not_e, either, false_test}
use Rattle.panel.specs.Masks.{on}
use Rattle.panel.specs.Rules.{must_on, must_off, narrows, Rule}
use Rattle.panel.specs.Contacts.{free}
use Rattle.panel.proofs.Words.{narrows_antisym}
use Rattle.panel.proofs.Candidates.{candidate_narrows}
use Rattle.prime.specs.Sheets.{least}
use Rattle.prime.proofs.Least.{Least, Upward, least_e, least_i}
use Rattle.spans.specs.Fewer.{without, smaller, fewer}
use Rattle.spans.proofs.Contacts.{Lesser, without_on, without_off, without_none, without_free, without_lesser, room_on, room_off, narrows_still, contact_lacking}

-- ---- q passes with some contact taken away

module _ (q : ℕ → Bool) (w : ℕ) where
  smaller_i : (x : ℕ) → (x ≡ w → ⊥) → q x ≡ true → smaller q w x ≡ true
  unfolding smaller
  smaller_i x d p = and_i (not (eqb x w)) (q x) (not_i (eqb x w) (λ t. d (eqb-true x w t))) p

  smaller_e : (x : ℕ) → smaller q w x ≡ true → (x ≡ w → ⊥) × (q x ≡ true)
  unfolding smaller
  smaller_e x p = (λ e. not_e (eqb x w) (and_l (not (eqb x w)) (q x) p) (eq-eqb x w e), and_r (not (eqb x w)) (q x) p)

  fewer_i : (k v : ℕ) → v < k → smaller q w (without w v) ≡ true → fewer k q w ≡ true
  unfolding fewer
  fewer_i zero v l p = absurd (not-suc-le-zero l)
  fewer_i (suc k) v l p = go (λ (m : v < k). fewer_i k v m p) (eq-or-lt_of_le (le_of_suc-le-suc l))
    where
      go : (v < k → fewer k q w ≡ true) → (v ≡ k) ⊎ (v < k) → (fewer k q w || smaller q w (without w k)) ≡ true
      go rec (inl e) = or_r (fewer k q w) (smaller q w (without w k)) (ap (λ (u : ℕ). smaller q w (without w u)) (sym e) ∙ p)
      go rec (inr m) = or_l (fewer k q w) (smaller q w (without w k)) (rec m)

  fewer_e : (k : ℕ) → fewer k q w ≡ true → (v : ℕ) × (v < k) × (smaller q w (without w v) ≡ true)
  unfolding fewer
  fewer_e zero e = absurd (false≢true e)
  fewer_e (suc k) e = go (λ (p : fewer k q w ≡ true). fewer_e k p) (or_e (fewer k q w) (smaller q w (without w k)) e)
    where
      go : (fewer k q w ≡ true → (v : ℕ) × (v < k) × (smaller q w (without w v) ≡ true)) → (fewer k q w ≡ true) ⊎ (smaller q w (without w k) ≡ true)
          → (v : ℕ) × (v < suc k) × (smaller q w (without w v) ≡ true)
      go rec (inl p) = let r = rec p in (r.0, omega (arith, r.1), r.2)
      go rec (inr p) = (k, omega arith, p)

-- ---- so w is not a smallest rule, and only so

module _ (n : ℕ) (small : n ≤ 10) (q : ℕ → Bool) (up : Upward n q) (w : ℕ) (rr : Rule n w) where
  least_not_fewer : Least n q w → fewer n q w ≡ true → ⊥
  least_not_fewer l e =
      let k = fewer_e q w n e in
      let s = smaller_e q w (without w k.0) k.2 in
      go k.0 k.1 s.0 s.1 (without_lesser n small w rr k.0)
    where
      go : (v : ℕ) → v < n → (without w v ≡ w → ⊥) → q (without w v) ≡ true → (free v w ≡ true) ⊎ Lesser n w v (without w v) → ⊥
      go v lv d p (inl f) = d (without_free w v f)
      go v lv d p (inr x) =
          d (l.smallest (without w v) x.is_rule
          (subst (λ (y : ℕ). narrows y (without w v) ≡ true) x.back (candidate_narrows n small (without w v) v x.seen x.is_rule lv x.lacks)) p)

  least_of_fewer : q w ≡ true → (fewer n q w ≡ true → ⊥) → Least n q w
  least_of_fewer p f = record { holds = p; smallest = λ r k a t. go r k a t (either (narrows r w)) }
    where
      found : (r : ℕ) → Rule n r → narrows w r ≡ true → q r ≡ true → (v : ℕ) → v < n → free v r ≡ true → Lesser n w v (without w v) → fewer n q w ≡ true
      found r k a t v lv fr x =
          fewer_i q w n v lv (smaller_i q w (without w v) (λ e. omega (arith, e, x.below))
          (up (without w v) r x.is_rule k
          (narrows_still n small (without w v) v x.seen x.is_rule lv x.lacks r k (subst (λ (y : ℕ). narrows y r ≡ true) (sym x.back) a) fr) t))

      split : (r : ℕ) → Rule n r → narrows w r ≡ true → q r ≡ true → (v : ℕ) → v < n → (free v w ≡ true → ⊥) → free v r ≡ true → (free v w ≡ true) ⊎ Lesser n w v (without w v) → ⊥
      split r k a t v lv fw fr (inl e) = fw e
      split r k a t v lv fw fr (inr x) = f (found r k a t v lv fr x)

      go : (r : ℕ) → Rule n r → narrows w r ≡ true → q r ≡ true → (narrows r w ≡ true) ⊎ (narrows r w ≡ true → ⊥) → r ≡ w
      go r k a t (inl b) = narrows_antisym r w b a
      go r k a t (inr b) =
          let c = contact_lacking n small w r rr a b in
          absurd (split r k a t c.0 c.1 c.2 c.3 (without_lesser n small w rr c.0))

  -- ---- the loop: q at w first, then each relay below n

  pub least_not : (x : Bool) → x ≡ q w → x ≡ false → false ≡ least n q w
  least_not x e p = sym (false_test (least n q w) (λ t. false≢true (sym p ∙ e ∙ (least_e n small q w t).holds)))

  pub least_hit : (v : ℕ) → v < n → (d : ℕ) → d ≡ without w v → (x : Bool) → x ≡ smaller q w d → x ≡ true → false ≡ least n q w
  least_hit v l d ed x e p =
      sym (false_test (least n q w) (λ t. least_not_fewer (least_e n small q w t) (fewer_i q w n v l (ap (smaller q w) (sym ed) ∙ sym e ∙ p))))

  pub least_done : (x : Bool) → x ≡ q w → x ≡ true → (v : ℕ) → v ≤ n → n ≤ v → fewer v q w ≡ false → true ≡ least n q w
  least_done x e p v l k f =
      let d : n ≡ v = omega arith in
      sym (least_i n small q w (least_of_fewer (sym e ∙ p) (λ t. false≢true (sym f ∙ ap (λ (m : ℕ). fewer m q w) (sym d) ∙ t))))

-- ---- `without` as code finds it: x is 2^v, p and m the masks, a and b the bits

module _ (w v x : ℕ) (ex : x ≡ 2 ^ v) (p : ℕ) (a : Bool) (ep : p ≡ must_on w) (ea : a ≡ on v p) where
  in_on : a ≡ on v (must_on w)
  in_on = ea ∙ ap (on v) ep

  pub drop_room_on : a ≡ true → x * 1024 ≤ w
  drop_room_on t = omega (arith, ex, room_on w v (sym in_on ∙ t))

  pub drop_on : a ≡ true → w - x * 1024 ≡ without w v
  drop_on t = ap (λ (y : ℕ). w - y * 1024) ex ∙ without_on w v (sym in_on ∙ t)

  module _ (f : a ≡ false) (m : ℕ) (b : Bool) (em : m ≡ must_off w) (eb : b ≡ on v m) where
    in_off : b ≡ on v (must_off w)
    in_off = eb ∙ ap (on v) em

    pub drop_room_off : b ≡ true → x ≤ w
    drop_room_off t = omega (arith, ex, room_off w v (sym in_off ∙ t))

    pub drop_off : b ≡ true → w - x ≡ without w v
    drop_off t = ap (λ (y : ℕ). w - y) ex ∙ without_off w v (sym in_on ∙ f) (sym in_off ∙ t)

    pub drop_none : b ≡ false → w ≡ without w v
    drop_none t = without_none w v (sym in_on ∙ f) (sym in_off ∙ t)
