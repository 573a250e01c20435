-- `sheet_where`: its members, that they determine it, and that it stands for the test it came from.
use mathlib.Core.Path.{◌≡◌, refl, sym, ◌∙◌, subst}
use mathlib.Core.Logic.{◌⊎◌, inl, inr}
use mathlib.Core.Bool.{Bool, true, not, ◌&&◌, ◌||◌}
use mathlib.Core.List.Memᴰ
use mathlib.Core.List.Memᴰ.{head as here}
use mathlib.Core.List.Memᴰ.{tail as there}
use mathlib.Core.List.{List, [], ◌∷◌, Memᴰ as Mem}
use Prim.Native.Nat.{ℕ, zero, suc, ◌≤◌, ◌<◌}
use native.Mathlib.Nat.{not-suc-le-zero, lt-suc_self}
use native.Mathlib.Omega.{arith}
use lib.Arith.{lt_of_le-ne}
use lib.Dec.{eqb}
use borrow.Author.Tests.{eqb-true, eq-eqb}
use Rattle.table.specs.Lists.{any, all, increasing}
use Rattle.panel.specs.Rules.{valid_rule, narrows, rules, Rule}
use Rattle.prime.specs.Sheets.{least, sheet_where, permits, antichain, good_sheet}
use Rattle.table.proofs.Basics.{and_l, and_r, and_i, or_e, or_l, or_r, not_i, not_e, either, passes, same_test, any_e, any_i, all_e, all_i, filter_e, filter_i}
use Rattle.table.proofs.Increasing.{first_below, rest_increasing, filter_increasing, increasing_unique}
use Rattle.panel.proofs.Words.{rule_e, rule_i, narrows_refl, narrows_trans, narrows_antisym, narrows_le, rules_i, rules_e, rules_increasing}

pub permits_e : (s : List ℕ) (w : ℕ) → permits s w ≡ true → (r : ℕ) × Mem r s × (narrows w r ≡ true)
unfolding permits
permits_e s w e = any_e (narrows w) s e

pub permits_i : (s : List ℕ) (w : ℕ) {r : ℕ} → Mem r s → narrows w r ≡ true → permits s w ≡ true
unfolding permits
permits_i s w m p = any_i (narrows w) m p

-- ---- good sheets

pub record Good (n : ℕ) (s : List ℕ) : Type 0 where
  pub valid : (w : ℕ) → Mem w s → Rule n w
  pub sorted : increasing s ≡ true
  pub anti : (w r : ℕ) → Mem w s → Mem r s → narrows w r ≡ true → r ≡ w

antichain_e : (s : List ℕ) → antichain s ≡ true → (w r : ℕ) → Mem w s → Mem r s → narrows w r ≡ true → r ≡ w
antichain_e [] e w r mw mr p = absurd (Memᴰ.not-nil mw)
antichain_e (x ∷ xs) e w r mw mr p =
    go (Memᴰ.cases_cons mw) (Memᴰ.cases_cons mr) (antichain_e xs (and_r (not (any (λ y. narrows x y || narrows y x) xs)) (antichain xs) e) w r)
  where
    clash : (y : ℕ) → Mem y xs → (narrows x y ≡ true) ⊎ (narrows y x ≡ true) → ⊥
    clash y m d =
        not_e (any (λ z. narrows x z || narrows z x) xs) (and_l (not (any (λ z. narrows x z || narrows z x) xs)) (antichain xs) e)
        (any_i (λ z. narrows x z || narrows z x) m (side d))
      where
        side : (narrows x y ≡ true) ⊎ (narrows y x ≡ true) → (narrows x y || narrows y x) ≡ true
        side (inl q) = or_l (narrows x y) (narrows y x) q
        side (inr q) = or_r (narrows x y) (narrows y x) q

    go : (w ≡ x) ⊎ Mem w xs → (r ≡ x) ⊎ Mem r xs → (Mem w xs → Mem r xs → narrows w r ≡ true → r ≡ w) → r ≡ w
    go (inl a) (inl b) rec = b ∙ sym a
    go (inl a) (inr m) rec = absurd (clash r m (inl (subst (λ (k : ℕ). narrows k r ≡ true) a p)))
    go (inr m) (inl b) rec = absurd (clash w m (inr (subst (λ (k : ℕ). narrows w k ≡ true) b p)))
    go (inr m) (inr k) rec = rec m k p

-- x narrows no other rule of the list, and none of them narrows it
antichain_i : (s : List ℕ) → increasing s ≡ true → ((w r : ℕ) → Mem w s → Mem r s → narrows w r ≡ true → r ≡ w) → antichain s ≡ true
antichain_i [] i h = refl
antichain_i (x ∷ xs) i h =
    and_i (not (any (λ y. narrows x y || narrows y x) xs)) (antichain xs)
    (not_i (any (λ y. narrows x y || narrows y x) xs) (λ e. clash (any_e (λ y. narrows x y || narrows y x) xs e)))
    (antichain_i xs (rest_increasing x xs i) (λ w r mw mr p. h w r (there mw) (there mr) p))
  where
    apart : (y : ℕ) → Mem y xs → (narrows x y ≡ true) ⊎ (narrows y x ≡ true) → ⊥
    apart y m (inl p) = omega (arith, first_below x xs i m, h x y (here refl) (there m) p)
    apart y m (inr p) = omega (arith, first_below x xs i m, h y x (there m) (here refl) p)

    clash : (y : ℕ) × Mem y xs × ((narrows x y || narrows y x) ≡ true) → ⊥
    clash r = apart r.0 r.1 (or_e (narrows x r.0) (narrows r.0 x) r.2)

pub good_e : (n : ℕ) (s : List ℕ) → good_sheet n s ≡ true → Good n s
unfolding good_sheet
good_e n s e =
    let rest = and_r (all (valid_rule n) s) (increasing s && antichain s) e in
    record {
      valid = λ w m. rule_e n w (all_e (valid_rule n) m (and_l (all (valid_rule n) s) (increasing s && antichain s) e));
      sorted = and_l (increasing s) (antichain s) rest;
      anti = antichain_e s (and_r (increasing s) (antichain s) rest);
    }

pub good_i : (n : ℕ) (s : List ℕ) → Good n s → good_sheet n s ≡ true
unfolding good_sheet
good_i n s g =
    and_i (all (valid_rule n) s) (increasing s && antichain s) (all_i (valid_rule n) s (λ w m. rule_i n w (g.valid w m)))
    (and_i (increasing s) (antichain s) g.sorted (antichain_i s g.sorted g.anti))

-- ---- the smallest rules that pass a test

pub record Least (n : ℕ) (q : ℕ → Bool) (w : ℕ) : Type 0 where
  pub holds : q w ≡ true
  pub smallest : (r : ℕ) → Rule n r → narrows w r ≡ true → q r ≡ true → r ≡ w

-- the test passes at whatever narrows a rule at which it passes
abbrev pub Upward : ℕ → (ℕ → Bool) → Type 0
Upward n q = (w r : ℕ) → Rule n w → Rule n r → narrows w r ≡ true → q r ≡ true → q w ≡ true

pub permits_up : (n : ℕ) (s : List ℕ) → Upward n (permits s)
permits_up n s w r rw' rr p e =
    let k = permits_e s r e in
    permits_i s w k.1 (narrows_trans w r k.0 p k.2)

pub both_up : (n : ℕ) (q q' : ℕ → Bool) → Upward n q → Upward n q' → Upward n (λ w. q w && q' w)
both_up n q q' u u' w r rw' rr p e =
    and_i (q w) (q' w) (u w r rw' rr p (and_l (q r) (q' r) e)) (u' w r rw' rr p (and_r (q r) (q' r) e))

-- the test inside `least`: another rule r that w narrows, at which q passes
abbrev other : (ℕ → Bool) → ℕ → ℕ → Bool
other q w r = narrows w r && (q r && not (eqb r w))

module _ (n : ℕ) (small : n ≤ 10) where
  pub least_e : (q : ℕ → Bool) (w : ℕ) → least n q w ≡ true → Least n q w
  unfolding least
  least_e q w e = record {
    holds = and_l (q w) (not (any (other q w) (rules n))) e;
    smallest = λ r rr p t. passed r (passes (eqb r w) (λ f.
        not_e (any (other q w) (rules n)) (and_r (q w) (not (any (other q w) (rules n))) e)
        (any_i (other q w) (rules_i n r rr) (and_i (narrows w r) (q r && not (eqb r w)) p (and_i (q r) (not (eqb r w)) t (not_i (eqb r w) f))))));
  }
    where
      passed : (r : ℕ) → eqb r w ≡ true → r ≡ w
      passed r e' = eqb-true r w e'

  -- a rule at which q passes is a smallest one, or narrows another
  least_or : (q : ℕ → Bool) (w : ℕ) → q w ≡ true
      → Least n q w ⊎ ((r : ℕ) × Rule n r × (narrows w r ≡ true) × (q r ≡ true) × (r ≡ w → ⊥))
  least_or q w t = go (either (any (other q w) (rules n)))
    where
      found : (r : ℕ) → Mem r (rules n) → other q w r ≡ true → (r : ℕ) × Rule n r × (narrows w r ≡ true) × (q r ≡ true) × (r ≡ w → ⊥)
      found r m e =
          let e' = and_r (narrows w r) (q r && not (eqb r w)) e in (
            r,
            rules_e n small r m,
            and_l (narrows w r) (q r && not (eqb r w)) e,
            and_l (q r) (not (eqb r w)) e',
            λ d. not_e (eqb r w) (and_r (q r) (not (eqb r w)) e') (eq-eqb r w d),
          )

      none : (any (other q w) (rules n) ≡ true → ⊥) → (r : ℕ) → Rule n r → narrows w r ≡ true → q r ≡ true → r ≡ w
      none f r rr p t' =
          eqb-true r w (passes (eqb r w) (λ d.
          f (any_i (other q w) (rules_i n r rr) (and_i (narrows w r) (q r && not (eqb r w)) p (and_i (q r) (not (eqb r w)) t' (not_i (eqb r w) d))))))

      go : (any (other q w) (rules n) ≡ true) ⊎ (any (other q w) (rules n) ≡ true → ⊥)
          → Least n q w ⊎ ((r : ℕ) × Rule n r × (narrows w r ≡ true) × (q r ≡ true) × (r ≡ w → ⊥))
      go (inl e) = let k = any_e (other q w) (rules n) e in inr (found k.0 k.1 k.2)
      go (inr f) = inl (record { holds = t; smallest = none f })

  pub least_i : (q : ℕ → Bool) (w : ℕ) → Least n q w → least n q w ≡ true
  unfolding least
  least_i q w l =
      and_i (q w) (not (any (other q w) (rules n))) l.holds
      (not_i (any (other q w) (rules n)) (λ e. clash (any_e (other q w) (rules n) e)))
    where
      clash : (r : ℕ) × Mem r (rules n) × (other q w r ≡ true) → ⊥
      clash k =
          let r = k.0 in
          let e = and_r (narrows w r) (q r && not (eqb r w)) k.2 in
          not_e (eqb r w) (and_r (q r) (not (eqb r w)) e)
          (eq-eqb r w (l.smallest r (rules_e n small r k.1) (and_l (narrows w r) (q r && not (eqb r w)) k.2) (and_l (q r) (not (eqb r w)) e)))

  -- L1: the members of a sheet
  pub member_e : (q : ℕ → Bool) (w : ℕ) → Mem w (sheet_where n q) → Rule n w × Least n q w
  unfolding sheet_where
  member_e q w m =
      let k = filter_e (least n q) (rules n) m in
      (rules_e n small w k.0, least_e q w k.1)

  pub member_i : (q : ℕ → Bool) (w : ℕ) → Rule n w → Least n q w → Mem w (sheet_where n q)
  unfolding sheet_where
  member_i q w rr l = filter_i (least n q) (rules_i n w rr) (least_i q w l)

  -- L2: it is strictly increasing
  pub sheet_increasing : (q : ℕ → Bool) → increasing (sheet_where n q) ≡ true
  unfolding sheet_where
  sheet_increasing q = filter_increasing (least n q) (rules n) (rules_increasing n small)

  -- so a strictly increasing list with those members is the sheet
  pub sheet_unique : (q : ℕ → Bool) (s : List ℕ) → increasing s ≡ true
      → ((w : ℕ) → Mem w s → Rule n w × Least n q w) → ((w : ℕ) → Rule n w → Least n q w → Mem w s) → s ≡ sheet_where n q
  sheet_unique q s i f g =
      increasing_unique s (sheet_where n q) i (sheet_increasing q)
      (λ w m. let k = f w m in member_i q w k.0 k.1)
      (λ w m. let k = member_e q w m in g w k.0 k.1)

  pub sheet_good : (q : ℕ → Bool) → Good n (sheet_where n q)
  sheet_good q = record {
    valid = λ w m. (member_e q w m).0;
    sorted = sheet_increasing q;
    anti = λ w r mw mr p. let k = member_e q r mr in (member_e q w mw).1.smallest r k.0 p k.1.holds;
  }

  -- L3: tests that agree on the rules of the panel have one sheet
  least_ext : (q q' : ℕ → Bool) → ((w : ℕ) → Rule n w → q w ≡ q' w) → (w : ℕ) → Rule n w → Least n q w → Least n q' w
  least_ext q q' h w rr l = record {
    holds = sym (h w rr) ∙ l.holds;
    smallest = λ r k p t. l.smallest r k p (h r k ∙ t);
  }

  pub sheet_ext : (q q' : ℕ → Bool) → ((w : ℕ) → Rule n w → q w ≡ q' w) → sheet_where n q ≡ sheet_where n q'
  sheet_ext q q' h =
      sheet_unique q' (sheet_where n q) (sheet_increasing q)
      (λ w m. let k = member_e q w m in (k.0, least_ext q q' h w k.0 k.1))
      (λ w rr l. member_i q w rr (least_ext q' q (λ v k. sym (h v k)) w rr l))

  -- L4: every rule at which q passes narrows a smallest one
  descend : (q : ℕ → Bool) (k w : ℕ) → w < k → Rule n w → q w ≡ true → (r : ℕ) × Mem r (sheet_where n q) × (narrows w r ≡ true)
  descend q zero w l rr t = absurd (not-suc-le-zero l)
  descend q (suc k) w l rr t = go (λ (r : ℕ) (h : r < k) (a : Rule n r) (b : q r ≡ true). descend q k r h a b) (least_or q w t)
    where
      go : ((r : ℕ) → r < k → Rule n r → q r ≡ true → (v : ℕ) × Mem v (sheet_where n q) × (narrows r v ≡ true))
          → Least n q w ⊎ ((r : ℕ) × Rule n r × (narrows w r ≡ true) × (q r ≡ true) × (r ≡ w → ⊥))
          → (v : ℕ) × Mem v (sheet_where n q) × (narrows w v ≡ true)
      go rec (inl m) = (w, member_i q w rr m, narrows_refl w)
      go rec (inr f) =
          let below : f.0 < w = lt_of_le-ne (narrows_le w f.0 f.2) f.4 in
          let v = rec f.0 (omega (arith, below)) f.1 f.3 in
          (v.0, v.1, narrows_trans w f.0 v.0 f.2 v.2)

  pub sheet_narrowed : (q : ℕ → Bool) (w : ℕ) → Rule n w → q w ≡ true → (r : ℕ) × Mem r (sheet_where n q) × (narrows w r ≡ true)
  sheet_narrowed q w rr t = descend q (suc w) w (lt-suc_self w) rr t

  -- the sheet of a test that is closed upwards permits just what passes the test
  pub sheet_permits : (q : ℕ → Bool) → Upward n q → (w : ℕ) → Rule n w → permits (sheet_where n q) w ≡ q w
  sheet_permits q up w rr =
      same_test (permits (sheet_where n q) w) (q w)
      (λ e. let k = permits_e (sheet_where n q) w e in let m = member_e q k.0 k.1 in up w k.0 rr m.0 k.2 m.1.holds)
      (λ t. let k = sheet_narrowed q w rr t in permits_i (sheet_where n q) w k.1 k.2)

  -- L5: a good sheet is the sheet of what it permits
  pub sheet_is_good : (s : List ℕ) → Good n s → sheet_where n (permits s) ≡ s
  sheet_is_good s g =
      sym (sheet_unique (permits s) s g.sorted
      (λ w m. (
        g.valid w m,
        record {
          holds = permits_i s w m (narrows_refl w);
          smallest = λ r rr p t.
              let k = permits_e s r t in
              let e : k.0 ≡ w = g.anti w k.0 m k.1 (narrows_trans w r k.0 p k.2) in
              sym (narrows_antisym w r p (subst (λ (v : ℕ). narrows r v ≡ true) e k.2));
        },
      ))
      (λ w rr l.
      let k = permits_e s w l.holds in
      let e : k.0 ≡ w = l.smallest k.0 (g.valid k.0 k.1) k.2 (permits_i s k.0 k.1 (narrows_refl k.0)) in
      subst (λ (v : ℕ). Mem v s) e k.1))

  -- two good sheets that permit the same are equal
  pub good_unique : (s t : List ℕ) → Good n s → Good n t → ((w : ℕ) → Rule n w → permits s w ≡ permits t w) → s ≡ t
  good_unique s t gs gt h = sym (sheet_is_good s gs) ∙ sheet_ext (permits s) (permits t) h ∙ sheet_is_good t gt
