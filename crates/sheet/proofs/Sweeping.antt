-- Take in place, from the end of the table to its front and twice over: what holds on the way, and the new sheet at the end.
use mathlib.Core.Path.{◌≡◌, refl, sym, ap, ◌∙◌, subst}
use mathlib.Core.Logic.{◌⊎◌, inl, inr}
use mathlib.Core.Bool.{Bool, true, false, not, ◌||◌, false≢true, cond}
use mathlib.Core.List.Memᴰ
use mathlib.Core.List.{List, ◌++◌, Memᴰ as Mem}
use Prim.Native.Nat.{ℕ, zero, suc, ◌+◌, ◌-◌, ◌≤◌, ◌<◌}
use native.Mathlib.Nat.{not-suc-le-zero, le_refl}
use native.Mathlib.Omega.{arith}
use lib.ListN.{length, take, drop, get_or, drop_of_length-le}
use lib.Seq.{length-take-le, get_or-take, drop-cons, drop-append_seam}
use lib.Dec.{eqb}
use borrow.Author.Tests.{eqb-true, eqb-false}
use Rattle.table.specs.Lists.{filter, increasing, insert_all, remove}
use Rattle.table.specs.Surgery.{Holds}
use Rattle.table.proofs.Basics.{either, at_in, each_front}
use Rattle.table.proofs.Inserting.{insert_all_length, insert_all_e}
use Rattle.table.proofs.Sums.{sum, remove_e, remove_length}
use Rattle.table.proofs.Tables.{remove_at, insert_all_past, before_below}
use Rattle.panel.specs.Rules.{Rule}
use Rattle.panel.specs.Transitions.{state, spared}
use Rattle.panel.proofs.Words.{rule_i}
use Rattle.panel.proofs.Candidates.{candidate_above}
use Rattle.prime.specs.Sheets.{good_sheet, take_sheet}
use Rattle.prime.proofs.Least.{Good, good_e}
use Rattle.prime.proofs.Laws.{take_good}
use Rattle.heirs.specs.Heirs.{heirs_of, heirs_in, heir_mask, picked, replaced, weight}
use Rattle.heirs.proofs.Take.{Heir, heir_i}
use Rattle.heirs.proofs.Steps.{heirs_of_e}
use Rattle.heirs.proofs.InPlace.{Progress, heir_spared, progress_start, progress_end, progress_step, heir_b, first_heirs_in_order, heirs_of_part, weight_step, weight_start, table_fits}
use Rattle.heirs.proofs.Judging.{picked_heirs, picked_first, mask_none, mask_some}
use Rattle.sheet.specs.Taking.{stays, planted, visited, Plantable, Visitable}
use Rattle.sheet.proofs.Planting.{stays_def}

-- ---- the invariant

-- the rule r is done with: it is spared, or in the first sweep has an heir
pub record Settled (n t : ℕ) (s : List ℕ) (phase r : ℕ) : Type 0 where
  pub or_fertile : (spared t r ≡ true → ⊥) → (phase ≡ 0) × (1 ≤ length (heirs_of n (filter (spared t) s) t r))

-- the rules from the place i on are done with; s is the sheet at the start, the table the first `have` words of cur
pub record Sweeping (n t : ℕ) (s : List ℕ) (len : ℕ) (cur : List ℕ) (have i phase : ℕ) : Type 0 where
  pub fits : have ≤ length cur
  pub same : length cur ≡ len
  pub below : i ≤ have
  pub phases : phase ≤ 2
  pub progress : Progress n s t (take have cur)
  pub total : sum (weight n s t) (take have cur) ≡ length (take_sheet n s t)
  -- in the second sweep each hit rule has an heir
  pub fertile : 1 ≤ phase → (r : ℕ) → Mem r (take have cur) → (spared t r ≡ true → ⊥) → 1 ≤ length (heirs_of n (filter (spared t) s) t r)
  -- after it none is left
  pub clear : 2 ≤ phase → (r : ℕ) → Mem r (take have cur) → spared t r ≡ true
  pub behind : (r : ℕ) → Mem r (drop i (take have cur)) → Settled n t s phase r

-- what is left to do: the rules in front of i, and all of the table for each sweep to come
pub ahead : ℕ → ℕ → ℕ → ℕ
ahead len zero i = i + (len + 2)
ahead len (suc zero) i = i + 1
ahead len (suc (suc p)) i = 0

pub positive : (i : ℕ) → (i ≡ 0 → ⊥) → 0 < i
positive zero f = absurd (f refl)
positive (suc i) f = omega arith

pub ahead_visit : (len i phase : ℕ) → phase < 2 → 0 < i → ahead len phase (i - 1) < ahead len phase i
unfolding ahead
ahead_visit len i zero p l = omega arith
ahead_visit len i (suc zero) p l = omega arith
ahead_visit len i (suc (suc k)) p l = absurd (omega arith)

-- ---- whether a rule stays

stays_no : (all : Bool) (n t b : ℕ) (tab : List ℕ) → stays all n t b tab ≡ false → (spared t b ≡ true → ⊥) × ((all || eqb (heir_mask n t b tab) 0) ≡ true)
stays_no all n t b tab e = go (spared t b) refl (all || eqb (heir_mask n t b tab) 0) refl (sym (stays_def all n t b tab) ∙ e)
  where
    go : (x : Bool) → spared t b ≡ x → (y : Bool) → (all || eqb (heir_mask n t b tab) 0) ≡ y → (x || not y) ≡ false
        → (spared t b ≡ true → ⊥) × ((all || eqb (heir_mask n t b tab) 0) ≡ true)
    go true p y q f = absurd (false≢true (sym f))
    go false p true q f = ((λ d. false≢true (sym p ∙ d)), q)
    go false p false q f = absurd (false≢true (sym f))

stays_yes : (all : Bool) (n t b : ℕ) (tab : List ℕ) → stays all n t b tab ≡ true → (spared t b ≡ true → ⊥) → (all ≡ false) × (heir_mask n t b tab ≡ 0 → ⊥)
stays_yes all n t b tab e f = go (spared t b) refl all refl (eqb (heir_mask n t b tab) 0) refl (sym (stays_def all n t b tab) ∙ e)
  where
    go : (x : Bool) → spared t b ≡ x → (y : Bool) → all ≡ y → (z : Bool) → eqb (heir_mask n t b tab) 0 ≡ z → (x || not (y || z)) ≡ true
        → (all ≡ false) × (heir_mask n t b tab ≡ 0 → ⊥)
    go true p y q z r h = absurd (f p)
    go false p true q z r h = absurd (false≢true h)
    go false p false q true r h = absurd (false≢true h)
    go false p false q false r h = (q, eqb-false (heir_mask n t b tab) 0 r)

-- ---- the table on its way

module _ (n : ℕ) (small : n ≤ 10) (t : ℕ) (s : List ℕ) (good : good_sheet n s ≡ true) where
  g : Good n s
  g = good_e n s good

  -- every rule of a table on its way is a rule of the panel
  table_rule : (tab : List ℕ) → Progress n s t tab → (r : ℕ) → Mem r tab → Rule n r
  table_rule tab p r m = go (p.from r m)
    where
      go : Mem r s ⊎ Heir n s t r → Rule n r
      go (inl k) = g.valid r k
      go (inr w) = (take_good n small s t).valid r (heir_i n small s g t r w)

  pub sweeping_start : (cur : List ℕ) (have : ℕ) → have ≤ length cur → take have cur ≡ s → Sweeping n t s (length cur) cur have have 0
  sweeping_start cur have l e = record {
    fits = l;
    same = refl;
    below = le_refl have;
    phases = omega arith;
    progress = subst (λ (z : List ℕ). Progress n s t z) (sym e) (progress_start n small s g t);
    total = ap (sum (weight n s t)) e ∙ weight_start n small s g t;
    fertile = λ h. absurd (not-suc-le-zero h);
    clear = λ h. absurd (not-suc-le-zero h);
    behind = λ r m. absurd (Memᴰ.not-nil (subst (λ (z : List ℕ). Mem r z) (drop_of_length-le (take have cur) {i = have} (omega (arith, length-take-le have cur l))) m));
  }

  pub sweeping_end : (len : ℕ) (cur : List ℕ) (have i phase : ℕ) → Sweeping n t s len cur have i phase → 2 ≤ phase → Holds cur have len (take_sheet n s t)
  sweeping_end len cur have i phase k h = record {
    is = progress_end n small s g t (take have cur) k.progress (k.clear h);
    fits = k.fits;
    same = k.same;
  }

  -- ---- a sweep is over

  pub sweeping_phase : (len : ℕ) (cur : List ℕ) (have i phase : ℕ) → Sweeping n t s len cur have i phase → i ≡ 0 → phase < 2
      → Sweeping n t s len cur have have (phase + 1)
  sweeping_phase len cur have i phase k z l = record {
    fits = k.fits;
    same = k.same;
    below = le_refl have;
    phases = omega arith;
    progress = k.progress;
    total = k.total;
    fertile = λ h r m f. ((done r m).or_fertile f).1;
    clear = λ h r m. spared_now (omega arith) r m (either (spared t r));
    behind = λ r m. absurd (Memᴰ.not-nil (subst (λ (y : List ℕ). Mem r y) (drop_of_length-le (take have cur) {i = have} (omega (arith, length-take-le have cur k.fits))) m));
  }
    where
      done : (r : ℕ) → Mem r (take have cur) → Settled n t s phase r
      done r m = k.behind r (subst (λ (j : ℕ). Mem r (drop j (take have cur))) (sym z) m)

      spared_now : 1 ≤ phase → (r : ℕ) → Mem r (take have cur) → (spared t r ≡ true) ⊎ (spared t r ≡ true → ⊥) → spared t r ≡ true
      spared_now h r m (inl e) = e
      spared_now h r m (inr f) = absurd (omega (arith, ((done r m).or_fertile f).0))

  pub ahead_phase : (len : ℕ) (cur : List ℕ) (have i phase : ℕ) → Sweeping n t s len cur have i phase → phase < 2 → ahead len (phase + 1) have < ahead len phase i
  unfolding ahead
  ahead_phase len cur have i zero k l = omega (arith, k.fits, k.same)
  ahead_phase len cur have i (suc zero) k l = omega arith
  ahead_phase len cur have i (suc (suc p)) k l = absurd (omega arith)

  -- ---- a visit

  module _ (len : ℕ) (cur : List ℕ) (have i phase : ℕ) (k : Sweeping n t s len cur have i phase) (lp : phase < 2) (li : 0 < i) where
    abbrev tab : List ℕ
    tab = take have cur

    abbrev b : ℕ
    b = get_or cur (i - 1) 0

    abbrev keep : List ℕ
    keep = filter (spared t) s

    inside : i - 1 < have
    inside = omega (arith, k.below)

    tab_length : length tab ≡ have
    tab_length = length-take-le have cur k.fits

    b_at : get_or tab (i - 1) 0 ≡ b
    b_at = get_or-take have cur (i - 1) 0 inside

    b_in : Mem b tab
    b_in = subst (λ (x : ℕ). Mem x tab) b_at (at_in tab (i - 1) (omega (arith, tab_length, inside)))

    module _ (f : spared t b ≡ true → ⊥) where
      heirs_now : heirs_in n t b tab ≡ heirs_of n keep t b
      heirs_now = heirs_of_part n small s g t tab k.progress b b_in f tab (λ r m. m) (λ r h e. k.progress.kept_in r h)

      first_now : (v : ℕ) → v ≤ n → increasing (insert_all (picked v (heir_mask n t b tab) b (state t)) (remove b tab)) ≡ true
      unfolding heirs_in
      first_now v l =
          let z = each_front v n _ l in
          rw (picked_first v n t b (heir_mask n t b tab) tab l refl)
          (first_heirs_in_order n small s g t tab k.progress b b_in f (heirs_in v t b tab) z.0 (sym heirs_now ∙ z.1))

      planted_in : insert_all (picked n (heir_mask n t b tab) b (state t)) (remove b tab) ≡ replaced n s t tab b
      unfolding replaced
      planted_in = ap (λ (l : List ℕ). insert_all l (remove b tab)) (picked_heirs n t b (heir_mask n t b tab) tab refl ∙ heirs_now)

      becomes : planted n (heir_mask n t b tab) b (state t) tab ≡ replaced n s t tab b
      unfolding planted
      becomes = planted_in

      -- a hit rule of the table afterwards was one before
      before : (r : ℕ) → Mem r (replaced n s t tab b) → (spared t r ≡ true → ⊥) → Mem r tab
      unfolding replaced
      before r q h = go (insert_all_e (heirs_of n keep t b) (remove b tab) r q)
        where
          go : Mem r (heirs_of n keep t b) ⊎ Mem r (remove b tab) → Mem r tab
          go (inl a) = absurd (h (heir_spared n small s g t r (heir_b n small s g t tab k.progress b b_in f r a)))
          go (inr a) = (remove_e b tab a).0

      total_after : sum (weight n s t) (replaced n s t tab b) ≡ length (take_sheet n s t)
      total_after = weight_step n small s g t tab k.progress b b_in f ∙ k.total

      room_later : 1 ≤ phase → length (take_sheet n s t) ≤ len → length (replaced n s t tab b) ≤ len
      room_later h room =
          omega (arith, table_fits n small s g t (replaced n s t tab b) (λ r q d. k.fertile h r (before r q d) d), total_after, room)

      room_first : heir_mask n t b tab ≡ 0 → length (replaced n s t tab b) ≤ len
      unfolding replaced
      room_first z =
          omega (
            arith,
            insert_all_length (heirs_of n keep t b) (remove b tab),
            ap length heirs_now,
            mask_none n t b (heir_mask n t b tab) tab refl z,
            remove_length b tab k.progress.sorted b_in,
            tab_length,
            k.fits,
            k.same,
          )

      -- from the place of b on: its heirs, and what stood behind it
      after : drop (i - 1) (replaced n s t tab b) ≡ insert_all (heirs_of n keep t b) (drop i tab)
      unfolding replaced
      after =
          let lt : i - 1 < length tab = omega (arith, tab_length, inside) in
          let si : suc (i - 1) ≡ i = omega arith in
          let r : remove b tab ≡ take (i - 1) tab ++ drop i tab =
          ap (λ (x : ℕ). remove x tab) (sym b_at) ∙ remove_at tab (i - 1) k.progress.sorted lt ∙ ap (λ (x : ℕ). take (i - 1) tab ++ drop x tab) si in
          let past : insert_all (heirs_of n keep t b) (take (i - 1) tab ++ drop i tab) ≡ take (i - 1) tab ++ insert_all (heirs_of n keep t b) (drop i tab) =
          insert_all_past (heirs_of n keep t b) (take (i - 1) tab) (drop i tab) (λ h x mh mx.
          let w = heirs_of_e n keep t b h mh in
          omega (arith, before_below tab (i - 1) k.progress.sorted lt x mx, b_at, w.is, candidate_above b w.relay (state t))) in
          let front : length (take (i - 1) tab) ≡ i - 1 = length-take-le (i - 1) tab (omega (arith, lt)) in
          ap (λ (l : List ℕ). drop (i - 1) (insert_all (heirs_of n keep t b) l)) r
          ∙ ap (drop (i - 1)) past
          ∙ ap (λ (x : ℕ). drop x (take (i - 1) tab ++ insert_all (heirs_of n keep t b) (drop i tab))) (sym front)
          ∙ drop-append_seam (take (i - 1) tab) (insert_all (heirs_of n keep t b) (drop i tab))

    pub sweeping_can : length (take_sheet n s t) ≤ len → Visitable (eqb phase 1) n t cur have (i - 1)
    sweeping_can room = record {
      size = small;
      inside = inside;
      fits = k.fits;
      sorted = k.progress.sorted;
      rule = rule_i n b (table_rule tab k.progress b b_in);
      plants = λ e. can (stays_no (eqb phase 1) n t b tab e).0 (stays_no (eqb phase 1) n t b tab e).1;
    }
      where
        length_after : (f : spared t b ≡ true → ⊥) → (x : Bool) → eqb phase 1 ≡ x → (x || eqb (heir_mask n t b tab) 0) ≡ true → length (replaced n s t tab b) ≤ len
        length_after f true p q = room_later f (omega (arith, eqb-true phase 1 p)) room
        length_after f false p q = room_first f (eqb-true (heir_mask n t b tab) 0 q)

        can : (spared t b ≡ true → ⊥) → (eqb phase 1 || eqb (heir_mask n t b tab) 0) ≡ true
            → Plantable n (heir_mask n t b tab) b (state t) (remove b tab) (length cur)
        can f q = record {
          in_order = first_now f;
          fits = omega (arith, ap length (planted_in f), length_after f (eqb phase 1) refl q, k.same);
        }

    visited_is : (x : Bool) → stays (eqb phase 1) n t b tab ≡ x → visited (eqb phase 1) n t b tab ≡ cond x tab (planted n (heir_mask n t b tab) b (state t) tab)
    unfolding visited
    visited_is x e = ap (λ (y : Bool). cond y tab (planted n (heir_mask n t b tab) b (state t) tab)) e

    sweeping_stay : (z : List ℕ) (r : ℕ) → stays (eqb phase 1) n t b tab ≡ true → Holds z r (length cur) tab → Sweeping n t s len z r (i - 1) phase
    sweeping_stay z r st h = record {
      fits = h.fits;
      same = h.same ∙ k.same;
      below = omega (arith, inside, same_count);
      phases = k.phases;
      progress = subst (λ (x : List ℕ). Progress n s t x) (sym h.is) k.progress;
      total = ap (sum (weight n s t)) h.is ∙ k.total;
      fertile = λ p x m f. k.fertile p x (subst (λ (l : List ℕ). Mem x l) h.is m) f;
      clear = λ p. absurd (omega (arith, p));
      behind = λ x m. settled x (Memᴰ.cases_cons (subst (λ (l : List ℕ). Mem x l) (ap (drop (i - 1)) h.is ∙ drop-cons tab (i - 1) 0 (omega (arith, tab_length, inside))) m));
    }
      where
        same_count : r ≡ have
        same_count = sym (length-take-le r z h.fits) ∙ ap length h.is ∙ tab_length

        first_sweep : (all : Bool) → eqb phase 1 ≡ all → all ≡ false → phase ≡ 0
        first_sweep true e q = absurd (false≢true (sym q))
        first_sweep false e q = omega (arith, not_one phase (eqb-false phase 1 e) lp)
          where
            not_one : (p : ℕ) → (p ≡ 1 → ⊥) → p < 2 → p ≡ 0
            not_one zero f l = refl
            not_one (suc zero) f l = absurd (f refl)
            not_one (suc (suc p)) f l = omega arith

        here_settled : Settled n t s phase b
        here_settled = record {
          or_fertile = λ f.
              let y = stays_yes (eqb phase 1) n t b tab st f in
              (first_sweep (eqb phase 1) refl y.0, omega (arith, mask_some n t b (heir_mask n t b tab) tab refl y.1, ap length (heirs_now f)));
        }

        settled : (x : ℕ) → (x ≡ get_or tab (i - 1) 0) ⊎ Mem x (drop (suc (i - 1)) tab) → Settled n t s phase x
        settled x (inl e) = subst (λ (y : ℕ). Settled n t s phase y) (sym (e ∙ b_at)) here_settled
        settled x (inr m) = let si : suc (i - 1) ≡ i = omega arith in k.behind x (subst (λ (j : ℕ). Mem x (drop j tab)) si m)

    sweeping_go : (z : List ℕ) (r : ℕ) (f : spared t b ≡ true → ⊥) → Holds z r (length cur) (replaced n s t tab b) → Sweeping n t s len z r (i - 1) phase
    unfolding replaced
    sweeping_go z r f h = record {
      fits = h.fits;
      same = h.same ∙ k.same;
      below =
          omega (
            arith,
            inside,
            length-take-le r z h.fits,
            ap length h.is,
            insert_all_length (heirs_of n keep t b) (remove b tab),
            remove_length b tab k.progress.sorted b_in,
            tab_length,
          );
      phases = k.phases;
      progress = subst (λ (x : List ℕ). Progress n s t x) (sym h.is) (progress_step n small s g t tab k.progress b b_in f);
      total = ap (sum (weight n s t)) h.is ∙ total_after f;
      fertile = λ p x m d. k.fertile p x (before f x (subst (λ (l : List ℕ). Mem x l) h.is m) d) d;
      clear = λ p. absurd (omega (arith, p));
      behind = λ x m. settled x (insert_all_e (heirs_of n keep t b) (drop i tab) x (subst (λ (l : List ℕ). Mem x l) (ap (drop (i - 1)) h.is ∙ after f) m));
    }
      where
        settled : (x : ℕ) → Mem x (heirs_of n keep t b) ⊎ Mem x (drop i tab) → Settled n t s phase x
        settled x (inl m) = record { or_fertile = λ d. absurd (d (heir_spared n small s g t x (heir_b n small s g t tab k.progress b b_in f x m))) }
        settled x (inr m) = k.behind x m

    pub sweeping_visit : (z : List ℕ) (r : ℕ) → Holds z r (length cur) (visited (eqb phase 1) n t b tab) → Sweeping n t s len z r (i - 1) phase
    sweeping_visit z r h = go (stays (eqb phase 1) n t b tab) refl
      where
        go : (x : Bool) → stays (eqb phase 1) n t b tab ≡ x → Sweeping n t s len z r (i - 1) phase
        go true e = sweeping_stay z r e (subst (λ (l : List ℕ). Holds z r (length cur) l) (visited_is true e) h)
        go false e =
            let f = (stays_no (eqb phase 1) n t b tab e).0 in
            sweeping_go z r f (subst (λ (l : List ℕ). Holds z r (length cur) l) (visited_is false e ∙ becomes f) h)
