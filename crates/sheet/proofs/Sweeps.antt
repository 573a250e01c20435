-- Take in place, in two sweeps from the end of the table to its front: each is a part of the run of `Sweeping`, and after both the new sheet stands there.
use mathlib.Core.Path.{◌≡◌, refl, sym, ap, ◌∙◌, subst}
use mathlib.Core.Bool.{Bool, true, false}
use mathlib.Core.List.{List, ◌++◌, Memᴰ as Mem}
use Prim.Native.Nat.{ℕ, zero, suc, ◌-◌, ◌≤◌, ◌<◌}
use native.Mathlib.Nat.{le_refl}
use native.Mathlib.Omega.{arith}
use lib.ListN.{length, take, drop, get_or, replicate, length-append, length-replicate}
use lib.Seq.{length-take-le, get_or-take, take_at}
use lib.Dec.{eqb}
use Rattle.table.specs.Surgery.{Holds}
use Rattle.table.proofs.Sums.{sum}
use Rattle.prime.specs.Sheets.{good_sheet, take_sheet}
use Rattle.heirs.specs.Heirs.{weight}
use Rattle.heirs.proofs.InPlace.{Progress}
use Rattle.sheet.specs.Taking.{stays, planted, visited, swept, Visitable, Sweepable}
use Rattle.sheet.proofs.Sweeping.{Sweeping, sweeping_start, sweeping_phase, sweeping_can, sweeping_visit, sweeping_end}

-- ---- the loop of a sweep

-- the rules in front of the place i are still to be visited, and then the table is `goal`
pub record Visiting (all : Bool) (n t room : ℕ) (goal cur : List ℕ) (have i : ℕ) : Type 0 where
  pub fits : have ≤ length cur
  pub same : length cur ≡ room
  pub can : Sweepable all n t room i (take have cur)
  pub will : swept all n t i (take have cur) ≡ goal

module _ (all : Bool) (n t : ℕ) where
  module _ (room : ℕ) (goal cur : List ℕ) (have i : ℕ) (k : Visiting all n t room goal cur have i) (l : 0 < i) where
    last : i ≡ suc (i - 1)
    last = omega arith

    can_now : Sweepable all n t room (suc (i - 1)) (take have cur)
    can_now = subst (λ (j : ℕ). Sweepable all n t room j (take have cur)) last k.can

    pub visiting_can : Visitable all n t cur have (i - 1)
    unfolding Sweepable
    visiting_can = can_now.0 cur have (record { is = refl; fits = k.fits; same = k.same })

    pub visiting_more : (z : List ℕ) (r : ℕ) → Holds z r (length cur) (visited all n t (get_or cur (i - 1) 0) (take have cur))
        → Visiting all n t room goal z r (i - 1)
    unfolding Sweepable swept
    visiting_more z r h =
        let e : take r z ≡ visited all n t (get_or (take have cur) (i - 1) 0) (take have cur) =
        h.is ∙ ap (λ (b : ℕ). visited all n t b (take have cur)) (sym (get_or-take have cur (i - 1) 0 visiting_can.inside)) in
        record {
          fits = h.fits;
          same = h.same ∙ k.same;
          can = rw e can_now.1;
          will = ap (swept all n t (i - 1)) e ∙ ap (λ (j : ℕ). swept all n t j (take have cur)) (sym last) ∙ k.will;
        }

  pub visiting_end : (room : ℕ) (goal cur : List ℕ) (have i : ℕ) → Visiting all n t room goal cur have i → i ≤ 0 → Holds cur have room goal
  unfolding swept
  visiting_end room goal cur have i k l =
      let none : 0 ≡ i = omega arith in
      record { is = ap (λ (j : ℕ). swept all n t j (take have cur)) none ∙ k.will; fits = k.fits; same = k.same }

-- ---- a sweep is a part of the run, whichever slice has the table

-- a table after a visit is no longer than the slice of the table before
visited_fits : (all : Bool) (n t : ℕ) (cur : List ℕ) (have i : ℕ) → Visitable all n t cur have i → length (visited all n t (get_or cur i 0) (take have cur)) ≤ length cur
unfolding visited planted
visited_fits all n t cur have i v = go (stays all n t (get_or cur i 0) (take have cur)) refl
  where
    go : (x : Bool) → stays all n t (get_or cur i 0) (take have cur) ≡ x → length (visited all n t (get_or cur i 0) (take have cur)) ≤ length cur
    go true e = rw e (omega (arith, length-take-le have cur v.fits, v.fits))
    go false e = rw e (v.plants e).fits

module _ (n : ℕ) (small : n ≤ 10) (t : ℕ) (s : List ℕ) (good : good_sheet n s ≡ true) (room : ℕ) (roomy : length (take_sheet n s t) ≤ room) where
  -- what holds of one slice that has the table holds of another
  moved : (cur : List ℕ) (have i phase : ℕ) → Sweeping n t s room cur have i phase → (z : List ℕ) (r : ℕ) → Holds z r room (take have cur) → Sweeping n t s room z r i phase
  moved cur have i phase k z r h = record {
    fits = h.fits;
    same = h.same;
    below = omega (arith, k.below, length-take-le r z h.fits, ap length h.is, length-take-le have cur k.fits);
    phases = k.phases;
    progress = subst (λ (x : List ℕ). Progress n s t x) (sym h.is) k.progress;
    total = ap (sum (weight n s t)) h.is ∙ k.total;
    fertile = λ p x m f. k.fertile p x (subst (λ (l : List ℕ). Mem x l) h.is m) f;
    clear = λ p x m. k.clear p x (subst (λ (l : List ℕ). Mem x l) h.is m);
    behind = λ x m. k.behind x (subst (λ (l : List ℕ). Mem x (drop i l)) h.is m);
  }

  -- in the sweep `phase` the rules of the table tab from the place i on are done with, in every slice that has it
  record Along (phase i : ℕ) (tab : List ℕ) : Type 0 where
    fits : length tab ≤ room
    each : (z : List ℕ) (r : ℕ) → Holds z r room tab → Sweeping n t s room z r i phase

  -- a slice that has the table
  abbrev holder : List ℕ → List ℕ
  holder tab = tab ++ replicate (room - length tab) 0

  held : (tab : List ℕ) → length tab ≤ room → Holds (holder tab) (length tab) room tab
  held tab l =
      let e : length (holder tab) ≡ room = length-append tab (replicate (room - length tab) 0) ∙ omega (arith, length-replicate {A = ℕ} (room - length tab) 0) in
      record { is = take_at tab (replicate (room - length tab) 0) (length tab) refl; fits = omega arith; same = e }

  module _ (phase : ℕ) (two : phase < 2) (i : ℕ) (tab : List ℕ) (k : Along phase (suc i) tab) where
    back : suc i - 1 ≡ i
    back = omega arith

    can : (cur : List ℕ) (have : ℕ) → Holds cur have room tab → Visitable (eqb phase 1) n t cur have i
    can cur have h = rw back at (sweeping_can n small t s good room cur have (suc i) phase (k.each cur have h) two (omega arith) roomy)

    b_at : (cur : List ℕ) (have : ℕ) → Holds cur have room tab → get_or cur i 0 ≡ get_or tab i 0
    b_at cur have h = sym (get_or-take have cur i 0 (can cur have h).inside) ∙ ap (λ (z : List ℕ). get_or z i 0) h.is

    after : (cur : List ℕ) (have : ℕ) → Holds cur have room tab → visited (eqb phase 1) n t (get_or cur i 0) (take have cur) ≡ visited (eqb phase 1) n t (get_or tab i 0) tab
    after cur have h = ap (λ (b : ℕ). visited (eqb phase 1) n t b (take have cur)) (b_at cur have h) ∙ ap (visited (eqb phase 1) n t (get_or tab i 0)) h.is

    along_visit : Along phase i (visited (eqb phase 1) n t (get_or tab i 0) tab)
    along_visit =
        let cur = holder tab in
        let have = length tab in
        let h = held tab k.fits in
        let e = after cur have h in
        record {
          fits = omega (arith, visited_fits (eqb phase 1) n t cur have i (can cur have h), ap length e, h.same);
          each = λ z r q.
              rw back at (sweeping_visit n small t s good room cur have (suc i) phase (k.each cur have h) two (omega arith) z r
              (rw (back, h.same, e) q));
        }

  module _ (phase : ℕ) (two : phase < 2) where
    along_all : (i : ℕ) (tab : List ℕ) → Along phase i tab → Along phase 0 (swept (eqb phase 1) n t i tab)
    unfolding swept
    along_all zero tab k = k
    along_all (suc i) tab k = along_all i (visited (eqb phase 1) n t (get_or tab i 0) tab) (along_visit phase two i tab k)

    sweepable : (i : ℕ) (tab : List ℕ) → Along phase i tab → Sweepable (eqb phase 1) n t room i tab
    unfolding Sweepable
    sweepable zero tab k = tt
    sweepable (suc i) tab k = (can phase two i tab k, sweepable i (visited (eqb phase 1) n t (get_or tab i 0) tab) (along_visit phase two i tab k))

  -- ---- the two sweeps of a take

  module _ (count : ℕ) (e : count ≡ length s) (l : count ≤ room) where
    first : Along 0 count s
    first = record {
      fits = omega arith;
      each = λ z r h.
          let q : r ≡ count = omega (arith, length-take-le r z h.fits, ap length h.is) in
          subst (λ (i : ℕ). Sweeping n t s room z r i 0) q (rw h.same at (sweeping_start n small t s good z r h.fits h.is));
    }

    pub first_can : Sweepable false n t room count s
    first_can = sweepable 0 (omega arith) count s first

    -- z has the table after the first sweep
    module _ (z : List ℕ) (have : ℕ) (h : Holds z have room (swept false n t count s)) where
      second : Along 1 have (take have z)
      second =
          let k = sweeping_phase n small t s good room z have 0 0 ((along_all 0 (omega arith) count s first).each z have h) refl (omega arith) in
          record { fits = omega (arith, length-take-le have z h.fits, h.fits, h.same); each = moved z have have 1 k }

      pub second_can : Sweepable true n t (length z) have (take have z)
      second_can = rw h.same (sweepable 1 (omega arith) have (take have z) second)

      -- w is y, which has it after both
      pub both_done : (y : List ℕ) (r : ℕ) → Holds y r (length z) (swept true n t have (take have z)) → (w : List ℕ) → w ≡ y → Holds w r room (take_sheet n s t)
      both_done y r q w e =
          let k = sweeping_phase n small t s good room y r 0 1 ((along_all 1 (omega arith) have (take have z) second).each y r (rw h.same at q)) refl (omega arith) in
          rw e (sweeping_end n small t s good room y r r 2 k (le_refl 2))
