-- Candidates put into the table one after the other, and the visit of one rule.
use mathlib.Core.Path.{◌≡◌, refl, sym, ap, ap₂, ◌∙◌, subst}
use mathlib.Core.Logic.{◌⊎◌, inl, inr}
use mathlib.Core.Bool.{Bool, true, false, not, ◌||◌, cond}
use mathlib.Core.List.{List, [], ◌∷◌, ◌++◌}
use Prim.Native.Nat.{ℕ, zero, suc, ◌+◌, ◌-◌, ◌^◌, ◌≤◌, ◌<◌}
use native.Mathlib.Nat.{le_of_lt, le_refl, lt_irrefl, not-suc-le-zero, eq-or-lt_of_le}
use native.Mathlib.Numerals.{add-one}
use native.Mathlib.Omega.{arith}
use lib.ListN.{length, take, drop}
use lib.Seq.{length-take-le}
use lib.Dec.{eqb, ltb}
use borrow.Author.Tests.{eqb-true, eqb-false, ltb-true, ltb-false}
use Rattle.std.specs.Prelude.{MatchOption, None, Option, Some}
use Rattle.table.specs.Lists.{cons_if, increasing, insert, insert_all, remove}
use Rattle.table.specs.Surgery.{Holds}
use Rattle.table.proofs.Basics.{false_test}
use Rattle.table.proofs.Inserting.{insert_length, insert_all_append, insert_if}
use Rattle.table.proofs.Tables.{inserted_table}
use Rattle.panel.specs.Masks.{on}
use Rattle.panel.proofs.Masks.{sub_off, sub_other}
use Rattle.panel.specs.Transitions.{state, spared}
use Rattle.panel.specs.Contacts.{candidate}
use Rattle.heirs.specs.Heirs.{heir_mask, picked}
use Rattle.sheet.specs.Taking.{FirstOn, stays, planted, visited, Plantable}

-- the first words of a table that is as it was
pub holds_same : (s : List ℕ) (have : ℕ) → have ≤ length s → Holds s have (length s) (take have s)
holds_same s have l = record { is = refl; fits = l; same = refl }

-- ---- one candidate

module _ (s : List ℕ) (have : ℕ) (x m : Bool) (ex : x ≡ m) where
  pub one_room : x ≡ true → (c : ℕ) → have ≤ length s → length (cond m (insert c (take have s)) (take have s)) ≤ length s → have < length s
  one_room e c l h =
      let q : length (insert c (take have s)) ≤ length s = subst (λ (b : Bool). length (cond b (insert c (take have s)) (take have s)) ≤ length s) (sym ex ∙ e) h in
      omega (arith, insert_length c (take have s), length-take-le have s l)

  pub one_done : x ≡ true → (c d : ℕ) (z : List ℕ) → c ≡ d → have < length s → z ≡ insert c (take have s) ++ drop (have + 1) s
      → Holds z (have + 1) (length s) (cond m (insert d (take have s)) (take have s))
  one_done e c d z ec l ez =
      subst (λ (b : Bool). Holds z (have + 1) (length s) (cond b (insert d (take have s)) (take have s))) (sym (sym ex ∙ e))
      (subst (λ (y : ℕ). Holds z (have + 1) (length s) (insert y (take have s))) ec (inserted_table s z have c l ez))

-- ---- one relay after the other

picked_suc : (v mask b i : ℕ) (tab : List ℕ)
    → insert_all (picked (suc v) mask b i) tab ≡ cond (on v mask) (insert (candidate b v i) (insert_all (picked v mask b i) tab)) (insert_all (picked v mask b i) tab)
unfolding picked
picked_suc v mask b i tab =
    insert_all_append (picked v mask b i) (cons_if (on v mask) (candidate b v i) []) tab
    ∙ insert_if (on v mask) (candidate b v i) (insert_all (picked v mask b i) tab)

picked_up : (v n mask b i : ℕ) (tab : List ℕ) → v ≤ n → length (insert_all (picked v mask b i) tab) ≤ length (insert_all (picked n mask b i) tab)
picked_up v zero mask b i tab l = let e : v ≡ 0 = omega arith in rw e (le_refl _)
picked_up v (suc n) mask b i tab l = go (eqb v (suc n)) refl (λ (k : v ≤ n). picked_up v n mask b i tab k)
  where
    more : length (insert_all (picked n mask b i) tab) ≤ length (insert_all (picked (suc n) mask b i) tab)
    more = rw (picked_suc n mask b i tab) (step (on n mask))
      where
        step : (x : Bool) → length (insert_all (picked n mask b i) tab) ≤ length (cond x (insert (candidate b n i) (insert_all (picked n mask b i) tab)) (insert_all (picked n mask b i) tab))
        step true = omega (arith, insert_length (candidate b n i) (insert_all (picked n mask b i) tab))
        step false = le_refl _

    go : (x : Bool) → eqb v (suc n) ≡ x → (v ≤ n → length (insert_all (picked v mask b i) tab) ≤ length (insert_all (picked n mask b i) tab))
        → length (insert_all (picked v mask b i) tab) ≤ length (insert_all (picked (suc n) mask b i) tab)
    go true e rec = rw (eqb-true v (suc n) e) (le_refl _)
    go false e rec = omega (arith, more, rec (omega (arith, eqb-false v (suc n) e)))

pub plant_start : (s : List ℕ) (count mask b i : ℕ) → count ≤ length s → Holds s count (length s) (insert_all (picked 0 mask b i) (take count s))
unfolding picked
plant_start s count mask b i l = holds_same s count l

module _ (n mask b i v : ℕ) (tab : List ℕ) (len : ℕ) (cur : List ℕ) (have : ℕ) (q : Holds cur have len (insert_all (picked v mask b i) tab)) (lv : v < n)
    (p : Plantable n mask b i tab len) where
  pub plant_order : increasing (take have cur) ≡ true
  plant_order = ap increasing q.is ∙ p.in_order v (le_of_lt lv)

  pub plant_room : length (cond (on v mask) (insert (candidate b v i) (take have cur)) (take have cur)) ≤ length cur
  plant_room =
      let l : length (insert_all (picked (suc v) mask b i) tab) ≤ len = omega (arith, picked_up (suc v) n mask b i tab lv, p.fits) in
      rw (q.is, q.same) (subst (λ (w : List ℕ). length w ≤ len) (picked_suc v mask b i tab) l)

  pub plant_more : (z : List ℕ) (r : ℕ) → Holds z r (length cur) (cond (on v mask) (insert (candidate b v i) (take have cur)) (take have cur))
      → Holds z r len (insert_all (picked (v + 1) mask b i) tab)
  plant_more z r h = record {
    is = h.is ∙ ap (λ (l : List ℕ). cond (on v mask) (insert (candidate b v i) l) l) q.is ∙ sym (picked_suc v mask b i tab) ∙ ap (λ (k : ℕ). insert_all (picked k mask b i) tab) (sym (add-one v));
    fits = h.fits;
    same = h.same ∙ q.same;
  }

-- ---- the first relay of a mask

pub first_found : (n mask : ℕ) (r : Option ℕ)
    → MatchOption r ((v : ℕ) → 0 ≤ v → v < n → on v mask ≡ false)
    (λ u. (0 ≤ u) × (u < n) × (on u mask ≡ true) × ((v : ℕ) → 0 ≤ v → v < u → on v mask ≡ false))
    → MatchOption r (FirstOn n mask n) (λ u. (u < n) × FirstOn n mask u)
first_found n mask None f = record { inside = le_refl n; off_before = λ v l. f v (omega arith) l; on_here = λ q. absurd (lt_irrefl n q) }
first_found n mask (Some u) f = (f.1, record { inside = le_of_lt f.1; off_before = λ v l. f.3 v (omega arith) l; on_here = λ q. f.2 })

picked_none : (v mask b i : ℕ) → ((u : ℕ) → u < v → on u mask ≡ false) → picked v mask b i ≡ []
unfolding picked
picked_none zero mask b i f = refl
picked_none (suc v) mask b i f =
    ap₂ (λ (l : List ℕ) (x : Bool). l ++ cons_if x (candidate b v i) []) (picked_none v mask b i (λ u l. f u (omega (arith, l)))) (f v (omega arith))

-- the first candidate, and those of the mask without its relay
module _ (n mask u b i : ℕ) (f : FirstOn n mask u) (l : u < n) where
  abbrev rest : ℕ
  rest = mask - 2 ^ u

  rest_off : (v : ℕ) → v < suc u → on v rest ≡ false
  rest_off v k = go (eq-or-lt_of_le {n = v} {m = u} (omega arith))
    where
      go : (v ≡ u) ⊎ (v < u) → on v rest ≡ false
      go (inl q) = ap (λ (w : ℕ). on w rest) q ∙ false_test (on u rest) (sub_off u mask (f.on_here l))
      go (inr q) = sub_other v u mask (λ e. lt_irrefl u (subst (λ (w : ℕ). w < u) e q)) (f.on_here l) ∙ f.off_before v q

  picked_first : (v : ℕ) → u < v → picked v mask b i ≡ candidate b u i ∷ picked v rest b i
  unfolding picked
  picked_first zero k = absurd (not-suc-le-zero k)
  picked_first (suc v) k = go (eq-or-lt_of_le {n = u} {m = v} (omega arith)) (λ q. picked_first v q)
    where
      go : (u ≡ v) ⊎ (u < v) → (u < v → picked v mask b i ≡ candidate b u i ∷ picked v rest b i)
          → picked v mask b i ++ cons_if (on v mask) (candidate b v i) [] ≡ candidate b u i ∷ (picked v rest b i ++ cons_if (on v rest) (candidate b v i) [])
      go (inl q) rec =
          let m : on v mask ≡ true = ap (λ (w : ℕ). on w mask) (sym q) ∙ f.on_here l in
          let a = picked_none v mask b i (λ w s. f.off_before w (omega (arith, s, q))) in
          let c = picked_none v rest b i (λ w s. rest_off w (omega (arith, s, q))) in
          ap₂ (λ (x : List ℕ) (y : Bool). x ++ cons_if y (candidate b v i) []) a m
          ∙ ap (λ (w : ℕ). candidate b w i ∷ []) (sym q)
          ∙ sym (ap₂ (λ (x : List ℕ) (y : Bool). candidate b u i ∷ (x ++ cons_if y (candidate b v i) [])) c (rest_off v (omega (arith, q))))
      go (inr q) rec =
          ap₂ (λ (x : List ℕ) (y : Bool). x ++ cons_if y (candidate b v i) []) (rec q)
          (sym (sub_other v u mask (λ e. lt_irrefl u (subst (λ (w : ℕ). u < w) e q)) (f.on_here l)))

-- ---- one rule out, its candidates in

pub barren_done : (n mask b i : ℕ) (s z : List ℕ) (have : ℕ) → FirstOn n mask n → Holds z (have - 1) (length s) (remove b (take have s))
    → Holds z (have - 1) (length s) (planted n mask b i (take have s))
unfolding planted
barren_done n mask b i s z have f h =
    subst (λ (ws : List ℕ). Holds z (have - 1) (length s) (insert_all ws (remove b (take have s)))) (sym (picked_none n mask b i f.off_before)) h

module _ (n mask u b i c d : ℕ) (s z : List ℕ) (have : ℕ) (f : FirstOn n mask u) (l : u < n) (ec : c ≡ candidate b u i) (ed : d ≡ 2 ^ u)
    (h : Holds z have (length s) (insert c (remove b (take have s)))) where
  abbrev swapped : List ℕ
  swapped = insert (candidate b u i) (remove b (take have s))

  swap_is : take have z ≡ swapped
  swap_is = h.is ∙ ap (λ (k : ℕ). insert k (remove b (take have s))) ec

  pub swap_can : Plantable n mask b i (remove b (take have s)) (length s) → Plantable n (mask - d) b i (take have z) (length z)
  swap_can p = rw (ed, swap_is, h.same) (record { in_order = order; fits = subst (λ (ws : List ℕ). length (insert_all ws (remove b (take have s))) ≤ length s) (picked_first n mask u b i f l n l) p.fits })
    where
      order : (v : ℕ) → v ≤ n → increasing (insert_all (picked v (mask - 2 ^ u) b i) swapped) ≡ true
      order v k = go (ltb u v) refl
        where
          at : (w : ℕ) → u < w → w ≤ n → increasing (insert_all (picked w (mask - 2 ^ u) b i) swapped) ≡ true
          at w a e = subst (λ (ws : List ℕ). increasing (insert_all ws (remove b (take have s))) ≡ true) (picked_first n mask u b i f l w a) (p.in_order w e)

          go : (x : Bool) → ltb u v ≡ x → increasing (insert_all (picked v (mask - 2 ^ u) b i) swapped) ≡ true
          go true e = at v (ltb-true u v e) k
          go false e =
              let a : v ≤ u = ltb-false u v e in
              ap (λ (ws : List ℕ). increasing (insert_all ws swapped)) (picked_none v (mask - 2 ^ u) b i (λ w q. rest_off n mask u b i f l w (omega (arith, q, a)))
              ∙ sym (picked_none (suc u) (mask - 2 ^ u) b i (rest_off n mask u b i f l)))
              ∙ at (suc u) (omega arith) l

  pub swap_done : (y : List ℕ) (r : ℕ) → Holds y r (length z) (insert_all (picked n (mask - d) b i) (take have z)) → Holds y r (length s) (planted n mask b i (take have s))
  unfolding planted
  swap_done y r q = record {
    is = q.is ∙ ap₂ (λ (k : ℕ) (t : List ℕ). insert_all (picked n (mask - k) b i) t) ed swap_is ∙ ap (λ (ws : List ℕ). insert_all ws (remove b (take have s))) (sym (picked_first n mask u b i f l n l));
    fits = q.fits;
    same = q.same ∙ h.same;
  }

-- ---- a visit

pub stays_def : (all : Bool) (n t b : ℕ) (tab : List ℕ) → stays all n t b tab ≡ (spared t b || not (all || eqb (heir_mask n t b tab) 0))
unfolding stays
stays_def all n t b tab = refl

module _ (all : Bool) (n t b : ℕ) (s : List ℕ) (have : ℕ) (x : Bool) (ex : x ≡ spared t b) where
  abbrev tab : List ℕ
  tab = take have s

  to_stay : stays all n t b tab ≡ true → have ≤ length s → Holds s have (length s) (visited all n t b tab)
  unfolding visited
  to_stay e l =
      subst (λ (a : Bool). Holds s have (length s) (cond a tab (planted n (heir_mask n t b tab) b (state t) tab))) (sym e) (holds_same s have l)

  pub visit_spared : x ≡ true → have ≤ length s → Holds s have (length s) (visited all n t b tab)
  visit_spared e l = to_stay (stays_def all n t b tab ∙ ap (λ (a : Bool). a || not (all || eqb (heir_mask n t b tab) 0)) (sym ex ∙ e)) l

  module _ (e : x ≡ false) (m : ℕ) (em : m ≡ heir_mask n t b tab) (y : Bool) (ey : y ≡ (all || eqb m 0)) where
    hit : stays all n t b tab ≡ not y
    hit =
        stays_def all n t b tab
        ∙ ap₂ (λ (a : Bool) (k : ℕ). a || not (all || eqb k 0)) (sym ex ∙ e) (sym em)
        ∙ ap not (sym ey)

    pub visit_later : y ≡ false → have ≤ length s → Holds s have (length s) (visited all n t b tab)
    visit_later f l = to_stay (hit ∙ ap not f) l

    pub visit_goes : y ≡ true → stays all n t b tab ≡ false
    visit_goes f = hit ∙ ap not f

    pub visit_can : y ≡ true → (stays all n t b tab ≡ false → Plantable n (heir_mask n t b tab) b (state t) (remove b tab) (length s))
        → (i : ℕ) → i ≡ state t → Plantable n m b i (remove b tab) (length s)
    visit_can f p i ei = rw (em, ei) (p (visit_goes f))

    pub visit_done : y ≡ true → (i : ℕ) → i ≡ state t → (z : List ℕ) (r : ℕ) → Holds z r (length s) (planted n m b i tab) → Holds z r (length s) (visited all n t b tab)
    unfolding visited
    visit_done f i ei z r h =
        subst (λ (a : Bool). Holds z r (length s) (cond a tab (planted n (heir_mask n t b tab) b (state t) tab))) (sym (visit_goes f))
        (subst (λ (k : ℕ). Holds z r (length s) (planted n k b (state t) tab)) em (subst (λ (k : ℕ). Holds z r (length s) (planted n m b k tab)) ei h))
