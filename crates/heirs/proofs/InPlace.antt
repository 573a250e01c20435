-- Take in place: a hit rule gives way to its heirs, one hit rule after the other in any order; the weight of the table stays.
use mathlib.Core.Path.{◌≡◌, refl, sym, ap, ◌∙◌, subst}
use mathlib.Core.Logic.{◌⊎◌, inl, inr}
use mathlib.Core.Bool.{Bool, true, false, not, ◌&&◌}
use mathlib.Core.List.Memᴰ
use mathlib.Core.List.Memᴰ.{head as here}
use mathlib.Core.List.Memᴰ.{tail as there}
use mathlib.Core.List.{List, [], ◌∷◌, ◌++◌, Memᴰ as Mem}
use Prim.Native.Nat.{ℕ, ◌≤◌, ◌<◌}
use native.Mathlib.Decide.{ℕ_discrete}
use native.Mathlib.Omega.{arith}
use lib.ListN.{length, length-append}
use Rattle.table.specs.Lists.{any, cons_if, filter, increasing, insert_all, remove, distinct}
use Rattle.panel.specs.Rules.{narrows, head}
use Rattle.panel.specs.Transitions.{state, spared}
use Rattle.panel.specs.Contacts.{free, candidate}
use Rattle.prime.specs.Sheets.{permits, take_sheet}
use Rattle.heirs.specs.Heirs.{replaced, one_or, weight, heirs_of, heirs_of_all, take_steps, blocked, heir_by, heirs_in}
use Rattle.table.proofs.Basics.{not_i, not_e, either, false_test, filter_e, filter_i, each_ext, same_test, any_e, any_i, and_i}
use Rattle.table.proofs.Increasing.{increasing_unique}
use Rattle.table.proofs.Inserting.{insert_all_length, insert_all_e, insert_all_old, insert_all_new, insert_all_increasing, front_distinct}
use Rattle.table.proofs.Sums.{sum, sum_insert_all, sum_parted, sum_ones, sum_at_least, remove_e, remove_i, remove_increasing, remove_sum}
use Rattle.panel.proofs.Words.{narrows_refl, narrows_e}
use Rattle.panel.proofs.Candidates.{candidate_narrows}
use Rattle.prime.proofs.Least.{Good, permits_e}
use Rattle.prime.proofs.Laws.{take_good}
use Rattle.heirs.proofs.Take.{Kept, Heir, Candidacy, kept_i, heir_i, take_e, heir_new, heir_order, new_spared, candidacy_of}
use Rattle.heirs.proofs.Steps.{heirs_of_e, heirs_of_i, heirs_of_distinct, heir_from, take_steps_lem, clear_in_table}

-- ---- the table in between

pub record Progress (n : ℕ) (s : List ℕ) (t : ℕ) (tab : List ℕ) : Type 0 where
  pub sorted : increasing tab ≡ true
  pub kept_in : (r : ℕ) → Kept s t r → Mem r tab
  pub from : (r : ℕ) → Mem r tab → Mem r s ⊎ Heir n s t r
  -- an heir is in the table, or its parent is; and not both
  pub reached : (r : ℕ) (w : Heir n s t r) → Mem r tab ⊎ Mem w.parent tab
  pub fresh : (r : ℕ) (w : Heir n s t r) → Mem w.parent tab → Mem r tab → ⊥

module _ (n : ℕ) (small : n ≤ 10) (s : List ℕ) (g : Good n s) (t : ℕ) where
  abbrev keep : List ℕ
  keep = filter (spared t) s

  -- an heir is spared
  pub heir_spared : (r : ℕ) → Heir n s t r → spared t r ≡ true
  heir_spared r w = new_spared n small s g t r (heir_i n small s g t r w)

  -- of one heir there is one parent
  same_parent : (r : ℕ) (w w' : Heir n s t r) → w'.parent ≡ w.parent
  same_parent r w w' =
      (heir_order n small s g t w.parent w.relay w'.parent w'.relay (candidacy_of n small s g t r w) (candidacy_of n small s g t r w')
      (subst (λ (z : ℕ). narrows (candidate w.parent w.relay (state t)) z ≡ true) (sym w.is ∙ w'.is)
      (narrows_refl (candidate w.parent w.relay (state t))))).1

  -- it starts with the old sheet
  pub progress_start : Progress n s t s
  progress_start = record {
    sorted = g.sorted;
    kept_in = λ r k. k.old;
    from = λ r m. inl m;
    reached = λ r w. inr w.parent_old;
    fresh = λ r w m k. heir_new n small s g t r w k;
  }

  -- and ends, when the table holds spared rules only, with the new one
  pub progress_end : (tab : List ℕ) → Progress n s t tab → ((r : ℕ) → Mem r tab → spared t r ≡ true) → tab ≡ take_sheet n s t
  progress_end tab p h =
      increasing_unique tab (take_sheet n s t) p.sorted (take_good n small s t).sorted
      (λ r m. to r m (p.from r m)) (λ r m. back r (take_e n small s g t r m))
    where
      to : (r : ℕ) → Mem r tab → Mem r s ⊎ Heir n s t r → Mem r (take_sheet n s t)
      to r m (inl k) = kept_i n small s g t r (record { old = k; alone = h r m })
      to r m (inr w) = heir_i n small s g t r w

      there_yet : (r : ℕ) (w : Heir n s t r) → Mem r tab ⊎ Mem w.parent tab → Mem r tab
      there_yet r w (inl m) = m
      there_yet r w (inr m) = absurd (w.parent_hit (h w.parent m))

      back : (r : ℕ) → Kept s t r ⊎ Heir n s t r → Mem r tab
      back r (inl k) = p.kept_in r k
      back r (inr w) = there_yet r w (p.reached r w)

  module _ (tab : List ℕ) (p : Progress n s t tab) (b : ℕ) (m : Mem b tab) (f : spared t b ≡ true → ⊥) where
    -- a rule of the table that is not spared is an old one
    old_one : Mem b s
    old_one = go (p.from b m)
      where
        go : Mem b s ⊎ Heir n s t b → Mem b s
        go (inl k) = k
        go (inr w) = absurd (f (heir_spared b w))

    pub in_old : Mem b (filter (λ w. not (spared t w)) s)
    in_old = filter_i (λ w. not (spared t w)) old_one (not_i (spared t b) f)

    pub heir_b : (r : ℕ) → Mem r (heirs_of n keep t b) → Heir n s t r
    heir_b r k = heir_from n small s g t r (b, in_old, heirs_of_e n keep t b r k)

    heir_b_parent : (r : ℕ) (k : Mem r (heirs_of n keep t b)) → (heir_b r k).parent ≡ b
    unfolding heir_b heir_from
    heir_b_parent r k = refl

    b_heir : (r : ℕ) (w : Heir n s t r) → w.parent ≡ b → Mem r (heirs_of n keep t b)
    b_heir r w e =
        heirs_of_i n keep t b r (record {
          relay = w.relay;
          relay_lt = w.relay_lt;
          relay_free = subst (λ (x : ℕ). free w.relay x ≡ true) e w.relay_free;
          is = w.is ∙ ap (λ (x : ℕ). candidate x w.relay (state t)) e;
          clear = λ q.
              let k = permits_e keep r q in
              let a = filter_e (spared t) s k.1 in
              w.clear k.0 (record { old = a.0; alone = a.1 }) k.2;
        })

    pub progress_step : Progress n s t (replaced n s t tab b)
    unfolding replaced
    progress_step = record {
      sorted =
          insert_all_increasing (heirs_of n keep t b) (remove b tab) (remove_increasing b tab p.sorted) (heirs_of_distinct n small s g t b in_old)
          (λ r k a. p.fresh r (heir_b r k) (subst (λ (x : ℕ). Mem x tab) (sym (heir_b_parent r k)) m) (remove_e b tab a).0);
      kept_in = λ r k. insert_all_old (heirs_of n keep t b) (remove_i b (p.kept_in r k) (λ e. f (subst (λ (x : ℕ). spared t x ≡ true) e k.alone)));
      from = λ r k. origin r (insert_all_e (heirs_of n keep t b) (remove b tab) r k);
      reached = λ r w. arrive r w (p.reached r w);
      fresh = λ r w k a. never r w (insert_all_e (heirs_of n keep t b) (remove b tab) w.parent k) (insert_all_e (heirs_of n keep t b) (remove b tab) r a);
    }
      where
        origin : (r : ℕ) → Mem r (heirs_of n keep t b) ⊎ Mem r (remove b tab) → Mem r s ⊎ Heir n s t r
        origin r (inl k) = inr (heir_b r k)
        origin r (inr k) = p.from r (remove_e b tab k).0

        via : (r : ℕ) (w : Heir n s t r) → Mem w.parent tab → Dec (w.parent ≡ b)
            → Mem r (insert_all (heirs_of n keep t b) (remove b tab)) ⊎ Mem w.parent (insert_all (heirs_of n keep t b) (remove b tab))
        via r w k (yes e) = inl (insert_all_new (remove b tab) (b_heir r w e))
        via r w k (no d) = inr (insert_all_old (heirs_of n keep t b) (remove_i b k d))

        arrive : (r : ℕ) (w : Heir n s t r) → Mem r tab ⊎ Mem w.parent tab
            → Mem r (insert_all (heirs_of n keep t b) (remove b tab)) ⊎ Mem w.parent (insert_all (heirs_of n keep t b) (remove b tab))
        arrive r w (inl k) =
            inl (insert_all_old (heirs_of n keep t b) (remove_i b k (λ e. f (subst (λ (x : ℕ). spared t x ≡ true) e (heir_spared r w)))))
        arrive r w (inr k) = via r w k (ℕ_discrete w.parent b)

        never : (r : ℕ) (w : Heir n s t r) → Mem w.parent (heirs_of n keep t b) ⊎ Mem w.parent (remove b tab)
            → Mem r (heirs_of n keep t b) ⊎ Mem r (remove b tab) → ⊥
        never r w (inl k) a = w.parent_hit (heir_spared w.parent (heir_b w.parent k))
        never r w (inr k) (inl a) =
            (remove_e b tab k).1 (same_parent r (heir_b r a) w ∙ heir_b_parent r a)
        never r w (inr k) (inr a) = p.fresh r w (remove_e b tab k).0 (remove_e b tab a).0

    -- the heirs are new to the table with b gone; and so any first ones of them keep it in order
    pub heirs_fresh : (r : ℕ) → Mem r (heirs_of n keep t b) → Mem r (remove b tab) → ⊥
    heirs_fresh r k a = p.fresh r (heir_b r k) (subst (λ (x : ℕ). Mem x tab) (sym (heir_b_parent r k)) m) (remove_e b tab a).0

    pub first_heirs_in_order : (xs zs : List ℕ) → heirs_of n keep t b ≡ xs ++ zs → increasing (insert_all xs (remove b tab)) ≡ true
    first_heirs_in_order xs zs e =
        insert_all_increasing xs (remove b tab) (remove_increasing b tab p.sorted)
        (front_distinct xs zs (ap distinct (sym e) ∙ heirs_of_distinct n small s g t b in_old))
        (λ r k a. heirs_fresh r (subst (λ (l : List ℕ). Mem r l) (sym e) (Memᴰ.append_left zs k)) a)

  -- ---- the test that the code makes

  module _ (tab : List ℕ) (p : Progress n s t tab) (b : ℕ) (m : Mem b tab) (f : spared t b ≡ true → ⊥) (v : ℕ) (lv : v < n) (fr : free v b ≡ true) where
    parent : Candidacy n s t b v
    parent = record { old = old_one tab p b m f; struck = f; lt = lv; free_in = fr }

    -- where a spared rule of the table comes from
    place : (r : ℕ) → Mem r tab → spared t r ≡ true → Mem r s ⊎ Heir n s t r
        → Kept s t r ⊎ ((c : ℕ) × (u : ℕ) × Candidacy n s t c u × (r ≡ candidate c u (state t)) × ((u ≡ v) × (c ≡ b) → ⊥))
    place r k e (inl a) = inl (record { old = a; alone = e })
    place r k e (inr w) =
        inr (w.parent, w.relay, candidacy_of n small s g t r w, w.is, λ q. p.fresh r w (subst (λ (x : ℕ). Mem x tab) (sym q.1) m) k)

    -- while b is still in the table
    pub clear_now : any (λ r. spared t r && narrows (candidate b v (state t)) r) tab ≡ permits keep (candidate b v (state t))
    clear_now = clear_in_table n small s g t tab b v parent p.kept_in (λ r k e. place r k e (p.from r k))

  -- ---- the test on a part of the table that holds every kept rule of the head

  module _ (tab : List ℕ) (p : Progress n s t tab) (b : ℕ) (m : Mem b tab) (f : spared t b ≡ true → ⊥)
      (part : List ℕ) (inside : (r : ℕ) → Mem r part → Mem r tab) (holds : (r : ℕ) → Kept s t r → head r ≡ head b → Mem r part) where
    clear_part : (v : ℕ) → v < n → free v b ≡ true
        → any (λ r. spared t r && narrows (candidate b v (state t)) r) part ≡ permits keep (candidate b v (state t))
    clear_part v l e = same_test (any test part) (permits keep new)
        (λ q.
        let k = any_e test part q in
        sym (clear_now tab p b m f v l e) ∙ any_i test (inside k.0 k.1) k.2)
        (λ q.
        let k = permits_e keep new q in
        let a = filter_e (spared t) s k.1 in
        any_i test (holds k.0 (record { old = a.0; alone = a.1 }) (sym (narrows_e new k.0 k.2).one_head ∙ (narrows_e new b (candidate_narrows n small b v (state t) (g.valid b (old_one tab p b m f)) l e)).one_head))
        (and_i (spared t k.0) (narrows new k.0) a.1 k.2))
      where
        new : ℕ
        new = candidate b v (state t)

        test : ℕ → Bool
        test r = spared t r && narrows new r

    choice : (v : ℕ) → v < n → heir_by t b v part ≡ (free v b && not (permits keep (candidate b v (state t))))
    unfolding heir_by blocked
    choice v l = go (free v b) refl
      where
        go : (a : Bool) → free v b ≡ a
            → (a && not (any (λ r. spared t r && narrows (candidate b v (state t)) r) part)) ≡ (a && not (permits keep (candidate b v (state t))))
        go true e = ap not (clear_part v l e)
        go false e = refl

    -- the part tells the heirs of b as the whole sheet does
    pub heirs_of_part : heirs_in n t b part ≡ heirs_of n keep t b
    unfolding heirs_in heirs_of
    heirs_of_part =
        each_ext n (λ v. cons_if (heir_by t b v part) (candidate b v (state t)) [])
        (λ v. cons_if (free v b && not (permits keep (candidate b v (state t)))) (candidate b v (state t)) [])
        (λ v l. ap (λ (a : Bool). cons_if a (candidate b v (state t)) []) (choice v l))

  -- ---- how long the table is

  abbrev price : ℕ → ℕ
  price = weight n s t

  weight_spared : (r : ℕ) → spared t r ≡ true → weight n s t r ≡ 1
  unfolding weight
  weight_spared r e = ap (λ (a : Bool). one_or a (length (heirs_of n keep t r))) e

  weight_struck : (r : ℕ) → (spared t r ≡ true → ⊥) → weight n s t r ≡ length (heirs_of n keep t r)
  unfolding weight
  weight_struck r f = ap (λ (a : Bool). one_or a (length (heirs_of n keep t r))) (false_test (spared t r) f)

  -- the sum of the weights stays as it is
  pub weight_step : (tab : List ℕ) (p : Progress n s t tab) (b : ℕ) (m : Mem b tab) (f : spared t b ≡ true → ⊥) → sum price (replaced n s t tab b) ≡ sum price tab
  unfolding replaced
  weight_step tab p b m f =
      omega (
        arith,
        sum_insert_all price (heirs_of n keep t b) (remove b tab),
        remove_sum price b tab p.sorted m,
        weight_struck b f,
        sum_ones price (heirs_of n keep t b) (λ r k. weight_spared r (heir_spared r (heir_b tab p b m f r k))),
      )

  -- at the end it is the length of the table
  pub weight_end : (tab : List ℕ) → ((r : ℕ) → Mem r tab → spared t r ≡ true) → sum price tab ≡ length tab
  weight_end tab h = sum_ones price tab (λ r m. weight_spared r (h r m))

  weight_heir : (bs : List ℕ) → ((b : ℕ) → Mem b bs → spared t b ≡ true → ⊥) → sum price bs ≡ length (heirs_of_all n keep t bs)
  unfolding sum heirs_of_all
  weight_heir [] h = refl
  weight_heir (b ∷ bs) h =
      omega (arith, weight_struck b (h b (here refl)), weight_heir bs (λ c m. h c (there m)), length-append (heirs_of n keep t b) (heirs_of_all n keep t bs))

  -- at the start it is the length of the new sheet: this number is known before anything is written
  pub weight_start : sum price s ≡ length (take_sheet n s t)
  unfolding take_steps
  weight_start =
      let old = filter (λ w. not (spared t w)) s in
      omega (
        arith,
        sum_parted price (spared t) s,
        sum_ones price keep (λ r m. weight_spared r (filter_e (spared t) s m).1),
        weight_heir old (λ b m. not_e (spared t b) (filter_e (λ w. not (spared t w)) s m).1),
        ap length (take_steps_lem n small s g t),
        insert_all_length (heirs_of_all n keep t old) keep,
      )

  -- while no rule is left without an heir, the table is no longer than the new sheet will be
  pub table_fits : (tab : List ℕ) → ((r : ℕ) → Mem r tab → (spared t r ≡ true → ⊥) → 1 ≤ length (heirs_of n keep t r)) → length tab ≤ sum price tab
  table_fits tab h = sum_at_least price tab (λ r m. go r m (either (spared t r)))
    where
      go : (r : ℕ) → Mem r tab → (spared t r ≡ true) ⊎ (spared t r ≡ true → ⊥) → 1 ≤ weight n s t r
      go r m (inl e) = omega (arith, weight_spared r e)
      go r m (inr f) = omega (arith, weight_struck r f, h r m f)

  -- where nothing is hit, the sheet stays as it is
  pub take_idle : ((r : ℕ) → Mem r s → spared t r ≡ true) → take_sheet n s t ≡ s
  take_idle h = sym (progress_end s progress_start h)
