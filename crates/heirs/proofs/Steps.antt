-- Take step by step: hit rules go, and heirs are put in their places, in any order.
use mathlib.Core.Path.{◌≡◌, refl, sym, ap, ◌∙◌, subst}
use mathlib.Core.Logic.{◌⊎◌, inl, inr}
use mathlib.Core.Bool.{Bool, true, not, ◌&&◌}
use mathlib.Core.List.Memᴰ
use mathlib.Core.List.Memᴰ.{head as here}
use mathlib.Core.List.Memᴰ.{tail as there}
use mathlib.Core.List.{List, [], ◌∷◌, Memᴰ as Mem}
use Prim.Native.Nat.{ℕ, ◌≤◌, ◌<◌}
use native.Mathlib.Omega.{arith}
use lib.ListN.{length}
use Rattle.table.specs.Lists.{any, cons_if, filter, has, missing, insert_all, distinct}
use Rattle.panel.specs.Rules.{narrows}
use Rattle.panel.specs.Transitions.{state, spared}
use Rattle.panel.specs.Contacts.{free, candidate}
use Rattle.prime.specs.Sheets.{permits, take_sheet, added_count}
use Rattle.heirs.specs.Heirs.{heirs_of, heirs_of_all, take_steps}
use Rattle.table.proofs.Basics.{and_l, and_r, and_i, not_i, not_e, same_test, any_e, any_i, filter_e, filter_i, each_e, each_i, single_e, single_i}
use Rattle.table.proofs.Increasing.{filter_increasing, increasing_unique}
use Rattle.table.proofs.Counting.{parted}
use Rattle.table.proofs.Inserting.{insert_all_length, insert_all_e, insert_all_old, insert_all_new, insert_all_increasing, first_new, append_distinct, each_distinct, single_distinct, increasing_distinct}
use Rattle.panel.proofs.Words.{narrows_refl}
use Rattle.prime.proofs.Least.{Good, permits_e, permits_i}
use Rattle.prime.proofs.Laws.{take_good}
use Rattle.heirs.proofs.Take.{Kept, Heir, Candidacy, kept_i, heir_i, take_e, heir_new, heir_order}
use Rattle.heirs.proofs.Counts.{take_kept}

-- ---- take, by putting in the heirs in any order

module _ (n : ℕ) (small : n ≤ 10) (s : List ℕ) (g : Good n s) (t : ℕ) where
  abbrev kept : List ℕ
  kept = filter (spared t) s

  kept_e : (r : ℕ) → Mem r kept → Kept s t r
  kept_e r m = let k = filter_e (spared t) s m in record { old = k.0; alone = k.1 }

  kept_mem : (r : ℕ) → Kept s t r → Mem r kept
  kept_mem r k = filter_i (spared t) k.old k.alone

  module _ (xs : List ℕ) (d : distinct xs ≡ true) (f : (x : ℕ) → Mem x xs → Heir n s t x) (h : (x : ℕ) → Heir n s t x → Mem x xs) where
    pub take_insert : take_sheet n s t ≡ insert_all xs kept
    take_insert =
        increasing_unique (take_sheet n s t) (insert_all xs kept) (take_good n small s t).sorted
        (insert_all_increasing xs kept (filter_increasing (spared t) s g.sorted) d (λ x m k. heir_new n small s g t x (f x m) (filter_e (spared t) s k).0))
        (λ r m. forth r (take_e n small s g t r m))
        (λ r m. back r (insert_all_e xs kept r m))
      where
        forth : (r : ℕ) → Kept s t r ⊎ Heir n s t r → Mem r (insert_all xs kept)
        forth r (inl k) = insert_all_old xs (kept_mem r k)
        forth r (inr w) = insert_all_new kept (h r w)

        back : (r : ℕ) → Mem r xs ⊎ Mem r kept → Mem r (take_sheet n s t)
        back r (inl m) = heir_i n small s g t r (f r m)
        back r (inr m) = kept_i n small s g t r (kept_e r m)

    -- added is the number of heirs
    pub take_added : added_count s (take_sheet n s t) ≡ length xs
    unfolding added_count missing
    take_added =
        omega (arith, parted (λ x. has x s) (take_sheet n s t), ap length (take_kept n small s g t), ap length take_insert, insert_all_length xs kept)

-- ---- the list of heirs that code goes through

-- r is an heir of b: what the test in the loop lets through
pub record From (n : ℕ) (k : List ℕ) (t b r : ℕ) : Type 0 where
  pub relay : ℕ
  pub relay_lt : relay < n
  pub relay_free : free relay b ≡ true
  pub is : r ≡ candidate b relay (state t)
  pub clear : permits k r ≡ true → ⊥

module _ (n : ℕ) (k : List ℕ) (t b : ℕ) where
  abbrev ok : ℕ → Bool
  ok v = free v b && not (permits k (candidate b v (state t)))

  pub heirs_of_e : (r : ℕ) → Mem r (heirs_of n k t b) → From n k t b r
  unfolding heirs_of
  heirs_of_e r m =
      let a = each_e n (λ v. cons_if (ok v) (candidate b v (state t)) []) m in
      let e = single_e (ok a.0) a.2 in
      record {
        relay = a.0;
        relay_lt = a.1;
        relay_free = and_l (free a.0 b) (not (permits k (candidate b a.0 (state t)))) e.1;
        is = e.0;
        clear = λ p. not_e (permits k (candidate b a.0 (state t))) (and_r (free a.0 b) (not (permits k (candidate b a.0 (state t)))) e.1)
            (subst (λ (z : ℕ). permits k z ≡ true) e.0 p);
      }

  pub heirs_of_i : (r : ℕ) → From n k t b r → Mem r (heirs_of n k t b)
  unfolding heirs_of
  heirs_of_i r f =
      each_i n (λ v. cons_if (ok v) (candidate b v (state t)) []) f.relay f.relay_lt
      (single_i (ok f.relay) f.is
      (and_i (free f.relay b) (not (permits k (candidate b f.relay (state t)))) f.relay_free
      (not_i (permits k (candidate b f.relay (state t))) (λ p. f.clear (subst (λ (z : ℕ). permits k z ≡ true) (sym f.is) p)))))

heirs_of_all_e : (n : ℕ) (k : List ℕ) (t : ℕ) (bs : List ℕ) (r : ℕ) → Mem r (heirs_of_all n k t bs) → (b : ℕ) × Mem b bs × From n k t b r
unfolding heirs_of_all
heirs_of_all_e n k t [] r m = absurd (Memᴰ.not-nil m)
heirs_of_all_e n k t (b ∷ bs) r m = go (Memᴰ.append_cases (heirs_of n k t b) m) (λ (p : Mem r (heirs_of_all n k t bs)). heirs_of_all_e n k t bs r p)
  where
    go : Mem r (heirs_of n k t b) ⊎ Mem r (heirs_of_all n k t bs) → (Mem r (heirs_of_all n k t bs) → (c : ℕ) × Mem c bs × From n k t c r)
        → (c : ℕ) × Mem c (b ∷ bs) × From n k t c r
    go (inl p) rec = (b, here refl, heirs_of_e n k t b r p)
    go (inr p) rec = let q = rec p in (q.0, there q.1, q.2)

heirs_of_all_i : (n : ℕ) (k : List ℕ) (t : ℕ) {b : ℕ} {bs : List ℕ} (r : ℕ) → Mem b bs → From n k t b r → Mem r (heirs_of_all n k t bs)
unfolding heirs_of_all
heirs_of_all_i n k t {b = b} r (here {x = c} {xs = cs} e) f =
    Memᴰ.append_left (heirs_of_all n k t cs) (heirs_of_i n k t c r (subst (λ (x : ℕ). From n k t x r) e f))
heirs_of_all_i n k t r (there {x = c} {xs = cs} m) f = Memᴰ.append_right (heirs_of n k t c) (heirs_of_all_i n k t r m f)

module _ (n : ℕ) (small : n ≤ 10) (s : List ℕ) (g : Good n s) (t : ℕ) where
  abbrev old : List ℕ
  old = filter (λ w. not (spared t w)) s

  abbrev keep : List ℕ
  keep = filter (spared t) s

  candidacy_of : (b r : ℕ) → Mem b old → (f : From n keep t b r) → Candidacy n s t b f.relay
  candidacy_of b r m f =
      let k = filter_e (λ w. not (spared t w)) s m in
      record { old = k.0; struck = not_e (spared t b) k.1; lt = f.relay_lt; free_in = f.relay_free }

  -- one rule is an heir of one old rule, by one contact
  pub one_parent : (b c r : ℕ) → Mem b old → Mem c old → (x : From n keep t b r) (y : From n keep t c r) → (y.relay ≡ x.relay) × (c ≡ b)
  one_parent b c r mb mc x y =
      heir_order n small s g t b x.relay c y.relay (candidacy_of b r mb x) (candidacy_of c r mc y)
      (subst (λ (z : ℕ). narrows (candidate b x.relay (state t)) z ≡ true) (sym x.is ∙ y.is) (narrows_refl (candidate b x.relay (state t))))

  pub heirs_of_distinct : (b : ℕ) → Mem b old → distinct (heirs_of n keep t b) ≡ true
  unfolding heirs_of
  heirs_of_distinct b m =
      each_distinct n (λ v. cons_if (ok n keep t b v) (candidate b v (state t)) [])
      (λ v l. single_distinct (ok n keep t b v) (candidate b v (state t)))
      (λ u v x lu lv mu mv. sym (one_parent b b x m m (from x u lu mu) (from x v lv mv)).0)
    where
      from : (x u : ℕ) → u < n → Mem x (cons_if (ok n keep t b u) (candidate b u (state t)) []) → From n keep t b x
      from x u l k =
          let e = single_e (ok n keep t b u) k in
          record {
            relay = u;
            relay_lt = l;
            relay_free = and_l (free u b) (not (permits keep (candidate b u (state t)))) e.1;
            is = e.0;
            clear = λ p. not_e (permits keep (candidate b u (state t))) (and_r (free u b) (not (permits keep (candidate b u (state t)))) e.1)
                (subst (λ (z : ℕ). permits keep z ≡ true) e.0 p);
          }

  heirs_of_all_distinct : (bs : List ℕ) → distinct bs ≡ true → ((b : ℕ) → Mem b bs → Mem b old) → distinct (heirs_of_all n keep t bs) ≡ true
  unfolding heirs_of_all
  heirs_of_all_distinct [] d f = refl
  heirs_of_all_distinct (b ∷ bs) d f =
      append_distinct (heirs_of n keep t b) (heirs_of_all n keep t bs) (heirs_of_distinct b (f b (here refl)))
      (heirs_of_all_distinct bs (and_r (not (has b bs)) (distinct bs) d) (λ c m. f c (there m)))
      (λ x m k.
      let q = heirs_of_all_e n keep t bs x k in
      let e : q.0 ≡ b = (one_parent b q.0 x (f b (here refl)) (f q.0 (there q.1)) (heirs_of_e n keep t b x m) q.2).1 in
      first_new b bs d (Memᴰ.cast (sym e) q.1))

  unfoldable pub heir_from : (r : ℕ) → (b : ℕ) × Mem b old × From n keep t b r → Heir n s t r
  heir_from r q =
      let f = q.2 in
      let k = filter_e (λ w. not (spared t w)) s q.1 in
      record {
        parent = q.0;
        relay = f.relay;
        parent_old = k.0;
        parent_hit = not_e (spared t q.0) k.1;
        relay_lt = f.relay_lt;
        relay_free = f.relay_free;
        is = f.is;
        clear = λ z h p. f.clear (permits_i keep r (filter_i (spared t) h.old h.alone) p);
      }

  from_heir : (r : ℕ) → Heir n s t r → Mem r (heirs_of_all n keep t old)
  from_heir r w =
      heirs_of_all_i n keep t r (filter_i (λ x. not (spared t x)) w.parent_old (not_i (spared t w.parent) w.parent_hit))
      (record {
        relay = w.relay;
        relay_lt = w.relay_lt;
        relay_free = w.relay_free;
        is = w.is;
        clear = λ p.
            let k = permits_e keep r p in
            let m = filter_e (spared t) s k.1 in
            w.clear k.0 (record { old = m.0; alone = m.1 }) k.2;
      })

  -- T4, as a computation: take is what the code's loops make
  pub take_steps_lem : take_sheet n s t ≡ take_steps n s t
  unfolding take_steps
  take_steps_lem =
      take_insert n small s g t (heirs_of_all n keep t old)
      (heirs_of_all_distinct old (increasing_distinct old (filter_increasing (λ w. not (spared t w)) s g.sorted)) (λ b m. m))
      (λ r m. heir_from r (heirs_of_all_e n keep t old r m)) from_heir

  -- added is the number of heirs of the hit rules
  pub take_added_heirs : added_count s (take_sheet n s t) ≡ length (heirs_of_all n keep t old)
  take_added_heirs =
      take_added n small s g t (heirs_of_all n keep t old)
      (heirs_of_all_distinct old (increasing_distinct old (filter_increasing (λ w. not (spared t w)) s g.sorted)) (λ b m. m))
      (λ r m. heir_from r (heirs_of_all_e n keep t old r m)) from_heir

  -- in a table that holds the kept rules, and else old rules that are not spared and heirs of other parents or relays,
  -- the test that an heir narrows no spared rule of the table decides whether it belongs in the new sheet
  pub clear_in_table : (tab : List ℕ) (b v : ℕ) → Candidacy n s t b v
      → ((r : ℕ) → Kept s t r → Mem r tab)
      → ((r : ℕ) → Mem r tab → spared t r ≡ true → Kept s t r ⊎ ((c : ℕ) × (u : ℕ) × Candidacy n s t c u × (r ≡ candidate c u (state t)) × ((u ≡ v) × (c ≡ b) → ⊥)))
      → any (λ r. spared t r && narrows (candidate b v (state t)) r) tab ≡ permits keep (candidate b v (state t))
  clear_in_table tab b v x f h =
      same_test (any test tab) (permits keep new)
      (λ e. let k = any_e test tab e in
      found k.0 (and_r (spared t k.0) (narrows new k.0) k.2) (h k.0 k.1 (and_l (spared t k.0) (narrows new k.0) k.2)))
      (λ e.
      let k = permits_e keep new e in
      let m = filter_e (spared t) s k.1 in
      any_i test (f k.0 (record { old = m.0; alone = m.1 })) (and_i (spared t k.0) (narrows new k.0) m.1 k.2))
    where
      new : ℕ
      new = candidate b v (state t)

      test : ℕ → Bool
      test r = spared t r && narrows new r

      found : (r : ℕ) → narrows new r ≡ true
          → Kept s t r ⊎ ((c : ℕ) × (u : ℕ) × Candidacy n s t c u × (r ≡ candidate c u (state t)) × ((u ≡ v) × (c ≡ b) → ⊥))
          → permits keep new ≡ true
      found r p (inl k) = permits_i keep new (filter_i (spared t) k.old k.alone) p
      found r p (inr k) =
          absurd (k.4 (heir_order n small s g t b v k.0 k.1 x k.2 (subst (λ (z : ℕ). narrows new z ≡ true) k.3 p)))
