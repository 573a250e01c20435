-- Counting struck and added before anything is written.
use mathlib.Core.Path.{◌≡◌, refl, sym, ap, ap₂, ◌∙◌}
use mathlib.Core.Bool.{Bool, true, false, not, false≢true}
use mathlib.Core.List.{List, [], Memᴰ as Mem}
use Prim.Native.Nat.{ℕ, suc, ◌+◌, ◌≤◌, ◌<◌}
use native.Mathlib.Numerals.{add-one}
use native.Mathlib.Omega.{arith}
use lib.ListN.{length, drop, get_or, drop_of_length-le, length-append}
use lib.Seq.{drop-cons}
use Rattle.table.specs.Lists.{filter, cons_if}
use Rattle.table.proofs.Basics.{at_in}
use Rattle.table.proofs.Tables.{increasing_short}
use Rattle.panel.specs.Rules.{valid_rule}
use Rattle.panel.specs.Transitions.{state, spared}
use Rattle.panel.proofs.Words.{rule_i}
use Rattle.prime.specs.Sheets.{good_sheet}
use Rattle.prime.proofs.Least.{Good, good_e}
use Rattle.prime.proofs.Passes.{rule_small}
use Rattle.heirs.specs.Heirs.{heirs_of, heirs_of_all, heir_mask}
use Rattle.heirs.proofs.Counts.{take_struck}
use Rattle.heirs.proofs.Steps.{take_added_heirs}
use Rattle.heirs.proofs.InPlace.{progress_start, heirs_of_part}
use Rattle.heirs.proofs.Judging.{picked_heirs}
use Rattle.sheet.specs.Taking.{tally_of, on_count, hits, Tallying}
use Rattle.sheet.specs.declared.Tally.{Tally}
use Rattle.sheet.proofs.Stretch.{picked_count}

module _ (n t : ℕ) (s : List ℕ) (small : n ≤ 10) (good : good_sheet n s ≡ true) where
  g : Good n s
  g = good_e n s good

  pub tally_rule : (k : ℕ) → k < length s → valid_rule n (get_or s k 0) ≡ true
  tally_rule k l = rule_i n (get_or s k 0) (g.valid (get_or s k 0) (at_in s k l))

  pub tally_short : length s ≤ 16777216
  tally_short = increasing_short s 16777216 g.sorted (λ x m. rule_small n x small (valid_rule n x) refl (rule_i n x (g.valid x m)))

  -- the mask has as many relays as the hit rule has heirs
  heir_count : (b m : ℕ) → Mem b s → (spared t b ≡ true → ⊥) → m ≡ heir_mask n t b s → length (heirs_of n (filter (spared t) s) t b) ≡ on_count n m
  heir_count b m i f e =
      sym (ap length (picked_heirs n t b m s e ∙ heirs_of_part n small s g t s (progress_start n small s g t) b i f s (λ r k. k) (λ r k p. k.old)))
      ∙ picked_count n m b (state t)

  module _ (k struck added : ℕ) (l : k < length s) (q : Tallying n t s k struck added) where
    abbrev b : ℕ
    b = get_or s k 0

    abbrev keep : List ℕ
    keep = filter (spared t) s

    hits_here : (x : Bool) → spared t b ≡ x → hits t (drop k s) ≡ cons_if (not x) b (hits t (drop (k + 1) s))
    unfolding hits
    hits_here x e = rw (drop-cons s k 0 l, add-one k) (ap (λ (y : Bool). cons_if (not y) b (filter (λ w. not (spared t w)) (drop (suc k) s))) e)

    pub tally_spared : (x : Bool) → x ≡ spared t b → x ≡ true → Tallying n t s (k + 1) struck added
    tally_spared x ex e =
        let h = hits_here true (sym ex ∙ e) in
        record {
          inside = omega arith;
          few = omega (arith, q.few);
          not_many = omega (arith, q.not_many);
          struck_left = ap (λ (z : List ℕ). struck + length z) (sym h) ∙ q.struck_left;
          added_left = ap (λ (z : List ℕ). added + length (heirs_of_all n keep t z)) (sym h) ∙ q.added_left;
        }

    pub tally_hit : (x : Bool) → x ≡ spared t b → x ≡ false → (m c : ℕ) → m ≡ heir_mask n t b s → c ≡ on_count n m → c ≤ 10 → Tallying n t s (k + 1) (struck + 1) (added + c)
    unfolding heirs_of_all
    tally_hit x ex e m c em ec lc =
        let h = hits_here false (sym ex ∙ e) in
        let f : spared t b ≡ true → ⊥ = λ p. no_both (sym ex ∙ e) p in
        let a : length (heirs_of_all n keep t (hits t (drop k s))) ≡ c + length (heirs_of_all n keep t (hits t (drop (k + 1) s))) =
        ap (λ (z : List ℕ). length (heirs_of_all n keep t z)) h
        ∙ length-append (heirs_of n keep t b) (heirs_of_all n keep t (hits t (drop (k + 1) s)))
        ∙ ap (λ (z : ℕ). z + length (heirs_of_all n keep t (hits t (drop (k + 1) s)))) (heir_count b m (at_in s k l) f em ∙ sym ec) in
        record {
          inside = omega arith;
          few = omega (arith, q.few);
          not_many = omega (arith, q.not_many);
          struck_left = omega (arith, ap length h, q.struck_left);
          added_left = omega (arith, a, q.added_left);
        }
      where
        no_both : spared t b ≡ false → spared t b ≡ true → ⊥
        no_both p r = false≢true (sym p ∙ r)

  pub tally_end : (k struck added : ℕ) → length s ≤ k → Tallying n t s k struck added → record { struck = struck; added = added } ≡ tally_of n s t
  unfolding tally_of heirs_of_all hits
  tally_end k struck added l q =
      let z : drop k s ≡ [] = drop_of_length-le s {i = k} l in
      let a : struck ≡ length (hits t s) = omega (arith, ap (λ (y : List ℕ). length (hits t y)) z, q.struck_left) in
      let b : added ≡ length (heirs_of_all n (filter (spared t) s) t (hits t s)) = omega (arith, ap (λ (y : List ℕ). length (heirs_of_all n (filter (spared t) s) t (hits t y))) z, q.added_left) in
      ap₂ both (a ∙ sym (take_struck n small s g t)) (b ∙ sym (take_added_heirs n small s g t))
    where
      both : ℕ → ℕ → Tally
      both x y = record { struck = x; added = y }
