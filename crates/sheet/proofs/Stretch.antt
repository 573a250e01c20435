-- The stretch of one head tells the heirs as the whole table does; and how many relays a mask has.
use mathlib.Core.Path.{◌≡◌, refl, sym, ap, ap₂, ◌∙◌, subst}
use mathlib.Core.Bool.{Bool, true, false, not, cond, ◌&&◌}
use mathlib.Core.List.{List, [], ◌∷◌, map, map-id, Memᴰ as Mem}
use Prim.Native.Nat.{ℕ, zero, suc, ◌+◌, ◌≤◌, ◌<◌}
use native.Mathlib.Numerals.{add-one}
use native.Mathlib.Omega.{arith}
use lib.ListN.{length, length-append}
use lib.Dec.{eqb}
use borrow.Author.Tests.{eq-eqb}
use Rattle.std.specs.List.{filter, range_with_len}
use Rattle.std.proofs.lemmas.List.FromFn.{filter_of_map_range_with_len_more}
use Rattle.table.specs.Lists.{any, all, cons_if, one_if}
use Rattle.table.proofs.Basics.{and_r, same_test, any_e, any_i, all_i, one_length}
use Rattle.panel.specs.Masks.{on}
use Rattle.panel.specs.Rules.{head, valid_rule, narrows, of_head}
use Rattle.panel.specs.Transitions.{state, spared}
use Rattle.panel.specs.Contacts.{free, candidate}
use Rattle.panel.proofs.Masks.{bits_ext}
use Rattle.panel.proofs.Words.{rule_e, narrows_e}
use Rattle.panel.proofs.Stretches.{stretch_e, stretch_i}
use Rattle.panel.proofs.Candidates.{added}
use Rattle.heirs.specs.Heirs.{blocked, heir_by, heir_mask, picked}
use Rattle.sheet.specs.Taking.{on_count}

pub head_small : (n b h : ℕ) → n ≤ 10 → valid_rule n b ≡ true → h ≡ head b → h < 10
head_small n b h small rb eh = omega (arith, eh, (rule_e n b rb).head_lt)

-- all of the stretch are rules of the head
pub stretch_heads : (b h : ℕ) (s part : List ℕ) → h ≡ head b → part ≡ of_head h s → all (λ r. eqb (head r) (head b)) part ≡ true
stretch_heads b h s part eh ep =
    all_i (λ r. eqb (head r) (head b)) part (λ r m. eq-eqb (head r) (head b) ((stretch_e h s r (subst (Mem r) ep m)).1 ∙ eh))

-- part is the stretch of the head of b
module _ (n t b h : ℕ) (s part : List ℕ) (small : n ≤ 10) (rb : valid_rule n b ≡ true) (eh : h ≡ head b) (ep : part ≡ of_head h s) where
  same_block : (c : ℕ) → head c ≡ head b → blocked t c (of_head h s) ≡ blocked t c s
  unfolding blocked
  same_block c ec =
      same_test (any test (of_head h s)) (any test s)
      (λ p. let k = any_e test (of_head h s) p in any_i test (stretch_e h s k.0 k.1).0 k.2)
      (λ p.
      let k = any_e test s p in
      let q : head k.0 ≡ h = sym (narrows_e c k.0 (and_r (spared t k.0) (narrows c k.0) k.2)).one_head ∙ ec ∙ sym eh in
      any_i test (stretch_i h s k.0 k.1 q) k.2)
    where
      test : ℕ → Bool
      test r = spared t r && narrows c r

  same_heir : (v : ℕ) → v < n → heir_by t b v (of_head h s) ≡ heir_by t b v s
  unfolding heir_by
  same_heir v l = go (free v b) refl
    where
      go : (x : Bool) → free v b ≡ x → (x && not (blocked t (candidate b v (state t)) (of_head h s))) ≡ (x && not (blocked t (candidate b v (state t)) s))
      go true f = ap not (same_block (candidate b v (state t)) (added n small b v (rule_e n b rb) l f (state t)).one_head)
      go false f = refl

  pub stretch_heirs : (m : ℕ) → m ≡ heir_mask n t b part → m ≡ heir_mask n t b s
  unfolding heir_mask
  stretch_heirs m em = em ∙ ap (heir_mask n t b) ep ∙ bits_ext n (λ v. heir_by t b v (of_head h s)) (λ v. heir_by t b v s) same_heir

-- ---- how many relays a mask has

pub count_le : (n mask : ℕ) → on_count n mask ≤ n
unfolding on_count
count_le zero mask = omega arith
count_le (suc v) mask = omega (arith, count_le v mask, at_most_one (on v mask))
  where
    at_most_one : (b : Bool) → one_if b ≤ 1
    at_most_one true = omega arith
    at_most_one false = omega arith

-- as the library counts them
pub count_range : (n mask : ℕ) → length (filter (λ v. on v mask) (range_with_len 0 n)) ≡ on_count n mask
unfolding on_count
count_range zero mask = refl
count_range (suc v) mask =
    ap passing (sym (map-id (range_with_len 0 (suc v))))
    ∙ ap (λ (k : ℕ). passing (map (λ u. u) (range_with_len 0 k))) (sym (add-one v))
    ∙ ap length (filter_of_map_range_with_len_more (λ u. on u mask) (λ u. u) 0 v v (omega arith))
    ∙ length-append (filter (λ u. on u mask) (map (λ u. u) (range_with_len 0 v))) (cond (on v mask) (v ∷ []) [])
    ∙ ap₂ (λ (p q : ℕ). p + q) (ap passing (map-id (range_with_len 0 v)) ∙ count_range v mask) (one (on v mask))
  where
    passing : List ℕ → ℕ
    passing l = length (filter (λ u. on u mask) l)

    one : (b : Bool) → length (cond b (v ∷ []) []) ≡ one_if b
    one true = refl
    one false = refl

pub picked_count : (n mask b i : ℕ) → length (picked n mask b i) ≡ on_count n mask
unfolding picked on_count
picked_count zero mask b i = refl
picked_count (suc v) mask b i =
    length-append (picked v mask b i) (cons_if (on v mask) (candidate b v i) [])
    ∙ ap₂ (λ (p q : ℕ). p + q) (picked_count v mask b i) (one_length (on v mask) (candidate b v i))
