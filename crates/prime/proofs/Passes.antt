-- The passes over a sheet, turn by turn: judging good ones, and applying a sheet.
use mathlib.Core.Path.{◌≡◌, refl, sym, ap, ap₂, ◌∙◌, subst}
use mathlib.Core.Logic.{◌⊎◌, inl, inr}
use mathlib.Core.Bool.{Bool, true, false, not, ◌&&◌, ◌||◌, and_assoc, and-true, and-false, or-false}
use mathlib.Core.List.Memᴰ
use mathlib.Core.List.{List, [], ◌∷◌, ◌++◌, Memᴰ as Mem}
use Prim.Native.Nat.{ℕ, zero, suc, ◌+◌, ◌-◌, ◌^◌, ◌≤◌, ◌<◌}
use native.Mathlib.Numerals.{add-one}
use native.Mathlib.Omega.{arith}
use lib.Bits.{bit_or, or_lt}
use lib.Dec.{eqb, leb}
use lib.ListN.{length, take, drop, get_or}
use lib.Seq.{drop-cons}
use lib.Pow.{pow_pos, pow-lt}
use borrow.Author.Tests.{eqb-true, eq-eqb}
use native.Mathlib.Nat.{not-suc-le-zero}
use Rattle.std.proofs.lemmas.List.{take_more, take_rest}
use Rattle.table.specs.Lists.{any, all, increasing}
use Rattle.table.proofs.Basics.{and_r, or_r, or_e, false_test, same_test, any_e, any_i, all_e, either, at_in, or_assoc}
use Rattle.table.proofs.Increasing.{first_below, rest_increasing}
use Rattle.table.proofs.Searching.{any_left, any_start, any_end, rises_left, rises_is, rises_start, rises_end, increasing_rises}
use Rattle.panel.specs.Masks.{on}
use Rattle.panel.specs.Rules.{rule_word, head, valid_rule, covers, contains, narrows}
use Rattle.panel.proofs.Masks.{bit, same_bits, on_or, on_bit, bit_on, add_on, add_other, bit_of_zero, off_zero}
use Rattle.panel.proofs.Words.{head_up, rule_e, narrows_e, narrows_le, word_fields, must_on_small, must_off_small}
use Rattle.prime.specs.Sheets.{antichain, good_sheet, pulls_in, apply_sheet}
use Rattle.prime.proofs.Apply.{apply_lt, apply_on}

-- ---- rules in order

-- the word of a rule of a panel
pub rule_small : (n w : ℕ) → n ≤ 10 → (b : Bool) → b ≡ valid_rule n w → b ≡ true → w < 16777216
unfolding rule_word
rule_small n w l b eb e =
    let r = rule_e n w (sym eb ∙ e) in
    omega (arith, r.head_lt, word_fields w, must_on_small w, must_off_small w)

-- the words from k on are rules that rise from lo on
pub rules_left : ℕ → ℕ → List ℕ → ℕ → Bool
rules_left n lo s k = rises_left (valid_rule n) (λ w. w) lo s k

pub rules_start : (n : ℕ) (s : List ℕ) → (all (valid_rule n) s && increasing s) ≡ rules_left n 0 s 0
unfolding rules_left
rules_start n s =
    ap (λ (z : Bool). all (valid_rule n) s && z) (increasing_rises s)
    ∙ rises_is (valid_rule n) (λ w. w) s ∙ rises_start (valid_rule n) (λ w. w) s

pub rules_step : (n lo : ℕ) (s : List ℕ) (k : ℕ) → k < length s
    → rules_left n lo s k ≡ (valid_rule n (get_or s k 0) && (leb lo (get_or s k 0) && rules_left n (get_or s k 0 + 1) s (k + 1)))
unfolding rules_left rises_left
rules_step n lo s k l = rw (drop-cons s k 0 l, add-one (get_or s k 0), add-one k) refl

pub rules_end : (n lo : ℕ) (s : List ℕ) (k : ℕ) → length s ≤ k → rules_left n lo s k ≡ true
unfolding rules_left
rules_end n lo s k l = rises_end (valid_rule n) (λ w. w) lo s k l

-- what the pass of `are_rules` rests on
pub ruleset rules_pass = (rules_start, rules_step, rules_end, rule_small)

-- ---- a rule that a later one narrows

-- where the head changes, no rule of the head follows
none_after : (w r : ℕ) (rest : List ℕ) → w < r → increasing (r ∷ rest) ≡ true → (head r ≡ head w → ⊥) → any (λ x. narrows x w) (r ∷ rest) ≡ false
none_after w r rest l i f =
    false_test (any (λ x. narrows x w) (r ∷ rest)) (λ e.
    let k = any_e (λ x. narrows x w) (r ∷ rest) e in
    f (meet k.0 (narrows_e k.0 w k.2).one_head (Memᴰ.cases_cons k.1)))
  where
    meet : (x : ℕ) → head x ≡ head w → (x ≡ r) ⊎ Mem x rest → head r ≡ head w
    meet x e (inl p) = sym (ap head p) ∙ e
    meet x e (inr m) = omega (arith, head_up w r (omega arith), head_up r x (omega (arith, first_below r rest i m)))

pub increasing_drop : (k : ℕ) (s : List ℕ) → increasing s ≡ true → increasing (drop k s) ≡ true
increasing_drop zero s i = i
increasing_drop (suc k) [] i = refl
increasing_drop (suc k) (x ∷ s) i = increasing_drop k s (rest_increasing x s i)

-- whether a word from k on narrows w
pub narrowed_left : ℕ → List ℕ → ℕ → Bool
narrowed_left w rest k = any_left (λ r. narrows r w) rest k

pub narrowed_start : (w : ℕ) (rest : List ℕ) → any (λ r. narrows r w) rest ≡ narrowed_left w rest 0
unfolding narrowed_left
narrowed_start w rest = any_start (λ r. narrows r w) rest

pub narrowed_past : (w : ℕ) (rest : List ℕ) (k : ℕ) → increasing (w ∷ rest) ≡ true → k < length rest → (head (get_or rest k 0) ≡ head w → ⊥) → narrowed_left w rest k ≡ false
unfolding narrowed_left any_left
narrowed_past w rest k i l f =
    rw (drop-cons rest k 0 l) (
    none_after w (get_or rest k 0) (drop (suc k) rest) (first_below w rest i (at_in rest k l))
    (rw (drop-cons rest k 0 l) at (increasing_drop k rest (rest_increasing w rest i))) f)

pub narrowed_step : (w : ℕ) (rest : List ℕ) (k : ℕ) → k < length rest → head (get_or rest k 0) ≡ head w
    → narrowed_left w rest k ≡ (contains (get_or rest k 0) w || narrowed_left w rest (k + 1))
unfolding narrowed_left any_left narrows
narrowed_step w rest k l e = rw (drop-cons rest k 0 l, add-one k) (simp (eq-eqb (head (get_or rest k 0)) (head w) e))

pub narrowed_end : (w : ℕ) (rest : List ℕ) (k : ℕ) → length rest ≤ k → narrowed_left w rest k ≡ false
unfolding narrowed_left
narrowed_end w rest k l = any_end (λ r. narrows r w) rest k l

-- what the pass of `is_narrowed` rests on, but for its start
pub ruleset narrowed_pass = (narrowed_past, narrowed_step, narrowed_end)

-- ---- no rule narrows another

-- in an increasing list only a later rule can narrow an earlier one
later_narrows : (w : ℕ) (s : List ℕ) → increasing (w ∷ s) ≡ true → any (λ r. narrows w r || narrows r w) s ≡ any (λ r. narrows r w) s
later_narrows w s i =
    same_test (any (λ r. narrows w r || narrows r w) s) (any (λ r. narrows r w) s)
    (λ e. let k = any_e (λ r. narrows w r || narrows r w) s e in any_i (λ r. narrows r w) k.1 (side k.0 k.1 (or_e (narrows w k.0) (narrows k.0 w) k.2)))
    (λ e. let k = any_e (λ r. narrows r w) s e in any_i (λ r. narrows w r || narrows r w) k.1 (or_r (narrows w k.0) (narrows k.0 w) k.2))
  where
    side : (r : ℕ) → Mem r s → (narrows w r ≡ true) ⊎ (narrows r w ≡ true) → narrows r w ≡ true
    side r m (inl p) = absurd (omega (arith, narrows_le w r p, first_below w s i m))
    side r m (inr p) = p

-- so only those behind the first need be looked at
module _ (s : List ℕ) (i : increasing s ≡ true) (l : 1 ≤ length s) where
  abbrev behind : List ℕ
  behind = take (length s - 1) (drop 1 s)

  first_and_behind : (s : List ℕ) → 1 ≤ length s → s ≡ get_or s 0 0 ∷ take (length s - 1) (drop 1 s)
  first_and_behind [] h = absurd (not-suc-le-zero h)
  first_and_behind (x ∷ xs) h = ap (λ (t : List ℕ). x ∷ t) (sym (take_rest (x ∷ xs) 1))

  rising : increasing (get_or s 0 0 ∷ behind) ≡ true
  rising = ap increasing (sym (first_and_behind s l)) ∙ i

  pub behind_increases : increasing behind ≡ true
  behind_increases = rest_increasing (get_or s 0 0) behind rising

  step : antichain s ≡ (not (any (λ r. narrows r (get_or s 0 0)) behind) && antichain behind)
  step = ap antichain (first_and_behind s l) ∙ ap (λ (z : Bool). not z && antichain behind) (later_narrows (get_or s 0 0) behind rising)

  module _ (b : Bool) (e : b ≡ any (λ r. narrows r (get_or s 0 0)) behind) where
    pub antichain_no : b ≡ true → antichain s ≡ false
    antichain_no p = step ∙ ap (λ (z : Bool). not z && antichain behind) (sym e ∙ p)

    pub antichain_more : b ≡ false → antichain s ≡ antichain behind
    antichain_more p = step ∙ ap (λ (z : Bool). not z && antichain behind) (sym e ∙ p)

-- ---- a good sheet

pub good_tests : (n : ℕ) (s : List ℕ) → good_sheet n s ≡ ((all (valid_rule n) s && increasing s) && antichain s)
unfolding good_sheet
good_tests n s = sym (and_assoc (all (valid_rule n) s) (increasing s) (antichain s))

pub rules_increase : (n : ℕ) (s : List ℕ) → (all (valid_rule n) s && increasing s) ≡ true → increasing s ≡ true
rules_increase n s e = and_r (all (valid_rule n) s) (increasing s) e

-- ---- apply

pub rule_head : (n : ℕ) (s : List ℕ) (k : ℕ) → all (valid_rule n) s ≡ true → k < length s → head (get_or s k 0) < n
rule_head n s k v l = (rule_e n (get_or s k 0) (all_e (valid_rule n) (at_in s k l) v)).head_lt

-- the bit of the relay h, and no other
one_bit : (h g : ℕ) → on g (2 ^ h) ≡ eqb h g
one_bit h g = same_test (on g (2 ^ h)) (eqb h g) (λ p. eq-eqb h g (go p (either (eqb h g)))) (λ e. subst (λ (x : ℕ). on x (2 ^ h) ≡ true) (eqb-true h g e) this)
  where
    plain : 0 + 2 ^ h ≡ 2 ^ h
    plain = omega arith

    this : on h (2 ^ h) ≡ true
    this = bit_on h (2 ^ h) (sym (ap (bit h) plain) ∙ add_on h 0 (bit_of_zero h))

    go : on g (2 ^ h) ≡ true → (eqb h g ≡ true) ⊎ (eqb h g ≡ true → ⊥) → h ≡ g
    go p (inl e) = eqb-true h g e
    go p (inr f) = absurd (omega (arith, on_bit g (2 ^ h) p, ap (bit g) plain, add_other g h 0 (λ e. f (eq-eqb h g (sym e))) (bit_of_zero h), bit_of_zero g))

any_push : (f : ℕ → Bool) (s : List ℕ) (w : ℕ) → any f (s ++ w ∷ []) ≡ (any f s || f w)
any_push f [] w = or-false (f w)
any_push f (x ∷ s) w = ap (λ (z : Bool). f x || z) (any_push f s w) ∙ sym (or_assoc (f x) (any f s) (f w))

pub apply_empty : (n : ℕ) (x : ℕ) → apply_sheet n [] x ≡ 0
unfolding pulls_in
apply_empty n x = same_bits n (apply_sheet n [] x) 0 (apply_lt n [] x) (pow_pos n) (λ h l. apply_on n [] x h l ∙ sym (off_zero h))

-- one rule more, that does not cover the state
pub apply_past : (n : ℕ) (s : List ℕ) (k x : ℕ) → k < length s → covers (get_or s k 0) x ≡ false → apply_sheet n (take (k + 1) s) x ≡ apply_sheet n (take k s) x
unfolding pulls_in
apply_past n s k x l c =
    same_bits n (apply_sheet n (take (k + 1) s) x) (apply_sheet n (take k s) x) (apply_lt n (take (k + 1) s) x) (apply_lt n (take k s) x)
    (λ h lh.
    apply_on n (take (k + 1) s) x h lh
    ∙ rw (take_more s k 0 l) (any_push (λ w. eqb (head w) h && covers w x) (take k s) (get_or s k 0) ∙ simp (c, and-false, or-false))
    ∙ sym (apply_on n (take k s) x h lh))

-- and one that does
pub apply_pull : (n : ℕ) (s : List ℕ) (k x : ℕ) → all (valid_rule n) s ≡ true → k < length s → covers (get_or s k 0) x ≡ true
    → apply_sheet n (take (k + 1) s) x ≡ bit_or (apply_sheet n (take k s) x) (2 ^ head (get_or s k 0))
unfolding pulls_in
apply_pull n s k x v l c =
    same_bits n (apply_sheet n (take (k + 1) s) x) (bit_or (apply_sheet n (take k s) x) (2 ^ head w)) (apply_lt n (take (k + 1) s) x)
    (or_lt n (apply_sheet n (take k s) x) (2 ^ head w) (apply_lt n (take k s) x) (pow-lt (rule_head n s k v l)))
    (λ h lh.
    apply_on n (take (k + 1) s) x h lh
    ∙ rw (take_more s k 0 l) (any_push (λ r. eqb (head r) h && covers r x) (take k s) w ∙ simp (c, and-true))
    ∙ ap₂ (λ (a b : Bool). a || b) (sym (apply_on n (take k s) x h lh)) (sym (one_bit (head w) h))
    ∙ sym (on_or h (apply_sheet n (take k s) x) (2 ^ head w)))
  where
    w : ℕ
    w = get_or s k 0

-- what the pass of `apply_rules` rests on
pub ruleset apply_pass = (apply_empty, apply_past, apply_pull, rule_head)
