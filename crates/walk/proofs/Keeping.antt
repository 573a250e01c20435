-- The walk as a chain: the rules of a head in turn, those that are kept, and that they are the sheet's.
use mathlib.Core.Path.{◌≡◌, refl, sym, ap, ap₂, ◌∙◌, subst}
use mathlib.Core.Logic.{◌⊎◌, inl, inr}
use mathlib.Core.Bool.{Bool, true, false, not, ◌&&◌, ◌||◌, cond, false≢true}
use mathlib.Core.List.Memᴰ
use mathlib.Core.List.Memᴰ.{head as here}
use mathlib.Core.List.Memᴰ.{tail as there}
use mathlib.Core.List.{List, [], ◌∷◌, Memᴰ as Mem}
use Prim.Native.Nat.{ℕ, zero, suc, ◌+◌, ◌*◌, ◌≤◌, ◌<◌}
use native.Mathlib.Nat.{eq-or-lt_of_le, add-zero, zero-add}
use native.Mathlib.Omega.{arith}
use lib.Dec.{ltb}
use lib.ListN.{length}
use borrow.Author.Tests.{ltb-true, ltb-false}
use Rattle.std.proofs.Math.Bool.{or_comm}
use Rattle.std.specs.List.{list_any, range_with_len, filter as std_filter}
use Rattle.std.specs.Fn.{CalledAt}
use Rattle.std.specs.Iterator.{YieldsFirst}
use Rattle.std.specs.Iterator.Adapters.{filter_source, filter_callee, filter_steps}
use Rattle.std.specs.declared.iter.Filter.{Filter}
use Rattle.std.proofs.lemmas.Iterator.{YieldsList}
use Rattle.std.proofs.lemmas.Iterator.Consumers.{YieldsList-at, YieldsList-from_first, YieldsList-from_filter}
use denote.Param.Members.{Mut}
use denote.Ref.{Bor}
use Rattle.spans.specs.Touching.{both_touch}
use Rattle.spans.specs.Parts.{over}
use Rattle.spans.proofs.Touching.{both_touch_up}
use Rattle.spans.proofs.Overwriting.{nothing_over}
use Rattle.table.specs.Lists.{any, filter, cons_if, increasing, between}
use Rattle.table.proofs.Basics.{or_e, or_assoc, filter_e, filter_i}
use Rattle.table.proofs.Increasing.{cons_increasing, first_below, rest_increasing, filter_increasing, increasing_unique}
use Rattle.table.proofs.Between.{between_e, between_i, between_increasing, between_unique, between_none}
use Rattle.panel.specs.Rules.{head, Rule, rules, of_head}
use Rattle.panel.proofs.Words.{head_range, rules_e, rules_i, rules_increasing}
use Rattle.prime.specs.Sheets.{least, sheet_where, good_sheet}
use Rattle.prime.proofs.Least.{Upward, good_e, least_e, least_i, member_e, member_i, sheet_increasing}
use Rattle.walk.specs.declared.Rules.{Rules}
use Rattle.spans.specs.Steps.{Spot, Next}
use Rattle.spans.specs.Fewer.{smaller, without, fewer}
use Rattle.spans.proofs.Fewer.{least_not, least_hit, least_done}
use Rattle.spans.proofs.Steps.{rule_of_spot}

-- ---- the library's words for lists are std's

pub any_is : (f : ℕ → Bool) (s : List ℕ) → list_any f s ≡ any f s
any_is f [] = refl
any_is f (x ∷ xs) = ap (λ (b : Bool). f x || b) (any_is f xs)

filter_is : (f : ℕ → Bool) (s : List ℕ) → std_filter f s ≡ filter f s
filter_is f [] = refl
filter_is f (x ∷ xs) = go (filter_is f xs) (f x)
  where
    go : std_filter f xs ≡ filter f xs → (b : Bool) → cond b (x ∷ std_filter f xs) (std_filter f xs) ≡ cons_if b x (filter f xs)
    go e true = ap (λ (t : List ℕ). x ∷ t) e
    go e false = e

-- ---- the relays below k in turn

any_last : (f : ℕ → Bool) (k a : ℕ) → list_any f (range_with_len a (suc k)) ≡ (list_any f (range_with_len a k) || f (a + k))
any_last f zero a = or_comm (f a) false ∙ ap f (sym (add-zero a))
any_last f (suc k) a =
    ap (λ (b : Bool). f a || b) (any_last f k (a + 1)) ∙ sym (or_assoc (f a) (list_any f (range_with_len (a + 1) k)) (f (a + 1 + k)))
    ∙ ap (λ (v : ℕ). (f a || list_any f (range_with_len (a + 1) k)) || f v) (omega arith)

pub fewer_is : (q : ℕ → Bool) (w k : ℕ) → list_any (λ v. smaller q w (without w v)) (range_with_len 0 k) ≡ fewer k q w
unfolding fewer
fewer_is q w zero = refl
fewer_is q w (suc k) = any_last (λ v. smaller q w (without w v)) k 0 ∙ ap₂ (λ (b : Bool) (v : ℕ). b || smaller q w (without w v)) (fewer_is q w k) (zero-add k)

-- ---- a rule is kept where it is least

module _ (n : ℕ) (small : n ≤ 10) (q : ℕ → Bool) (up : Upward n q) (w : ℕ) (rr : Rule n w) where
  fewer_not_least : (k : ℕ) → k ≤ n → fewer k q w ≡ true → false ≡ least n q w
  unfolding fewer
  fewer_not_least zero l e = absurd (false≢true e)
  fewer_not_least (suc k) l e = go (λ p. fewer_not_least k (omega arith) p) (or_e (fewer k q w) (smaller q w (without w k)) e)
    where
      go : (fewer k q w ≡ true → false ≡ least n q w) → (fewer k q w ≡ true) ⊎ (smaller q w (without w k) ≡ true) → false ≡ least n q w
      go rec (inl p) = rec p
      go rec (inr p) = least_hit n small q up w rr k (omega arith) (without w k) refl true (sym p) refl

  kept_least : (q w && not (fewer n q w)) ≡ least n q w
  kept_least = go (q w) refl (fewer n q w) refl
    where
      go : (b : Bool) → b ≡ q w → (c : Bool) → c ≡ fewer n q w → (b && not c) ≡ least n q w
      go false e c f = least_not n small q up w rr false e refl
      go true e true f = fewer_not_least n (omega arith) (sym f)
      go true e false f = least_done n small q up w rr true e refl n (omega arith) (omega arith) (sym f)

-- ---- the rules of a head in turn

-- what an iterator over rules has left
abbrev pub left : Rules → List ℕ
left s = between s.at s.end (rules s.n)

pub head_in : (n end w : ℕ) → end ≤ n * 1048576 → w < end → head w < n
head_in n end w inside l = omega (arith, (head_range (head w) w refl).0)

module _ (n : ℕ) (small : n ≤ 10) (end : ℕ) where
  pub rules_more : (w r : ℕ) → Spot n w → end ≤ n * 1048576 → w < end → Next n w r
      → between w end (rules n) ≡ w ∷ between r end (rules n)
  rules_more w r sp inside l nx =
      between_unique w end (rules n) (w ∷ between r end (rules n)) (rules_increasing n small)
      (cons_increasing w (between r end (rules n)) (λ y m. omega (arith, nx.above, (between_e r end (rules n) y m).1)) (between_increasing r end (rules n) (rules_increasing n small)))
      (λ x m a b. at x m b (eq-or-lt_of_le a))
      (λ x m. back x (Memᴰ.cases_cons m))
    where
      at : (x : ℕ) → Mem x (rules n) → x < end → (w ≡ x) ⊎ (w < x) → Mem x (w ∷ between r end (rules n))
      at x m b (inl e) = here (sym e)
      at x m b (inr a) = there (between_i r end (rules n) x m (above (ltb x r) refl) b)
        where
          above : (t : Bool) → ltb x r ≡ t → r ≤ x
          above true e = absurd (nx.none x (rules_e n small x m) a (ltb-true x r e))
          above false e = ltb-false x r e

      here_rule : Rule n w
      here_rule = rule_of_spot n w sp (head_in n end w inside l)

      back : (x : ℕ) → (x ≡ w) ⊎ Mem x (between r end (rules n)) → Mem x (rules n) × (w ≤ x) × (x < end)
      back x (inl e) = rw e (rules_i n w here_rule, omega arith, l)
      back x (inr m) = let k = between_e r end (rules n) x m in (k.0, omega (arith, k.1, nx.above), k.2)

  pub rules_none : (w : ℕ) → end ≤ w → between w end (rules n) ≡ []
  rules_none w l = between_none w end (rules n) (rules_increasing n small) (λ x m a b. omega (arith, l, a, b))

-- the words of an increasing list between two words are few
few : (s : List ℕ) → increasing s ≡ true → (lo hi : ℕ) → lo ≤ hi → ((x : ℕ) → Mem x s → (lo ≤ x) × (x < hi)) → length s + lo ≤ hi
few [] e lo hi l f = omega arith
few (x ∷ xs) e lo hi l f =
    let k = f x (here refl) in
    omega (arith, k.0, few xs (rest_increasing x xs e) (x + 1) hi (omega (arith, k.1)) (λ y m. (omega (arith, first_below x xs e m), (f y (there m)).1)))

pub head_few : (h : ℕ) (s : List ℕ) → increasing s ≡ true → length (of_head h s) ≤ 1048576
unfolding of_head
head_few h s e =
    let lo : ℕ = h * 1048576 in
    let hi : ℕ = (h + 1) * 1048576 in
    omega (arith, few (between lo hi s) (between_increasing lo hi s e) lo hi (omega arith) (λ x m. let k = between_e lo hi s x m in (k.1, k.2)))

-- ---- those that are kept are the sheet's

module _ (n : ℕ) (small : n ≤ 10) (q : ℕ → Bool) (up : Upward n q) (h : ℕ) where
  pub kept_head : std_filter (λ w. q w && not (fewer n q w)) (of_head h (rules n)) ≡ of_head h (sheet_where n q)
  unfolding of_head
  kept_head =
      let lo : ℕ = h * 1048576 in
      let hi : ℕ = (h + 1) * 1048576 in
      let kept : ℕ → Bool = λ w. q w && not (fewer n q w) in
      let inner = between_increasing lo hi (rules n) (rules_increasing n small) in
      filter_is kept (between lo hi (rules n))
      ∙ increasing_unique (filter kept (between lo hi (rules n))) (between lo hi (sheet_where n q))
      (filter_increasing kept (between lo hi (rules n)) inner) (between_increasing lo hi (sheet_where n q) (sheet_increasing n small q))
      (λ x m.
      let k = filter_e kept (between lo hi (rules n)) m in
      let b = between_e lo hi (rules n) x k.0 in
      let rr = rules_e n small x b.0 in
      between_i lo hi (sheet_where n q) x (member_i n small q x rr (least_e n small q x (sym (kept_least n small q up x rr) ∙ k.1))) b.1 b.2)
      (λ x m.
      let b = between_e lo hi (sheet_where n q) x m in
      let k = member_e n small q x b.0 in
      filter_i kept (between_i lo hi (rules n) x (rules_i n x k.0) b.1 b.2) (kept_least n small q up x k.0 ∙ least_i n small q x k.1))

-- so the chain of both functions gives the words of the sheet that belong to the head
module _ (n : ℕ) (small : n ≤ 10) (a b : List ℕ) (h : ℕ) where
  pub head_road : {F : Type 0} {g : Mut F (Bor ℕ × Unit {0}) Bool} {f : F} (s t : Filter Rules F) (r : Rules) → s ≡ t → filter_source t ≡ r → left r ≡ of_head h (rules n) → filter_callee t ≡ f
      → ((x : ℕ) (y : Bool) (k : F) → CalledAt g f x y k → (k ≡ f) × (y ≡ (both_touch a b x && not (fewer n (both_touch a b) x))))
      → YieldsList (filter_steps (YieldsFirst left) g) (λ x. x) s (of_head h (sheet_where n (both_touch a b)))
  head_road {F} {g} s t r e er el ef calls =
      subst (YieldsList (filter_steps (YieldsFirst left) g) (λ x. x) s) (kept_head n small (both_touch a b) (both_touch_up n a b) h)
      (YieldsList-at e (YieldsList-from_filter g (λ w. both_touch a b w && not (fewer n (both_touch a b) w)) (YieldsList-from_first (λ x. x) left _ (ap left er ∙ el)) ef calls))

pub over_none : (xs s : List ℕ) → 0 ≡ length xs → s ≡ over xs s
over_none xs s e = (nothing_over xs s e).1

pub sorted : (n : ℕ) (s : List ℕ) → good_sheet n s ≡ true → increasing s ≡ true
sorted n s e = (good_e n s e).sorted
