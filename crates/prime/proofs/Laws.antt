-- What take and join make of the sheets of transitions, and the laws of join.
use mathlib.Core.Path.{◌≡◌, refl, sym, ap, ap₂, ◌∙◌, subst}
use mathlib.Core.Logic.{◌⊎◌, inl, inr}
use mathlib.Core.Bool.{Bool, true, ◌&&◌, and_comm, and_assoc, and_self, and-true}
use mathlib.Core.List.Memᴰ
use mathlib.Core.List.Memᴰ.{head as here}
use mathlib.Core.List.Memᴰ.{tail as there}
use mathlib.Core.List.{List, [], ◌∷◌, ◌++◌, Memᴰ as Mem, append-nil}
use Prim.Native.Nat.{ℕ, suc, ◌+◌, ◌*◌, ◌≤◌, ◌<◌}
use native.Mathlib.Omega.{arith}
use lib.Dec.{lit<}
use lib.Pow.{pow_pos}
use Rattle.panel.specs.Rules.{head, must_on, must_off, rule_word, covers, narrows, Rule}
use Rattle.panel.specs.Transitions.{state, rests, spared}
use Rattle.prime.specs.Sheets.{consistent, sheet_of, permits, take_sheet, join_sheet, fresh_sheet, take_all}
use Rattle.table.proofs.Basics.{and_l, and_r, and_i, not_i, not_e, passes, same_test, all_e, all_i, each_e, each_i}
use Rattle.table.proofs.Increasing.{each_increasing}
use Rattle.panel.specs.Masks.{within, apart}
use Rattle.panel.proofs.Masks.{eq_within, eq_apart}
use Rattle.panel.proofs.Words.{narrows_e, narrows_i, narrows_covers, narrows_antisym, rule_word_is, head_word, must_on_word, must_off_word}
use Rattle.prime.proofs.Least.{Good, Least, Upward, permits_up, both_up, sheet_unique, sheet_good, sheet_ext, sheet_permits, sheet_is_good}

-- ---- the tests are closed upwards

pub spared_e : (t w : ℕ) → spared t w ≡ true → rests t (head w) ≡ true → covers w (state t) ≡ true → ⊥
unfolding spared
spared_e t w e d c =
    not_e (rests t (head w) && covers w (state t)) e (and_i (rests t (head w)) (covers w (state t)) d c)

pub spared_i : (t w : ℕ) → (rests t (head w) ≡ true → covers w (state t) ≡ true → ⊥) → spared t w ≡ true
unfolding spared
spared_i t w f =
    not_i (rests t (head w) && covers w (state t))
    (λ e. f (and_l (rests t (head w)) (covers w (state t)) e) (and_r (rests t (head w)) (covers w (state t)) e))

-- a rule that is not spared has its head off after t, and covers the state of t
pub hit_e : (t w : ℕ) → (spared t w ≡ true → ⊥) → (rests t (head w) ≡ true) × (covers w (state t) ≡ true)
hit_e t w f =
    (passes (rests t (head w)) (λ d. f (spared_i t w (λ p q. d p))), passes (covers w (state t)) (λ c. f (spared_i t w (λ p q. c q))))

pub spared_up : (n t : ℕ) → Upward n (spared t)
spared_up n t w r rw' rr p e =
    spared_i t w (λ d c. spared_e t r e (subst (λ (h : ℕ). rests t h ≡ true) (narrows_e w r p).one_head d) (narrows_covers w r (state t) p c))

-- a set of transitions is consistent with w if each of them spares w
pub consistent_cons : (t : ℕ) (es : List ℕ) (w : ℕ) → consistent (t ∷ es) w ≡ (spared t w && consistent es w)
unfolding consistent
consistent_cons t es w = refl

pub consistent_nil : (w : ℕ) → consistent [] w ≡ true
unfolding consistent
consistent_nil w = refl

pub consistent_e : (es : List ℕ) (w : ℕ) → consistent es w ≡ true → {t : ℕ} → Mem t es → spared t w ≡ true
unfolding consistent
consistent_e es w e m = all_e (λ t. spared t w) m e

pub consistent_i : (es : List ℕ) (w : ℕ) → ((t : ℕ) → Mem t es → spared t w ≡ true) → consistent es w ≡ true
unfolding consistent
consistent_i es w h = all_i (λ t. spared t w) es h

pub consistent_up : (n : ℕ) (es : List ℕ) → Upward n (consistent es)
consistent_up n es w r rw' rr p e = consistent_i es w (λ t m. spared_up n t w r rw' rr p (consistent_e es r e m))

-- only the members of the list count
pub consistent_members : (es fs : List ℕ) (w : ℕ) → ((t : ℕ) → Mem t es → Mem t fs) → ((t : ℕ) → Mem t fs → Mem t es) → consistent es w ≡ consistent fs w
consistent_members es fs w f g =
    same_test (consistent es w) (consistent fs w)
    (λ e. consistent_i fs w (λ t m. consistent_e es w e (g t m))) (λ e. consistent_i es w (λ t m. consistent_e fs w e (f t m)))

pub consistent_append : (es fs : List ℕ) (w : ℕ) → consistent (es ++ fs) w ≡ (consistent es w && consistent fs w)
consistent_append [] fs w = ap (λ (b : Bool). b && consistent fs w) (sym (consistent_nil w))
consistent_append (t ∷ es) fs w =
    consistent_cons t (es ++ fs) w
    ∙ ap (λ (b : Bool). spared t w && b) (consistent_append es fs w)
    ∙ sym (and_assoc (spared t w) (consistent es w) (consistent fs w))
    ∙ ap (λ (b : Bool). b && consistent fs w) (sym (consistent_cons t es w))

-- ---- the rule of a head with an empty body

head_empty : (h : ℕ) → head (rule_word h 0 0) ≡ h
head_empty h = head_word h 0 0 (lit< tt) (lit< tt)

must_on_empty : (h : ℕ) → must_on (rule_word h 0 0) ≡ 0
must_on_empty h = must_on_word h 0 0 (lit< tt) (lit< tt)

must_off_empty : (h : ℕ) → must_off (rule_word h 0 0) ≡ 0
must_off_empty h = must_off_word h 0 0 (lit< tt) (lit< tt)

empty_rule : (n h : ℕ) → h < n → Rule n (rule_word h 0 0)
empty_rule n h l = record {
  head_lt = rw (head_empty h) l;
  must_on_lt = rw (must_on_empty h) (pow_pos n);
  must_off_lt = rw (must_off_empty h) (pow_pos n);
  disjoint = ap₂ apart (must_on_empty h) (must_off_empty h) ∙ eq_apart 0 0 refl;
}

-- every rule of the head narrows it, and it narrows nothing else
narrows_empty : (w : ℕ) → narrows w (rule_word (head w) 0 0) ≡ true
narrows_empty w = narrows_i w (rule_word (head w) 0 0) (record {
  one_head = sym (head_empty (head w));
  must_on_in = ap (λ (x : ℕ). within x (must_on w)) (must_on_empty (head w)) ∙ eq_within 0 (must_on w) refl;
  must_off_in = ap (λ (x : ℕ). within x (must_off w)) (must_off_empty (head w)) ∙ eq_within 0 (must_off w) refl;
})

empty_narrows : (h r : ℕ) → narrows (rule_word h 0 0) r ≡ true → r ≡ rule_word h 0 0
empty_narrows h r p =
    narrows_antisym r (rule_word h 0 0)
    (subst (λ (k : ℕ). narrows r (rule_word k 0 0) ≡ true) (sym (narrows_e (rule_word h 0 0) r p).one_head ∙ head_empty h) (narrows_empty r)) p

module _ (n : ℕ) (small : n ≤ 10) where
  -- ---- the sheet of a set of transitions

  pub sheet_of_good : (es : List ℕ) → Good n (sheet_of n es)
  unfolding sheet_of
  sheet_of_good es = sheet_good n small (consistent es)

  pub sheet_of_permits : (es : List ℕ) (w : ℕ) → Rule n w → permits (sheet_of n es) w ≡ consistent es w
  unfolding sheet_of
  sheet_of_permits es w rr = sheet_permits n small (consistent es) (consistent_up n es) w rr

  pub sheet_of_members : (es fs : List ℕ) → ((t : ℕ) → Mem t es → Mem t fs) → ((t : ℕ) → Mem t fs → Mem t es) → sheet_of n es ≡ sheet_of n fs
  unfolding sheet_of
  sheet_of_members es fs f g = sheet_ext n small (consistent es) (consistent fs) (λ w rr. consistent_members es fs w f g)

  -- ---- take

  pub take_good : (s : List ℕ) (t : ℕ) → Good n (take_sheet n s t)
  unfolding take_sheet
  take_good s t = sheet_good n small _

  pub take_permits : (s : List ℕ) (t w : ℕ) → Rule n w → permits (take_sheet n s t) w ≡ (permits s w && spared t w)
  unfolding take_sheet
  take_permits s t w rr =
      sheet_permits n small (λ v. permits s v && spared t v)
      (both_up n (permits s) (spared t) (permits_up n s) (spared_up n t)) w rr

  -- T1: taking a transition into the sheet of a set gives the sheet of the set with the transition
  pub take_sheet_of : (es : List ℕ) (t : ℕ) → take_sheet n (sheet_of n es) t ≡ sheet_of n (t ∷ es)
  unfolding take_sheet sheet_of
  take_sheet_of es t =
      sheet_ext n small (λ w. permits (sheet_of n es) w && spared t w) (consistent (t ∷ es))
      (λ w rr.
      ap (λ (b : Bool). b && spared t w) (sheet_of_permits es w rr)
      ∙ and_comm (consistent es w) (spared t w)
      ∙ sym (consistent_cons t es w))

  -- and taking a transition of the set once more changes nothing
  pub take_again : (es : List ℕ) (t : ℕ) → Mem t es → take_sheet n (sheet_of n es) t ≡ sheet_of n es
  take_again es t m = take_sheet_of es t ∙ sheet_of_members (t ∷ es) es (λ u k. old u (Memᴰ.cases_cons k)) (λ u k. there k)
    where
      old : (u : ℕ) → (u ≡ t) ⊎ Mem u es → Mem u es
      old u (inl e) = Memᴰ.cast e m
      old u (inr k) = k

  -- ---- join

  pub join_good : (s t : List ℕ) → Good n (join_sheet n s t)
  unfolding join_sheet
  join_good s t = sheet_good n small _

  pub join_permits : (s t : List ℕ) (w : ℕ) → Rule n w → permits (join_sheet n s t) w ≡ (permits s w && permits t w)
  unfolding join_sheet
  join_permits s t w rr =
      sheet_permits n small (λ v. permits s v && permits t v) (both_up n (permits s) (permits t) (permits_up n s) (permits_up n t)) w rr

  -- T2: the join of the sheets of two sets is the sheet of their union
  pub join_sheet_of : (es fs : List ℕ) → join_sheet n (sheet_of n es) (sheet_of n fs) ≡ sheet_of n (es ++ fs)
  unfolding join_sheet sheet_of
  join_sheet_of es fs =
      sheet_ext n small (λ w. permits (sheet_of n es) w && permits (sheet_of n fs) w) (consistent (es ++ fs))
      (λ w rr. ap₂ (λ (a b : Bool). a && b) (sheet_of_permits es w rr) (sheet_of_permits fs w rr) ∙ sym (consistent_append es fs w))

  -- T3: the laws of join. The first two need no good sheets
  pub join_comm : (s t : List ℕ) → join_sheet n s t ≡ join_sheet n t s
  unfolding join_sheet
  join_comm s t = sheet_ext n small (λ w. permits s w && permits t w) (λ w. permits t w && permits s w) (λ w rr. and_comm (permits s w) (permits t w))

  pub join_assoc : (s t u : List ℕ) → join_sheet n (join_sheet n s t) u ≡ join_sheet n s (join_sheet n t u)
  unfolding join_sheet
  join_assoc s t u =
      sheet_ext n small (λ w. permits (join_sheet n s t) w && permits u w) (λ w. permits s w && permits (join_sheet n t u) w)
      (λ w rr.
      ap (λ (b : Bool). b && permits u w) (join_permits s t w rr)
      ∙ and_assoc (permits s w) (permits t w) (permits u w)
      ∙ ap (λ (b : Bool). permits s w && b) (sym (join_permits t u w rr)))

  pub join_self : (s : List ℕ) → Good n s → join_sheet n s s ≡ s
  unfolding join_sheet
  join_self s g =
      sheet_ext n small (λ w. permits s w && permits s w) (permits s) (λ w rr. and_self (permits s w)) ∙ sheet_is_good n small s g

  -- taking a transition is joining with its own sheet
  pub join_take : (s : List ℕ) (t : ℕ) → join_sheet n s (sheet_of n (t ∷ [])) ≡ take_sheet n s t
  unfolding join_sheet take_sheet
  join_take s t =
      sheet_ext n small (λ w. permits s w && permits (sheet_of n (t ∷ [])) w) (λ w. permits s w && spared t w)
      (λ w rr. ap (λ (b : Bool). permits s w && b) (sheet_of_permits (t ∷ []) w rr ∙ consistent_cons t [] w ∙ only w))
    where
      only : (w : ℕ) → (spared t w && consistent [] w) ≡ spared t w
      only w = ap (λ (b : Bool). spared t w && b) (consistent_nil w) ∙ and-true (spared t w)

  -- ---- fresh

  -- it is the sheet of no transitions
  pub fresh_sheet_of : fresh_sheet n ≡ sheet_of n []
  unfolding fresh_sheet sheet_of
  fresh_sheet_of =
      sheet_unique n small (consistent []) (fresh_sheet n)
      (each_increasing (λ h. h * 1048576) (λ i j l. omega arith) n _ (λ h l. refl)
      (λ h x l m. bounds h x (Memᴰ.eq_of_singleton m)))
      (λ w m. let k = each_e n (λ h. rule_word h 0 0 ∷ []) m in smallest k.0 w k.1 (Memᴰ.eq_of_singleton k.2))
      (λ w rr l. each_i n (λ h. rule_word h 0 0 ∷ []) (head w) rr.head_lt
      (here (sym (l.smallest (rule_word (head w) 0 0) (empty_rule n (head w) rr.head_lt) (narrows_empty w) (consistent_nil (rule_word (head w) 0 0))))))
    where
      bounds : (h x : ℕ) → x ≡ rule_word h 0 0 → (h * 1048576 ≤ x) × (x < suc h * 1048576)
      bounds h x e = let e' : x ≡ h * 1048576 + 0 * 1024 + 0 = e ∙ rule_word_is h 0 0 in omega arith

      smallest : (h w : ℕ) → h < n → w ≡ rule_word h 0 0 → Rule n w × Least n (consistent []) w
      smallest h w l e = subst (λ (v : ℕ). Rule n v × Least n (consistent []) v) (sym e) (
        empty_rule n h l,
        record {
          holds = consistent_nil (rule_word h 0 0);
          smallest = λ r rr p t. empty_narrows h r p;
        },
      )

  -- it permits everything
  pub fresh_permits : (w : ℕ) → Rule n w → permits (fresh_sheet n) w ≡ true
  fresh_permits w rr = ap (λ (s : List ℕ). permits s w) fresh_sheet_of ∙ sheet_of_permits [] w rr ∙ consistent_nil w

  -- and the unit of join
  pub join_fresh : (s : List ℕ) → Good n s → join_sheet n s (fresh_sheet n) ≡ s
  unfolding join_sheet
  join_fresh s g =
      sheet_ext n small (λ w. permits s w && permits (fresh_sheet n) w) (permits s)
      (λ w rr. ap (λ (b : Bool). permits s w && b) (fresh_permits w rr) ∙ and-true (permits s w))
      ∙ sheet_is_good n small s g

  -- ---- learn: fresh, and then take for each word

  take_all_sheet_of : (es ts : List ℕ) → take_all n (sheet_of n es) ts ≡ sheet_of n (es ++ ts)
  unfolding take_all
  take_all_sheet_of es [] = ap (sheet_of n) (sym (append-nil es))
  take_all_sheet_of es (t ∷ ts) =
      ap (λ (s : List ℕ). take_all n s ts) (take_sheet_of es t)
      ∙ take_all_sheet_of (t ∷ es) ts
      ∙ sheet_of_members (t ∷ es ++ ts) (es ++ t ∷ ts) (λ u k. forth u (Memᴰ.cases_cons k)) (λ u k. back u (Memᴰ.append_cases es k))
    where
      forth : (u : ℕ) → (u ≡ t) ⊎ Mem u (es ++ ts) → Mem u (es ++ t ∷ ts)
      forth u (inl e) = Memᴰ.append_right es (here e)
      forth u (inr k) = more (Memᴰ.append_cases es k)
        where
          more : Mem u es ⊎ Mem u ts → Mem u (es ++ t ∷ ts)
          more (inl a) = Memᴰ.append_left (t ∷ ts) a
          more (inr a) = Memᴰ.append_right es (there a)

      back : (u : ℕ) → Mem u es ⊎ Mem u (t ∷ ts) → Mem u (t ∷ es ++ ts)
      back u (inl a) = there (Memᴰ.append_left ts a)
      back u (inr a) = last (Memᴰ.cases_cons a)
        where
          last : (u ≡ t) ⊎ Mem u ts → Mem u (t ∷ es ++ ts)
          last (inl e) = here e
          last (inr k) = there (Memᴰ.append_right es k)

  pub learn_sheet_of : (ts : List ℕ) → take_all n (fresh_sheet n) ts ≡ sheet_of n ts
  learn_sheet_of ts = ap (λ (s : List ℕ). take_all n s ts) fresh_sheet_of ∙ take_all_sheet_of [] ts
