-- Good books: valid words, one for a state, in order.
use mathlib.Core.Path.{◌≡◌, refl, sym, ap, ◌∙◌, subst}
use mathlib.Core.Logic.{◌⊎◌, inl, inr}
use mathlib.Core.Bool.{Bool, true, false, cond}
use mathlib.Core.List.Memᴰ
use mathlib.Core.List.Memᴰ.{head as here}
use mathlib.Core.List.Memᴰ.{tail as there}
use mathlib.Core.List.{List, [], ◌∷◌, Memᴰ as Mem}
use Prim.Native.Nat.{ℕ, ◌≤◌, ◌<◌}
use native.Mathlib.Nat.{le_of_lt}
use native.Mathlib.Omega.{arith}
use lib.Dec.{ltb}
use lib.Arith.{lt_of_le-ne}
use borrow.Author.Tests.{ltb-true, ltb-false, lt-ltb}
use Rattle.table.specs.Lists.{all, insert, increasing}
use Rattle.panel.specs.Transitions.{state, valid_transition}
use Rattle.panel.proofs.Transitions.{Transition, transition_e, transition_i, state_up, word_up}
use Rattle.book.specs.Books.{states_up, good_book}
use Rattle.table.proofs.Basics.{and_l, and_r, and_i, all_e, all_i}
use Rattle.table.proofs.Increasing.{cons_increasing}
use Rattle.table.proofs.Inserting.{insert_e}

-- what a good book is
pub record GoodBook (n : ℕ) (b : List ℕ) : Type 0 where
  pub valid : (t : ℕ) → Mem t b → Transition n t
  pub rising : states_up b ≡ true

pub book_e : (n : ℕ) (b : List ℕ) → good_book n b ≡ true → GoodBook n b
unfolding good_book
book_e n b e = record {
  valid = λ t m. transition_e n t (all_e (valid_transition n) m (and_l (all (valid_transition n) b) (states_up b) e));
  rising = and_r (all (valid_transition n) b) (states_up b) e;
}

pub book_i : (n : ℕ) (b : List ℕ) → GoodBook n b → good_book n b ≡ true
unfolding good_book
book_i n b g =
    and_i (all (valid_transition n) b) (states_up b) (all_i (valid_transition n) b (λ t m. transition_i n t (g.valid t m))) g.rising

-- a word with a new state keeps a book in order
pub insert_up : (t : ℕ) (b : List ℕ) → states_up b ≡ true → ((u : ℕ) → Mem u b → state u ≡ state t → ⊥) → states_up (insert t b) ≡ true
insert_up t [] e f = refl
insert_up t (u ∷ b) e f = go (ltb u t) refl (insert_up t b later (λ v m. f v (there m)))
  where
    test : ℕ → ℕ → Bool
    test x v = ltb (state x) (state v)

    above : all (λ v. ltb (state u) (state v)) b ≡ true
    above = and_l (all (λ v. ltb (state u) (state v)) b) (states_up b) e

    later : states_up b ≡ true
    later = and_r (all (λ v. ltb (state u) (state v)) b) (states_up b) e

    over : (v : ℕ) → Mem v b → state u < state v
    over v m = ltb-true (state u) (state v) (all_e (λ x. ltb (state u) (state x)) m above)

    front : t ≤ u → (v : ℕ) → (v ≡ u) ⊎ Mem v b → ltb (state t) (state v) ≡ true
    front l v (inl p) =
        lt-ltb (state t) (state v)
        (subst (λ (x : ℕ). state t < state x) (sym p)
        (lt_of_le-ne (state_up t u (omega arith)) (λ q. f u (here refl) (sym q))))
    front l v (inr m) =
        lt-ltb (state t) (state v) (omega (arith, over v m, state_up t u (omega arith)))

    back : u ≤ t → (v : ℕ) → (v ≡ t) ⊎ Mem v b → ltb (state u) (state v) ≡ true
    back l v (inl p) =
        lt-ltb (state u) (state v) (subst (λ (x : ℕ). state u < state x) (sym p) (lt_of_le-ne (state_up u t l) (λ q. f u (here refl) q)))
    back l v (inr m) = lt-ltb (state u) (state v) (over v m)

    go : (a : Bool) → ltb u t ≡ a → states_up (insert t b) ≡ true → states_up (cond a (u ∷ insert t b) (t ∷ u ∷ b)) ≡ true
    go false p ih =
        and_i (all (λ v. ltb (state t) (state v)) (u ∷ b)) (states_up (u ∷ b))
        (all_i (λ v. ltb (state t) (state v)) (u ∷ b) (λ v m. front (ltb-false u t p) v (Memᴰ.cases_cons m))) e
    go true p ih =
        and_i (all (λ v. ltb (state u) (state v)) (insert t b)) (states_up (insert t b))
        (all_i (λ v. ltb (state u) (state v)) (insert t b) (λ v m. back (le_of_lt (ltb-true u t p)) v (insert_e t b v m))) ih

-- a state has one word in a book
pub one_word : (b : List ℕ) → states_up b ≡ true → (t u : ℕ) → Mem t b → Mem u b → state t ≡ state u → t ≡ u
one_word [] e t u mt mu p = absurd (Memᴰ.not-nil mt)
one_word (x ∷ b) e t u mt mu p =
    go (Memᴰ.cases_cons mt) (Memᴰ.cases_cons mu) (one_word b (and_r (all (λ v. ltb (state x) (state v)) b) (states_up b) e) t u)
  where
    over : (v : ℕ) → Mem v b → state x < state v
    over v m = ltb-true (state x) (state v) (all_e (λ y. ltb (state x) (state y)) m (and_l (all (λ v. ltb (state x) (state v)) b) (states_up b) e))

    go : (t ≡ x) ⊎ Mem t b → (u ≡ x) ⊎ Mem u b → (Mem t b → Mem u b → state t ≡ state u → t ≡ u) → t ≡ u
    go (inl a) (inl c) rec = a ∙ sym c
    go (inl a) (inr m) rec = absurd (omega (arith, over u m, ap state a, p))
    go (inr m) (inl c) rec = absurd (omega (arith, over t m, ap state c, p))
    go (inr m) (inr k) rec = rec m k p

-- the words of a book are increasing, as its states are
pub book_increasing : (b : List ℕ) → states_up b ≡ true → increasing b ≡ true
book_increasing [] e = refl
book_increasing (t ∷ b) e =
    cons_increasing t b
    (λ u m. word_up t u (ltb-true (state t) (state u) (all_e (λ v. ltb (state t) (state v)) m (and_l (all (λ v. ltb (state t) (state v)) b) (states_up b) e))))
    (book_increasing b (and_r (all (λ v. ltb (state t) (state v)) b) (states_up b) e))
