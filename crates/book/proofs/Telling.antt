-- A word and a book: when it is told, when it is against the book, and the book with it.
use mathlib.Core.Path.{◌≡◌, refl, sym, ap, ◌∙◌}
use mathlib.Core.Logic.{◌⊎◌, inl, inr}
use mathlib.Core.Bool.{Bool, true, false, not, false≢true, cond}
use mathlib.Core.List.Memᴰ
use mathlib.Core.List.{List, Memᴰ as Mem}
use Prim.Native.Nat.{ℕ, suc, ◌≤◌}
use native.Mathlib.Omega.{arith}
use lib.Dec.{eqb}
use lib.ListN.{length}
use borrow.Author.Tests.{eqb-true, eqb-false, eq-eqb}
use Rattle.table.specs.Lists.{insert, increasing}
use Rattle.table.proofs.Basics.{and_l, and_r, and_i, not_i, not_e, any_e, any_i, same_test, false_test}
use Rattle.table.proofs.Counting.{has_e, has_i}
use Rattle.table.proofs.Inserting.{insert_e, insert_new, insert_old, insert_length, insert_increasing}
use Rattle.panel.specs.Transitions.{state, next, valid_transition}
use Rattle.panel.proofs.Transitions.{Transition, transition_e, same_transition}
use Rattle.book.specs.Books.{states_up, good_book, differ, told, against, OneNext, with_word}
use Rattle.book.proofs.Books.{book_e, book_i, insert_up, one_word}

-- ---- two words

pub differ_e : (t u : ℕ) → differ t u ≡ true → (state t ≡ state u) × (next t ≡ next u → ⊥)
unfolding differ
differ_e t u e = (
  eqb-true (state t) (state u) (and_l (eqb (state t) (state u)) (not (eqb (next t) (next u))) e),
  λ p. not_e (eqb (next t) (next u)) (and_r (eqb (state t) (state u)) (not (eqb (next t) (next u))) e) (eq-eqb (next t) (next u) p),
)

pub differ_i : (t u : ℕ) → state t ≡ state u → (next t ≡ next u → ⊥) → differ t u ≡ true
unfolding differ
differ_i t u e f =
    and_i (eqb (state t) (state u)) (not (eqb (next t) (next u))) (eq-eqb (state t) (state u) e)
    (not_i (eqb (next t) (next u)) (λ p. f (eqb-true (next t) (next u) p)))

-- two words of one state that do not differ are the same
pub differ_not : (t u : ℕ) → differ t u ≡ false → state t ≡ state u → t ≡ u
differ_not t u f e = go (eqb (next t) (next u)) refl
  where
    go : (a : Bool) → eqb (next t) (next u) ≡ a → t ≡ u
    go true p = same_transition t u e (eqb-true (next t) (next u) p)
    go false p = absurd (false≢true (sym f ∙ differ_i t u e (eqb-false (next t) (next u) p)))

-- ---- told, and against

module _ (t : ℕ) (b : List ℕ) where
  pub told_e : told t b ≡ true → Mem t b
  unfolding told
  told_e e = has_e t b e

  pub told_i : Mem t b → told t b ≡ true
  unfolding told
  told_i m = has_i t b m

  pub untold : told t b ≡ false → Mem t b → ⊥
  untold e m = false≢true (sym e ∙ told_i m)

  pub against_e : against t b ≡ true → (u : ℕ) × Mem u b × (differ t u ≡ true)
  unfolding against
  against_e e = any_e (differ t) b e

  pub against_i : (u : ℕ) → Mem u b → differ t u ≡ true → against t b ≡ true
  unfolding against
  against_i u m e = any_i (differ t) m e

  -- a word that is not against the book has the successor that the book has for its state
  pub not_against : against t b ≡ false → (u : ℕ) → Mem u b → state t ≡ state u → t ≡ u
  not_against e u m p = differ_not t u (false_test (differ t u) (λ d. false≢true (sym e ∙ against_i u m d))) p

  -- so one that is not told either is of a new state
  pub new_state : told t b ≡ false → against t b ≡ false → (u : ℕ) → Mem u b → state u ≡ state t → ⊥
  new_state e f u m p = untold e (Memᴰ.cast (not_against f u m (sym p)) m)

  -- a word that a book tells is not against it
  pub told_agrees : states_up b ≡ true → told t b ≡ true → against t b ≡ false
  told_agrees up e =
      false_test (against t b) (λ p.
      let k = against_e p in
      let d = differ_e t k.0 k.2 in
      d.1 (ap next (one_word b up t k.0 (told_e e) k.1 d.0)))

-- the members alone decide both
module _ (t : ℕ) (b c : List ℕ) (f : (u : ℕ) → Mem u b → Mem u c) (g : (u : ℕ) → Mem u c → Mem u b) where
  pub told_members : told t b ≡ told t c
  told_members = same_test (told t b) (told t c) (λ e. told_i t c (f t (told_e t b e))) (λ e. told_i t b (g t (told_e t c e)))

  pub against_members : against t b ≡ against t c
  against_members =
      same_test (against t b) (against t c)
      (λ e. let k = against_e t b e in against_i t c k.0 (f k.0 k.1) k.2)
      (λ e. let k = against_e t c e in against_i t b k.0 (g k.0 k.1) k.2)

-- ---- lists in which no word is against the others

pub one_next_e : (ts : List ℕ) → OneNext ts → (t u : ℕ) → Mem t ts → Mem u ts → state t ≡ state u → next t ≡ next u
one_next_e ts h t u m k e = ap next (not_against t ts (h t m) u k e)

pub one_next_i : (ts : List ℕ) → ((t u : ℕ) → Mem t ts → Mem u ts → state t ≡ state u → next t ≡ next u) → OneNext ts
one_next_i ts h t m =
    false_test (against t ts) (λ p.
    let k = against_e t ts p in
    let d = differ_e t k.0 k.2 in
    d.1 (h t k.0 m k.1 d.0))

-- ---- the book with a word

module _ (t : ℕ) (b : List ℕ) where
  -- told: the book stays
  pub with_told : told t b ≡ true → with_word t b ≡ b
  unfolding with_word
  with_told e = ap (λ (a : Bool). cond a b (insert t b)) e

  -- not told: it is put in its place
  pub with_untold : told t b ≡ false → with_word t b ≡ insert t b
  unfolding with_word
  with_untold e = ap (λ (a : Bool). cond a b (insert t b)) e

  pub with_longer : told t b ≡ false → length (with_word t b) ≡ suc (length b)
  with_longer e = ap length (with_untold e) ∙ insert_length t b

  pub with_few : length (with_word t b) ≤ suc (length b)
  with_few = go (told t b) refl
    where
      go : (a : Bool) → told t b ≡ a → length (with_word t b) ≤ suc (length b)
      go true e = omega (arith, ap length (with_told e))
      go false e = omega (arith, with_longer e)

  pub with_e : (u : ℕ) → Mem u (with_word t b) → (u ≡ t) ⊎ Mem u b
  unfolding with_word
  with_e u m = go (told t b) m
    where
      go : (a : Bool) → Mem u (cond a b (insert t b)) → (u ≡ t) ⊎ Mem u b
      go true k = inr k
      go false k = insert_e t b u k

  pub with_i : (u : ℕ) → (u ≡ t) ⊎ Mem u b → Mem u (with_word t b)
  unfolding with_word
  with_i u m = go (told t b) refl m
    where
      go : (a : Bool) → told t b ≡ a → (u ≡ t) ⊎ Mem u b → Mem u (cond a b (insert t b))
      go true e (inl q) = Memᴰ.cast q (told_e t b e)
      go true e (inr k) = k
      go false e (inl q) = Memᴰ.cast q (insert_new t b)
      go false e (inr k) = insert_old t k

  pub with_increasing : increasing b ≡ true → increasing (with_word t b) ≡ true
  unfolding with_word
  with_increasing up = go (told t b) refl
    where
      go : (a : Bool) → told t b ≡ a → increasing (cond a b (insert t b)) ≡ true
      go true e = up
      go false e = insert_increasing t b up (untold t b e)

  -- with a word that is not against it a book stays a book
  pub with_up : states_up b ≡ true → against t b ≡ false → states_up (with_word t b) ≡ true
  unfolding with_word
  with_up up f = go (told t b) refl
    where
      go : (a : Bool) → told t b ≡ a → states_up (cond a b (insert t b)) ≡ true
      go true e = up
      go false e = insert_up t b up (new_state t b e f)

pub with_good : (n t : ℕ) (b : List ℕ) → good_book n b ≡ true → valid_transition n t ≡ true → against t b ≡ false → good_book n (with_word t b) ≡ true
with_good n t b g v f =
    let k = book_e n b g in
    book_i n (with_word t b) (record { valid = λ u m. one k.valid u (with_e t b u m); rising = with_up t b k.rising f })
  where
    one : ((u : ℕ) → Mem u b → Transition n u) → (u : ℕ) → (u ≡ t) ⊎ Mem u b → Transition n u
    one h u (inl p) = rw p (transition_e n t v)
    one h u (inr m) = h u m
