-- The union of two books: when they clash, and that without a clash it is a good book.
use mathlib.Core.Path.{◌≡◌, refl, sym, ap, ◌∙◌}
use mathlib.Core.Logic.{◌⊎◌, inl, inr, ⊎_elim}
use mathlib.Core.Bool.{true, false, not, false≢true}
use mathlib.Core.List.Memᴰ.{head as here}
use mathlib.Core.List.Memᴰ.{tail as there}
use mathlib.Core.List.{List, [], ◌∷◌, Memᴰ as Mem}
use Prim.Native.Nat.{ℕ, ◌+◌, ◌≤◌, ◌<◌}
use native.Mathlib.Nat.{le_of_lt}
use native.Mathlib.Omega.{arith}
use lib.ListN.{length}
use lib.Arith.{lt_of_le-ne}
use lib.Dec.{ltb}
use borrow.Author.Tests.{lt-ltb}
use Rattle.table.specs.Lists.{all, increasing}
use Rattle.table.proofs.Basics.{and_i, not_i, not_e, any_e, any_i, all_i, same_test, false_test, passes}
use Rattle.table.proofs.Increasing.{first_below, rest_increasing}
use Rattle.panel.specs.Transitions.{state, next}
use Rattle.panel.proofs.Transitions.{state_up}
use Rattle.book.specs.Books.{states_up, good_book, differ, against, clash, union}
use Rattle.book.specs.Clashes.{Clash}
use Rattle.book.proofs.Books.{book_e, book_i, one_word, book_increasing}
use Rattle.book.proofs.Telling.{differ_e, differ_i, differ_not, against_e, against_i}
use Rattle.book.proofs.BookOf.{all_e, all_new, all_old, all_increasing, all_few}

-- ---- the words of both

pub union_e : (b c : List ℕ) (t : ℕ) → Mem t (union b c) → Mem t b ⊎ Mem t c
unfolding union
union_e b c t m = all_e b c t m

pub union_l : (b c : List ℕ) (t : ℕ) → Mem t b → Mem t (union b c)
unfolding union
union_l b c t m = all_new b c t m

pub union_r : (b c : List ℕ) (t : ℕ) → Mem t c → Mem t (union b c)
unfolding union
union_r b c t m = all_old b c t m

pub union_increasing : (b c : List ℕ) → increasing c ≡ true → increasing (union b c) ≡ true
unfolding union
union_increasing b c up = all_increasing b c up

pub union_few : (b c : List ℕ) → length (union b c) ≤ length b + length c
unfolding union
union_few b c = all_few b c

-- ---- what a clash is

pub clash_e : (b c : List ℕ) → clash b c ≡ true → (t : ℕ) × (u : ℕ) × Clash b c t u
unfolding clash
clash_e b c e =
    let r = any_e (λ t. against t c) b e in
    let k = against_e r.0 c r.2 in
    let d = differ_e r.0 k.0 k.2 in
    (r.0, k.0, record { in_left = r.1; in_right = k.1; one_state = d.0; apart = d.1 })

pub clash_i : (b c : List ℕ) (t u : ℕ) → Clash b c t u → clash b c ≡ true
unfolding clash
clash_i b c t u k =
    any_i (λ v. against v c) k.in_left (against_i t c u k.in_right (differ_i t u k.one_state k.apart))

-- ---- the union without a clash

-- an increasing list with one word for a state has its states in order
states_up_lem : (s : List ℕ) → increasing s ≡ true → ((t u : ℕ) → Mem t s → Mem u s → state t ≡ state u → t ≡ u) → states_up s ≡ true
states_up_lem [] i h = refl
states_up_lem (t ∷ s) i h =
    and_i (all (λ u. ltb (state t) (state u)) s) (states_up s)
    (all_i (λ u. ltb (state t) (state u)) s (λ u m. lt-ltb (state t) (state u) (above u m (first_below t s i m))))
    (states_up_lem s (rest_increasing t s i) (λ u v m k. h u v (there m) (there k)))
  where
    above : (u : ℕ) → Mem u s → t < u → state t < state u
    above u m l = lt_of_le-ne (state_up t u (le_of_lt l)) (λ p. omega (arith, h t u (here refl) (there m) p))

module _ (b c : List ℕ) (p : states_up b ≡ true) (q : states_up c ≡ true) where
  -- without a clash the states of the union are in order
  pub union_up : clash b c ≡ false → states_up (union b c) ≡ true
  union_up e =
      states_up_lem (union b c) (union_increasing b c (book_increasing c q))
      (λ t u m k. side t u (union_e b c t m) (union_e b c u k))
    where
      cross : (t u : ℕ) → Mem t b → Mem u c → state t ≡ state u → t ≡ u
      cross t u m k s =
          differ_not t u (false_test (differ t u) (λ d.
          let f = differ_e t u d in
          false≢true (sym e ∙ clash_i b c t u (record { in_left = m; in_right = k; one_state = f.0; apart = f.1 })))) s

      side : (t u : ℕ) → Mem t b ⊎ Mem t c → Mem u b ⊎ Mem u c → state t ≡ state u → t ≡ u
      side t u (inl m) (inl k) s = one_word b p t u m k s
      side t u (inl m) (inr k) s = cross t u m k s
      side t u (inr m) (inl k) s = sym (cross u t k m (sym s))
      side t u (inr m) (inr k) s = one_word c q t u m k s

  -- two books clash exactly if the states of their union are not in order
  pub clash_is : clash b c ≡ not (states_up (union b c))
  clash_is =
      same_test (clash b c) (not (states_up (union b c)))
      (λ e. not_i (states_up (union b c)) (λ up. let r = clash_e b c e in meet up r.0 r.1 r.2))
      (λ e. passes (clash b c) (λ f. not_e (states_up (union b c)) e (union_up (false_test (clash b c) f))))
    where
      meet : states_up (union b c) ≡ true → (t u : ℕ) → Clash b c t u → ⊥
      meet up t u k = k.apart (ap next (one_word (union b c) up t u (union_l b c t k.in_left) (union_r b c u k.in_right) k.one_state))

-- the union of two good books without a clash is a good book
pub good_union : (n : ℕ) (b c : List ℕ) → good_book n b ≡ true → good_book n c ≡ true → clash b c ≡ false → good_book n (union b c) ≡ true
good_union n b c g h e =
    let j = book_e n b g in
    let k = book_e n c h in
    book_i n (union b c) (record {
      valid = λ t m. ⊎_elim (j.valid t) (k.valid t) (union_e b c t m);
      rising = union_up b c j.rising k.rising e;
    })
