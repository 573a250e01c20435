-- The codes 1, 7 and 8: one law for each way out, and what is known where none is given.
use mathlib.Core.Path.{◌≡◌, sym, ap, ap₂, ◌∙◌}
use mathlib.Core.Bool.{true, false}
use mathlib.Core.List.{List}
use Prim.Native.Nat.{ℕ, suc, ◌≤◌, ◌<◌}
use native.Mathlib.Omega.{arith}
use lib.Dec.{eqb, ltb}
use lib.ListN.{length, get_or}
use borrow.Author.Tests.{ltb-false, lt-ltb, le-ltb, eq-eqb, ne_eqb}
use Rattle.panel.specs.Transitions.{transition_word, state, next}
use Rattle.panel.proofs.Transitions.{state_word, next_word}
use Rattle.book.specs.Books.{states_up, told, against, with_word}
use Rattle.book.specs.Finding.{find_state}
use Rattle.std.specs.Prelude.{Result, Ok, Err}
use Rattle.book.proofs.Telling.{with_longer}
use Rattle.book.proofs.Finding.{stands_of_at, told_of_at, against_of_at, told_of_gap, against_of_gap}
use Rattle.answers.proofs.Laws.{refuse_none}
use Rattle.inner.specs.Booking.{booking_code}

module _ (i j room : ℕ) (book : List ℕ) (lj : j < 1024) (up : states_up book ≡ true) (r : Result ℕ ℕ) (er : r ≡ find_state i book) where
  abbrev t : ℕ
  t = transition_word i j

  at_t : (k : ℕ) → r ≡ Ok k → find_state (state t) book ≡ Ok k
  at_t k e = ap (λ (x : ℕ). find_state x book) (state_word i j lj) ∙ sym er ∙ e

  gap_t : (k : ℕ) → r ≡ Err k → find_state (state t) book ≡ Err k
  gap_t k e = ap (λ (x : ℕ). find_state x book) (state_word i j lj) ∙ sym er ∙ e

  pub booking_in : (k : ℕ) → r ≡ Ok k → k < length book
  booking_in k e = (stands_of_at i book k (sym er ∙ e)).inside

  told_is : (k : ℕ) → r ≡ Ok k → (x : ℕ) → x ≡ next (get_or book k 0) → told t book ≡ eqb x j
  told_is k e x ex = told_of_at t book up k (at_t k e) ∙ ap₂ eqb (sym ex) (next_word i j lj)

  pub booking_same : (k : ℕ) → r ≡ Ok k → (x : ℕ) → x ≡ next (get_or book k 0) → x ≡ j → 1 ≡ booking_code t room book
  unfolding booking_code
  booking_same k e x ex q = sym (simp (told_is k e x ex ∙ eq-eqb x j q))

  pub booking_other : (k : ℕ) → r ≡ Ok k → (x : ℕ) → x ≡ next (get_or book k 0) → (x ≡ j → ⊥) → 7 ≡ booking_code t room book
  unfolding booking_code
  booking_other k e x ex f =
      sym (simp (told_is k e x ex ∙ ne_eqb x j f, against_of_at t book up k (at_t k e) (λ p. f (ex ∙ p ∙ next_word i j lj))))

  with_one : (k : ℕ) → r ≡ Err k → length (with_word t book) ≡ suc (length book)
  with_one k e = with_longer t book (told_of_gap t book up k (gap_t k e))

  pub booking_full : (k : ℕ) → r ≡ Err k → room ≤ length book → 8 ≡ booking_code t room book
  unfolding booking_code
  booking_full k e l =
      sym (simp (told_of_gap t book up k (gap_t k e), against_of_gap t book up k (gap_t k e), lt-ltb room (length (with_word t book)) (omega (arith, with_one k e))))

  pub booking_ok : (k : ℕ) → r ≡ Err k → length book < room → 0 ≡ booking_code t room book
  unfolding booking_code
  booking_ok k e l =
      sym (simp (told_of_gap t book up k (gap_t k e), against_of_gap t book up k (gap_t k e), le-ltb room (length (with_word t book)) (omega (arith, with_one k e))))

pub booking_none : (t room : ℕ) (book : List ℕ) → booking_code t room book ≡ 0 → (told t book ≡ false) × (against t book ≡ false) × (length (with_word t book) ≤ room)
unfolding booking_code
booking_none t room book e =
    let a = refuse_none (told t book) 0 _ e in
    let b = refuse_none (against t book) 6 _ a.1 in
    let c = refuse_none (ltb room (length (with_word t book))) 7 _ b.1 in
    (a.0, b.0, ltb-false room (length (with_word t book)) c.0)
