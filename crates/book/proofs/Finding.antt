-- Where a state stands in a book: what `find_state` answers, and what its answer says of the book.
use mathlib.Core.Path.{◌≡◌, refl, sym, ap, ◌∙◌, subst}
use mathlib.Core.Bool.{Bool, true, false, ◌&&◌}
use mathlib.Core.List.Memᴰ
use mathlib.Core.List.Memᴰ.{head as here}
use mathlib.Core.List.Memᴰ.{tail as there}
use mathlib.Core.List.{List, [], ◌∷◌, ◌++◌, Memᴰ as Mem}
use Prim.Native.Nat.{ℕ, zero, suc, ◌+◌, ◌≤◌, ◌<◌}
use native.Mathlib.Nat.{le_of_suc-le-suc, not-suc-le-zero, zero-lt-suc, le_of_eq}
use native.Mathlib.Omega.{arith}
use lib.Dec.{eqb, ltb}
use lib.ListN.{length, take, drop, get_or}
use lib.Seq.{length-take-le}
use borrow.Author.Tests.{ltb-true, lt-ltb, le-ltb, eqb-true, eq-eqb}
use Rattle.table.specs.Lists.{all, insert}
use Rattle.table.specs.Surgery.{one_more_if, Holds}
use Rattle.table.proofs.Basics.{and_l, and_r, all_e, at_in, same_test, false_test}
use Rattle.table.proofs.Tables.{inserted_table}
use Rattle.panel.specs.Transitions.{state, next}
use Rattle.panel.proofs.Transitions.{same_transition}
use Rattle.book.specs.Books.{states_up, told, against, with_word}
use Rattle.book.specs.Finding.{state_place, stands_at, found_if, find_state}
use Rattle.std.specs.Prelude.{Result, Ok, Err}
use Rattle.std.specs.List.Sorted.{IsSearchInRange, IsBinarySearchResult, IsNonDecreasingBy}
use Rattle.std.specs.Ordering.{nat_cmp, ordering_index}
use Rattle.std.proofs.lemmas.Cmp.{ranked}
use Rattle.std.proofs.lemmas.List.Sorted.{IsNonDecreasingBy-from_default}
use Rattle.std.proofs.lemmas.Bool.Decides.{nat_tests}
use Rattle.book.proofs.Books.{one_word}
use Rattle.book.proofs.Telling.{differ_e, differ_i, told_e, told_i, against_e, against_i, with_untold, with_longer}

-- ---- what the answer says of the book

-- the word at k has the state i
pub record Stands (i : ℕ) (b : List ℕ) (k : ℕ) : Type 0 where
  pub inside : k < length b
  pub same : state (get_or b k 0) ≡ i

pub stands_of_at : (i : ℕ) (b : List ℕ) (k : ℕ) → find_state i b ≡ Ok k → Stands i b k
unfolding find_state stands_at
stands_of_at i b k e = go (state_place i b) (stands_at i b (state_place i b)) refl e
  where
    go : (p : ℕ) (t : Bool) → stands_at i b p ≡ t → found_if t p ≡ Ok k → Stands i b k
    go p true s q =
        let z : p ≡ k = cc in
        rw (← z) (record {
          inside = ltb-true p (length b) (and_l (ltb p (length b)) (eqb (state (get_or b p 0)) i) s);
          same = eqb-true (state (get_or b p 0)) i (and_r (ltb p (length b)) (eqb (state (get_or b p 0)) i) s);
        })
    go p false s q = absurd (let z : ◌≡◌ {A = ℕ} 0 1 = cc in omega arith)

-- a word of the state stands at the place of the state
place_of_stands : (i : ℕ) (b : List ℕ) (k : ℕ) → states_up b ≡ true → k < length b → state (get_or b k 0) ≡ i → state_place i b ≡ k
place_of_stands i [] k u l e = absurd (not-suc-le-zero l)
place_of_stands i (t ∷ b) zero u l e = ap (λ (x : Bool). one_more_if x (state_place i b)) (le-ltb (state t) i (le_of_eq (sym e)))
place_of_stands i (t ∷ b) (suc k) u l e =
    let below : state t < i = omega (arith, ltb-true (state t) (state (get_or b k 0)) (all_e (λ v. ltb (state t) (state v)) (at_in b k (le_of_suc-le-suc l)) (and_l (all (λ v. ltb (state t) (state v)) b) (states_up b) u))) in
    ap (λ (x : Bool). one_more_if x (state_place i b)) (lt-ltb (state t) i below)
    ∙ ap suc (place_of_stands i b k (and_r (all (λ v. ltb (state t) (state v)) b) (states_up b) u) (le_of_suc-le-suc l) e)

pub at_of_stands : (i : ℕ) (b : List ℕ) (k : ℕ) → states_up b ≡ true → Stands i b k → find_state i b ≡ Ok k
unfolding find_state stands_at
at_of_stands i b k u s =
    rw (place_of_stands i b k u s.inside s.same, lt-ltb k (length b) s.inside, eq-eqb (state (get_or b k 0)) i s.same)

-- ---- what a search by halving answers

-- the states of a book rise
states_rise : (b : List ℕ) → states_up b ≡ true → (j k : ℕ) → j ≤ k → k < length b → state (get_or b j 0) ≤ state (get_or b k 0)
states_rise [] up j k l h = absurd (not-suc-le-zero h)
states_rise (t ∷ b) up zero zero l h = omega arith
states_rise (t ∷ b) up zero (suc k) l h =
    omega (arith, ltb-true (state t) (state (get_or b k 0)) (all_e (λ v. ltb (state t) (state v)) (at_in b k (le_of_suc-le-suc h)) (and_l (all (λ v. ltb (state t) (state v)) b) (states_up b) up)))
states_rise (t ∷ b) up (suc j) zero l h = absurd (omega arith)
states_rise (t ∷ b) up (suc j) (suc k) l h =
    states_rise b (and_r (all (λ v. ltb (state t) (state v)) b) (states_up b) up) j k (le_of_suc-le-suc l) (le_of_suc-le-suc h)

-- between the lower and the higher states is the place of i
place_between : (i : ℕ) (b : List ℕ) (k : ℕ) → k ≤ length b → ((j : ℕ) → j < k → state (get_or b j 0) < i) → ((j : ℕ) → k ≤ j → j < length b → i < state (get_or b j 0)) → state_place i b ≡ k
place_between i [] k l f g = omega arith
place_between i (t ∷ b) zero l f g = ap (λ (x : Bool). one_more_if x (state_place i b)) (le-ltb (state t) i (omega (arith, g 0 (omega arith) (omega arith))))
place_between i (t ∷ b) (suc k) l f g =
    ap (λ (x : Bool). one_more_if x (state_place i b)) (lt-ltb (state t) i (f 0 (omega arith)))
    ∙ ap suc (place_between i b k (le_of_suc-le-suc l) (λ j h. f (suc j) (omega arith)) (λ j h m. g (suc j) (omega arith) (omega arith)))

gap_between : (i : ℕ) (b : List ℕ) (k : ℕ) → state_place i b ≡ k → (k < length b → i < state (get_or b k 0)) → find_state i b ≡ Err k
unfolding find_state stands_at
gap_between i b k e g =
    rw (
      e,
      false_test (ltb k (length b) && eqb (state (get_or b k 0)) i) (λ p.
          let l = g (ltb-true k (length b) (and_l (ltb k (length b)) (eqb (state (get_or b k 0)) i) p)) in
          omega (arith, l, eqb-true (state (get_or b k 0)) i (and_r (ltb k (length b)) (eqb (state (get_or b k 0)) i) p))),
    )

pub searched : (i : ℕ) (b : List ℕ) → states_up b ≡ true → (r : Result ℕ ℕ) → IsSearchInRange r (length b) → IsBinarySearchResult (λ t. nat_cmp (state t) i) b r → r ≡ find_state i b
searched i b up (Ok k) l e = sym (at_of_stands i b k up (record { inside = l; same = ranked _ i _ (sym (e 0)) }))
searched i b up (Err k) l e =
    let rise : IsNonDecreasingBy (λ t. ordering_index (nat_cmp (state t) i)) b = IsNonDecreasingBy-from_default (λ t. ordering_index (nat_cmp (state t) i)) b 0 (λ j m le lt. let h = states_rise b up j m le lt in grind (arith, nat_tests)) in
    let parted = e rise in
    let above : (j : ℕ) → k ≤ j → j < length b → i < state (get_or b j 0) = λ j le lt. ranked _ i _ (sym (parted.1 j 0 le lt)) in
    sym (gap_between i b k (place_between i b k l (λ j lt. ranked _ i _ (sym (parted.0 j 0 (omega arith) lt))) above) (above k (omega arith)))

-- ---- what is found of a word

-- a word of the list stands at some place of it
at_of_in : {u : ℕ} {b : List ℕ} → Mem u b → (k : ℕ) × (k < length b) × (get_or b k 0 ≡ u)
at_of_in (here {xs = b} e) = (0, zero-lt-suc (length b), sym e)
at_of_in (there m) = let r = at_of_in m in (suc r.0, omega (arith, r.1), r.2)

-- a state that has a word is found
pub at_of_word : (b : List ℕ) → states_up b ≡ true → (u : ℕ) → Mem u b → (k : ℕ) × (find_state (state u) b ≡ Ok k)
at_of_word b up u m = let r = at_of_in m in (r.0, at_of_stands (state u) b r.0 up (record { inside = r.1; same = ap state r.2 }))

-- a state that is not found has no word
pub none_of_gap : (i : ℕ) (b : List ℕ) (k : ℕ) → states_up b ≡ true → find_state i b ≡ Err k → (u : ℕ) → Mem u b → state u ≡ i → ⊥
none_of_gap i b k up e u m p = let r = at_of_word b up u m in go r.0 (ap (λ (j : ℕ). find_state j b) (sym p) ∙ r.1)
  where
    go : (j : ℕ) → find_state i b ≡ Ok j → ⊥
    go j q = let z : ◌≡◌ {A = ℕ} 0 1 = cc in omega arith

-- the word that is found is the only one of its state
pub only_of_at : (i : ℕ) (b : List ℕ) (k : ℕ) → states_up b ≡ true → find_state i b ≡ Ok k → (u : ℕ) → Mem u b → state u ≡ i → u ≡ get_or b k 0
only_of_at i b k up e u m p =
    let s = stands_of_at i b k e in
    one_word b up u (get_or b k 0) m (at_in b k s.inside) (p ∙ sym s.same)

-- ---- told, and against, at the place of the state

module _ (t : ℕ) (b : List ℕ) (up : states_up b ≡ true) where
  -- where the state is found, the word is told exactly if its successor is there
  pub told_of_at : (k : ℕ) → find_state (state t) b ≡ Ok k → told t b ≡ eqb (next (get_or b k 0)) (next t)
  told_of_at k e =
      let s = stands_of_at (state t) b k e in
      same_test (told t b) (eqb (next (get_or b k 0)) (next t))
      (λ p. eq-eqb (next (get_or b k 0)) (next t) (ap next (sym (only_of_at (state t) b k up e t (told_e t b p) refl))))
      (λ p. told_i t b (Memᴰ.cast (same_transition t (get_or b k 0) (sym s.same) (sym (eqb-true (next (get_or b k 0)) (next t) p))) (at_in b k s.inside)))

  -- and with another successor there, it is against the book
  pub against_of_at : (k : ℕ) → find_state (state t) b ≡ Ok k → (next (get_or b k 0) ≡ next t → ⊥) → against t b ≡ true
  against_of_at k e f =
      let s = stands_of_at (state t) b k e in
      against_i t b (get_or b k 0) (at_in b k s.inside) (differ_i t (get_or b k 0) (sym s.same) (λ p. f (sym p)))

  -- where it is not found, the word is neither
  pub told_of_gap : (k : ℕ) → find_state (state t) b ≡ Err k → told t b ≡ false
  told_of_gap k e = false_test (told t b) (λ p. none_of_gap (state t) b k up e t (told_e t b p) refl)

  pub against_of_gap : (k : ℕ) → find_state (state t) b ≡ Err k → against t b ≡ false
  against_of_gap k e =
      false_test (against t b) (λ p.
      let r = against_e t b p in
      none_of_gap (state t) b k up e r.0 r.1 (sym (differ_e t r.0 r.2).0))

-- ---- a word put into the book

pub put_in : (s : List ℕ) (count t : ℕ) → count ≤ length s → told t (take count s) ≡ false → length (with_word t (take count s)) ≤ length s → count < length s
put_in s count t l f h = omega (arith, with_longer t (take count s) f, length-take-le count s l)

pub put_holds : (s e : List ℕ) (count t : ℕ) → count ≤ length s → told t (take count s) ≡ false → length (with_word t (take count s)) ≤ length s
    → e ≡ insert t (take count s) ++ drop (count + 1) s → Holds e (count + 1) (length s) (with_word t (take count s))
put_holds s e count t l f h q =
    subst (Holds e (count + 1) (length s)) (sym (with_untold t (take count s) f)) (inserted_table s e count t (put_in s count t l f h) q)
