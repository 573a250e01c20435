-- Transition words: the codec both ways, and what validity says.
use mathlib.Core.Path.{◌≡◌}
use mathlib.Core.Bool.{true}
use Prim.Native.Nat.{ℕ, ◌^◌, ◌≤◌, ◌<◌}
use native.Mathlib.Nat.{lt_of_lt_of_le}
use native.Mathlib.Omega.{arith}
use lib.Dec.{ltb}
use lib.Pow.{pow_mono}
use borrow.Author.Tests.{ltb-true, lt-ltb}
use Rattle.table.proofs.Basics.{and_l, and_r, and_i}
use Rattle.panel.specs.Transitions.{transition_word, state, next, valid_transition}

-- ---- the word of a transition, and back

pub state_word : (i j : ℕ) → j < 1024 → state (transition_word i j) ≡ i
unfolding state transition_word
state_word i j l = omega arith

pub next_word : (i j : ℕ) → j < 1024 → next (transition_word i j) ≡ j
unfolding next transition_word
next_word i j l = omega arith

pub transition_fields : (t : ℕ) → transition_word (state t) (next t) ≡ t
unfolding transition_word state next
transition_fields t = omega arith

-- a word is determined by state and successor
pub same_transition : (t u : ℕ) → state t ≡ state u → next t ≡ next u → t ≡ u
same_transition t u a b = cc (transition_fields t, transition_fields u)

-- ---- words in order are states in order

pub state_up : (t u : ℕ) → t ≤ u → state t ≤ state u
unfolding state
state_up t u l = omega arith

pub word_up : (t u : ℕ) → state t < state u → t < u
unfolding state
word_up t u l = omega arith

-- ---- validity

pub record Transition (n t : ℕ) : Type 0 where
  pub state_lt : state t < 2 ^ n
  pub next_lt : next t < 2 ^ n

pub transition_e : (n t : ℕ) → valid_transition n t ≡ true → Transition n t
unfolding valid_transition
transition_e n t e = record {
  state_lt = ltb-true (state t) (2 ^ n) (and_l (ltb (state t) (2 ^ n)) (ltb (next t) (2 ^ n)) e);
  next_lt = ltb-true (next t) (2 ^ n) (and_r (ltb (state t) (2 ^ n)) (ltb (next t) (2 ^ n)) e);
}

pub transition_i : (n t : ℕ) → Transition n t → valid_transition n t ≡ true
unfolding valid_transition
transition_i n t k =
    and_i (ltb (state t) (2 ^ n)) (ltb (next t) (2 ^ n)) (lt-ltb (state t) (2 ^ n) k.state_lt) (lt-ltb (next t) (2 ^ n) k.next_lt)

-- the word of a state and a successor of the panel is valid, and no other pair's is
pub word_valid : (n i j : ℕ) → n ≤ 10 → i < 2 ^ n → j < 2 ^ n → valid_transition n (transition_word i j) ≡ true
word_valid n i j s li lj =
    let lj' : j < 1024 = lt_of_lt_of_le lj (pow_mono s) in
    transition_i n (transition_word i j) (record { state_lt = rw (state_word i j lj') li; next_lt = rw (next_word i j lj') lj })
