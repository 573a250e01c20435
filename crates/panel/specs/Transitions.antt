-- Transitions: a state and its successor as one word, and what a transition says against a rule.
use Rattle.std.specs.Prelude.{ℕ, ◌+◌, ◌*◌, ◌/◌, ◌%◌, ◌^◌, Bool, not, ◌&&◌, ltb}
use Rattle.panel.specs.Masks.{on}
use Rattle.panel.specs.Rules.{head, covers}

-- the word of the transition from the state i to its successor j: I × 1,024 + J
-- (where the relays observed stand between them, it is a word of Codec too: `word_of i k j`, with `high`, `middle` and `low` to read it)
unfoldable pub transition_word : ℕ → ℕ → ℕ
transition_word i j = i * 1024 + j

unfoldable pub state : ℕ → ℕ
state t = t / 1024

-- the successor
unfoldable pub next : ℕ → ℕ
next t = t % 1024

-- the relays that the recorder could read after the transition: today all that a panel may have
unfoldable pub observed : ℕ → ℕ
observed t = 1023

-- t is the word of a transition of a panel with n relays
unfoldable pub valid_transition : ℕ → ℕ → Bool
valid_transition n t = ltb (state t) (2 ^ n) && ltb (next t) (2 ^ n)

-- the relay h rests after t: it was observed, and is off in the successor
unfoldable pub rests : ℕ → ℕ → Bool
rests t h = on h (observed t) && not (on h (next t))

-- t says nothing against the rule w: its head does not rest after t, or its body does not cover the state
unfoldable pub spared : ℕ → ℕ → Bool
spared t w = not (rests t (head w) && covers w (state t))
