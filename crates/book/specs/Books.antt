-- Books: transition words in order of their states, each state once; what a word is to a book, and the book of a list of words.
use Rattle.std.specs.Prelude.{◌≡◌, Bool, true, false, not, ◌&&◌, cond, ℕ, eqb, ltb}
use mathlib.Core.List.{List, [], ◌∷◌, Memᴰ as Mem}
use Rattle.table.specs.Lists.{any, all, has, insert}
use Rattle.panel.specs.Transitions.{state, next, valid_transition}

-- ---- good books

-- each state is below all that follow it
abbrev pub states_up : List ℕ → Bool
states_up [] = true
states_up (t ∷ b) = all (λ u. ltb (state t) (state u)) b && states_up b

-- transition words valid for n, states strictly increasing
unfoldable pub good_book : ℕ → List ℕ → Bool
good_book n b = all (valid_transition n) b && states_up b

-- ---- a word and a book, or any list of words

-- two words contradict each other: one state, and different successors
unfoldable pub differ : ℕ → ℕ → Bool
differ t u = eqb (state t) (state u) && not (eqb (next t) (next u))

-- t is told already: it is one of the words (code 1)
unfoldable pub told : ℕ → List ℕ → Bool
told t b = has t b

-- t is against the words: one of them contradicts it (code 7)
unfoldable pub against : ℕ → List ℕ → Bool
against t b = any (differ t) b

-- no word of the list is against the list: no state is recorded with two different successors
abbrev pub OneNext : List ℕ → Type 0
OneNext ts = (t : ℕ) → Mem t ts → against t ts ≡ false

-- ---- making a book

-- the book with the word t: in its place, unless it is told already
unfoldable pub with_word : ℕ → List ℕ → List ℕ
with_word t b = cond (told t b) b (insert t b)

-- the book with all words of a list
abbrev pub with_all : List ℕ → List ℕ → List ℕ
with_all [] b = b
with_all (t ∷ ts) b = with_word t (with_all ts b)

-- the book of a list of words
unfoldable pub book_of : List ℕ → List ℕ
book_of ts = with_all ts []

-- ---- two books

-- some word of b is against c
unfoldable pub clash : List ℕ → List ℕ → Bool
clash b c = any (λ t. against t c) b

-- the words of both books: those of b brought into c
unfoldable pub union : List ℕ → List ℕ → List ℕ
union b c = with_all b c
