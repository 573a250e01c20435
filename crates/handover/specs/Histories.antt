-- A bench session from its start on: the calls made through it, the transitions that they took, and what they left.
use Rattle.std.specs.Prelude.{◌≡◌, List, [], ◌∷◌, ℕ}
use Rattle.panel.specs.Transitions.{transition_word}
use Rattle.answers.specs.declared.Answer.{Answer}
use Rattle.joining.specs.Joining.{Piece, piece}
use Rattle.sessions.specs.declared.Session.{Session}
use Rattle.sessions.specs.declared.Outcome.{Outcome}
use Rattle.sessions.specs.Sessions.{Starts, Takes}
use Rattle.lent.specs.Lent.{TakesLent}

-- the slices of a session, with its counts
abbrev pub tables : Session → List ℕ → List ℕ → Piece
tables s book sheet = piece book s.book_count sheet s.sheet_count

-- a take of the transition from i to j through the session s left the session s' and answered a: the session goes by value, or is lent
pub data TakeThrough (s : Session) (book sheet : List ℕ) (i j : ℕ) : Session → List ℕ → List ℕ → Answer → Type 0 where
  by_value : (book' sheet' : List ℕ) (r : Outcome) → Takes s book sheet i j book' sheet' r → TakeThrough s book sheet i j r.session book' sheet' r.answer
  lent : (s' : Session) (book' sheet' : List ℕ) (a : Answer) → TakesLent s book sheet i j s' book' sheet' a → TakeThrough s book sheet i j s' book' sheet' a

-- a session on n relays so far: it has taken the transitions ts, the last one first, and its last call left s and the two slices.
-- Each take is given the session and the slices as the call before it left them. A start is lent no book: the words in it are the caller's own until a take is done.
pub data History (n : ℕ) : List ℕ → Session → List ℕ → List ℕ → Type 0 where
  -- a start that was not refused
  started : (book sheet sheet' : List ℕ) (r : Outcome) → Starts n sheet sheet' r → r.answer.code ≡ 0 → History n [] r.session book sheet'
  -- a take that was done
  took : (ts : List ℕ) (s s' : Session) (book sheet book' sheet' : List ℕ) (i j : ℕ) (a : Answer)
      → History n ts s book sheet → TakeThrough s book sheet i j s' book' sheet' a → a.code ≡ 0 → History n (transition_word i j ∷ ts) s' book' sheet'
  -- a take that was refused, or told of a transition taken before (code 1)
  stayed : (ts : List ℕ) (s s' : Session) (book sheet book' sheet' : List ℕ) (i j : ℕ) (a : Answer)
      → History n ts s book sheet → TakeThrough s book sheet i j s' book' sheet' a → (a.code ≡ 0 → ⊥) → History n ts s' book' sheet'
