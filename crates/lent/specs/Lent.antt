-- A take through a lent session: its answer, the session's five numbers and every word of both slices, for all inputs.
use Rattle.std.specs.Prelude.{◌≡◌, List, ℕ}
use Rattle.answers.specs.declared.Answer.{Answer}
use Rattle.sessions.specs.declared.Session.{Session}
use Rattle.sessions.specs.Sessions.{session_answer, session_taken, session_book, session_words}

-- what take does: its answer r, and the session and both slices before and after
pub record TakesLent (s : Session) (book sheet : List ℕ) (i j : ℕ) (s' : Session) (book' sheet' : List ℕ) (r : Answer) : Type 0 where
  pub answer : r ≡ session_answer s book sheet i j
  pub session : s' ≡ session_taken s book sheet i j
  pub book_words : book' ≡ session_book s book sheet i j
  pub sheet_words : sheet' ≡ session_words s book sheet i j
