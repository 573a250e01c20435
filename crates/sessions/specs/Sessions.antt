-- A bench session: what start and take answer, the session after them, and every word of the lent slices, for all inputs.
use Rattle.std.specs.Prelude.{◌≡◌, Bool, not, ◌&&◌, List, ℕ, ◌+◌, ◌≤◌, eqb, leb, length}
use Rattle.answers.specs.declared.Answer.{Answer}
use Rattle.calls.specs.Fresh.{fresh_code, fresh_answer, fresh_words}
use Rattle.calls.specs.Take.{take_answer, take_book, take_words}
use Rattle.sessions.specs.declared.Session.{Session}
use Rattle.sessions.specs.declared.Outcome.{Outcome}
use Rattle.answers.specs.Answers.{if_done}

-- ---- start

-- no session: five zeros
abbrev pub no_session : Session
no_session = record { n = 0; book_count = 0; sheet_count = 0; struck = 0; added = 0 }

-- a session on the fresh sheet of n relays
abbrev pub fresh_session : ℕ → Session
fresh_session n = record { n = n; book_count = 0; sheet_count = n; struck = 0; added = 0 }

-- the session that start gives; a refused start gives five zeros
unfoldable pub start_session : ℕ → List ℕ → Session
start_session n sheet = if_done (fresh_code n (length sheet)) (fresh_session n) no_session

-- what start does: its outcome r, and the sheet before and after
pub record Starts (n : ℕ) (sheet sheet' : List ℕ) (r : Outcome) : Type 0 where
  pub answer : r.answer ≡ fresh_answer n sheet
  pub session : r.session ≡ start_session n sheet
  pub words : sheet' ≡ fresh_words n sheet

-- ---- take

-- n + added is sheet count + struck, in whole numbers
abbrev pub Balanced : Session → Type 0
Balanced s = s.n + s.added ≡ s.sheet_count + s.struck

-- neither total exceeds 1,000,000,000, and the session is balanced
unfoldable pub totals_fit : Session → Bool
totals_fit s = leb s.struck 1000000000 && (leb s.added 1000000000 && eqb (s.n + s.added) (s.sheet_count + s.struck))

-- a done take: the answer's counts, and its struck and added on top of the totals
abbrev pub counted : Session → Answer → Session
counted s a = record { n = s.n; book_count = a.book_count; sheet_count = a.sheet_count; struck = s.struck + a.struck; added = s.added + a.added }

-- the session after an answer; a refusal or code 1 changes nothing in it
unfoldable pub session_after : Session → Answer → Session
session_after s a = if_done a.code (counted s a) s

-- after code 0 the new totals are small
pub record Summable (s : Session) (a : Answer) : Type 0 where
  pub struck_few : a.code ≡ 0 → s.struck + a.struck ≤ 2000000000
  pub added_few : a.code ≡ 0 → s.added + a.added ≤ 2000000000

-- the answer: that of a take with the session's n and counts, refused with 3 also where the totals do not fit
unfoldable pub session_answer : Session → List ℕ → List ℕ → ℕ → ℕ → Answer
session_answer s book sheet i j = take_answer (not (totals_fit s)) s.n book s.book_count sheet s.sheet_count i j

-- the session after the take
unfoldable pub session_taken : Session → List ℕ → List ℕ → ℕ → ℕ → Session
session_taken s book sheet i j = session_after s (session_answer s book sheet i j)

-- the book's words after the take
unfoldable pub session_book : Session → List ℕ → List ℕ → ℕ → ℕ → List ℕ
session_book s book sheet i j = take_book (not (totals_fit s)) s.n book s.book_count sheet s.sheet_count i j

-- the sheet's words after the take
unfoldable pub session_words : Session → List ℕ → List ℕ → ℕ → ℕ → List ℕ
session_words s book sheet i j = take_words (not (totals_fit s)) s.n book s.book_count sheet s.sheet_count i j

-- what take does: its outcome r, and both slices before and after
pub record Takes (s : Session) (book sheet : List ℕ) (i j : ℕ) (book' sheet' : List ℕ) (r : Outcome) : Type 0 where
  pub answer : r.answer ≡ session_answer s book sheet i j
  pub session : r.session ≡ session_taken s book sheet i j
  pub book_words : book' ≡ session_book s book sheet i j
  pub sheet_words : sheet' ≡ session_words s book sheet i j

-- ---- use

-- a session that was started and then only used through take
pub data Used : Session → Type 0 where
  started : (n : ℕ) (sheet : List ℕ) → Used (start_session n sheet)
  took : (s : Session) (book sheet : List ℕ) (i j : ℕ) → Used s → Used (session_taken s book sheet i j)
