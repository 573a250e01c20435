-- How a session's n is read from a number of C's: used between functions only.
use Rattle.std.specs.Prelude.{cond, ℕ, leb}
use Rattle.sessions.specs.declared.Session.{Session}

-- a number of 64 bits as one of 32; what does not fit is no panel size either way
unfoldable pub narrowed : ℕ → ℕ
narrowed x = cond (leb x 4294967295) x 4294967295

-- a session with another n
abbrev pub sized : ℕ → Session → Session
sized k s = record { n = k; book_count = s.book_count; sheet_count = s.sheet_count; struck = s.struck; added = s.added }
