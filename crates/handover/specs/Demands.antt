-- Demands 2 and 3: what a result must be to be the complete one, and how a recording is divided, learned in pieces and joined.
use Rattle.std.specs.Prelude.{◌≡◌, ◌⊎◌, true, ℕ, ◌-◌, ◌≤◌, length, drop, replicate}
use mathlib.Core.List.{List, Memᴰ as Mem}
use Rattle.table.specs.Lists.{increasing}
use Rattle.prime.specs.Sheets.{sheet_of}
use Rattle.prime.specs.Primes.{Prime}
use Rattle.book.specs.Books.{book_of}
use Rattle.answers.specs.declared.Answer.{Answer}
use Rattle.learning.specs.Learn.{Learned}
use Rattle.joining.specs.Joining.{Piece, piece, book_in, sheet_in, Joined}

-- ---- what a call leaves

-- both slices as the call left them, and its answer
pub record Left : Type 0 where
  pub book : List ℕ
  pub sheet : List ℕ
  pub answer : Answer

-- book and sheet as a later call is lent them: what the call left, with the counts that it answered
abbrev pub piece_of : Left → Piece
piece_of o = piece o.book o.answer.book_count o.sheet o.answer.sheet_count

-- the words of the book in use
abbrev pub book_used : Left → List ℕ
book_used o = book_in (piece_of o)

-- the words of the sheet in use
abbrev pub sheet_used : Left → List ℕ
sheet_used o = sheet_in (piece_of o)

-- ---- demand 2

-- every word from the count on is 0
abbrev pub ZeroFrom : ℕ → List ℕ → Type 0
ZeroFrom count s = drop count s ≡ replicate (length s - count) 0

-- what is in use in p is the book and the sheet of the words ts: the book lists them, each once and in order; the sheet lists all their prime rules and nothing else
pub record InUse (n : ℕ) (ts : List ℕ) (p : Piece) : Type 0 where
  pub book_in_slice : p.book_count ≤ length p.book_words
  pub is_book : book_in p ≡ book_of ts
  pub book_rising : increasing (book_in p) ≡ true
  pub book_only : (t : ℕ) → Mem t (book_in p) → Mem t ts
  pub book_all : (t : ℕ) → Mem t ts → Mem t (book_in p)
  pub sheet_in_slice : p.sheet_count ≤ length p.sheet_words
  pub is_sheet : sheet_in p ≡ sheet_of n ts
  pub sheet_rising : increasing (sheet_in p) ≡ true
  pub only_prime : (w : ℕ) → Mem w (sheet_in p) → Prime n ts w
  pub all_prime : (w : ℕ) → Prime n ts w → Mem w (sheet_in p)

-- the complete result for the words ts: they are what is in use, and every word beyond a count is 0
pub record Complete (n : ℕ) (ts : List ℕ) (p : Piece) : Type 0 where
  pub in_use : InUse n ts p
  pub book_rest : ZeroFrom p.book_count p.book_words
  pub sheet_rest : ZeroFrom p.sheet_count p.sheet_words

-- a learn of the words ts in slices of some room ended with o, and was not refused
pub record Learns (n : ℕ) (ts : List ℕ) (o : Left) : Type 0 where
  pub book_room : ℕ
  pub sheet_room : ℕ
  pub contract : Learned n ts book_room sheet_room o.book o.sheet o.answer
  pub learned : o.answer.code ≡ 0

-- ---- demand 3

-- two outcomes with the same words in use and the same counts
pub record Same (o q : Left) : Type 0 where
  pub books : book_used o ≡ book_used q
  pub sheets : sheet_used o ≡ sheet_used q
  pub book_counts : o.answer.book_count ≡ q.answer.book_count
  pub sheet_counts : o.answer.sheet_count ≡ q.answer.sheet_count

-- the whole ts is divided into ps and qs: every row stands in at least one piece, in any order and any number of times
pub record Divided (ts ps qs : List ℕ) : Type 0 where
  pub left_in : (t : ℕ) → Mem t ps → Mem t ts
  pub right_in : (t : ℕ) → Mem t qs → Mem t ts
  pub covered : (t : ℕ) → Mem t ts → Mem t ps ⊎ Mem t qs

-- a join of the pieces p and q, in slices of some room and with any words in them before, ended with o, and was not refused
pub record Joins (n : ℕ) (p q : Piece) (o : Left) : Type 0 where
  pub book_before : List ℕ
  pub sheet_before : List ℕ
  pub contract : Joined n p q book_before sheet_before o.book o.sheet o.answer
  pub joined : o.answer.code ≡ 0
