-- What a caller in C is handed: every array that a call changes, the numbers of its answer among them, and the number that it returns.
use Rattle.std.specs.Prelude.{◌≡◌, List, [], ◌∷◌, cond, ℕ, length, get_or}
use Rattle.answers.specs.declared.Answer.{Answer}
use Rattle.naming.specs.declared.Spot.{Spot}
use Rattle.reading.specs.declared.ReadAnswer.{ReadAnswer}
use Rattle.sessions.specs.declared.Session.{Session}
use Rattle.public.specs.PublicCalls.{Call, fresh, take, learn, join, apply, session_start, session_take, session_take_lent, read, read_sheet, find_name, lookup, write_sheet, run, Result, Contract}

-- ---- numbers in a row

-- an answer and what stands behind it: code, place, both counts, struck, added, and the rest
abbrev pub numbers_with : Answer → List ℕ → List ℕ
numbers_with a rest = a.code ∷ a.place ∷ a.book_count ∷ a.sheet_count ∷ a.struck ∷ a.added ∷ rest

-- the six numbers of an answer
abbrev pub numbers : Answer → List ℕ
numbers a = numbers_with a []

-- reading's four: code, place, n, count
abbrev pub read_numbers : ReadAnswer → List ℕ
read_numbers a = a.code ∷ a.place ∷ a.n ∷ a.count ∷ []

-- a name's three: its text, 0 the panel's and 1 the maker's; where it begins there; how long it is
abbrev pub spot_numbers : Spot → List ℕ
spot_numbers s = cond s.maker 1 0 ∷ s.start ∷ s.length ∷ []

-- the five numbers of a session: n, both counts, struck, added
abbrev pub session_numbers : Session → List ℕ
session_numbers s = s.n ∷ s.book_count ∷ s.sheet_count ∷ s.struck ∷ s.added ∷ []

-- the session that stands in five numbers
abbrev pub session_in : List ℕ → Session
session_in xs = record { n = get_or xs 0 0; book_count = get_or xs 1 0; sheet_count = get_or xs 2 0; struck = get_or xs 3 0; added = get_or xs 4 0 }

-- ---- what a call hands to C

-- what stands afterwards in the slices that it may write, and in the session, in the order of its parameters; the numbers of its answer; and the number that it returns, which is the code
abbrev pub handed : (c : Call) → Result c → List (List ℕ) × List ℕ × ℕ
handed (fresh n sheet) r = (r.1 ∷ [], numbers r.0, r.0.code)
handed (take n book books sheet sheets i j) r = (r.1 ∷ r.2 ∷ [], numbers r.0, r.0.code)
handed (learn n words book sheet) r = (r.1 ∷ r.2 ∷ [], numbers r.0, r.0.code)
handed (join n a b book sheet) r = (r.1 ∷ r.2 ∷ [], numbers r.0, r.0.code)
handed (apply n sheet sheets x) r = ([], numbers_with r.answer (r.state ∷ []), r.answer.code)
handed (session_start n sheet) r = (r.1 ∷ session_numbers r.0.session ∷ [], numbers r.0.answer, r.0.answer.code)
handed (session_take s book sheet i j) r = (session_numbers r.0.session ∷ r.1 ∷ r.2 ∷ [], numbers r.0.answer, r.0.answer.code)
handed (session_take_lent s book sheet i j) r = (session_numbers r.1 ∷ r.2 ∷ r.3 ∷ [], numbers r.0, r.0.code)
handed (read text list) r = (r.1 ∷ [], read_numbers r.0, r.0.code)
handed (read_sheet text words) r = (r.1 ∷ [], read_numbers r.0, r.0.code)
-- a name is handed over by its numbers, with the length returned; a part of a text itself no function here hands over
handed (find_name panel maker column) r = ([], spot_numbers r, r.length)
handed (lookup panel maker column) r = (r.0 ∷ [], r.1 ∷ r.2 ∷ [], length r.0)
handed (write_sheet n sheet count panel maker out) r = (r.1 ∷ [], numbers_with r.0.answer (r.0.length ∷ []), r.0.answer.code)
-- the whole program has no answer, and returns a length
handed (run input list book sheet output) r = (r.1 ∷ r.2 ∷ r.3 ∷ r.4 ∷ [], [], r.0)

-- a function for C makes the call c: some result meets its contract, and that result is what the caller finds in the slices, in the answer's array and in the number returned
pub record Hands (c : Call) (slices : List (List ℕ)) (answer : List ℕ) (number : ℕ) : Type 0 where
  pub result : Result c
  pub meets : Contract c result
  pub found : slices ≡ (handed c result).0
  pub stored : answer ≡ (handed c result).1
  pub told : number ≡ (handed c result).2
