-- The public calls, all of them: with what each is called, what it gives (its answer and every slice or record lent to be changed), and its contract.
use Rattle.std.specs.Prelude.{◌≡◌, false, List, ℕ, length}
use Rattle.answers.specs.declared.Answer.{Answer}
use Rattle.calls.specs.Fresh.{Fresh}
use Rattle.calls.specs.Take.{Taken}
use Rattle.calls.specs.Apply.{apply_answer}
use Rattle.calls.specs.declared.Applied.{Applied}
use Rattle.learning.specs.Learn.{Learned}
use Rattle.joining.specs.Joining.{Piece, Joined}
use Rattle.sessions.specs.Sessions.{Starts, Takes}
use Rattle.sessions.specs.declared.Session.{Session}
use Rattle.sessions.specs.declared.Outcome.{Outcome}
use Rattle.lent.specs.Lent.{TakesLent}
use Rattle.std.specs.Borrow.{Bor}
use Rattle.naming.specs.Naming.{spot_of, PartOf}
use Rattle.naming.specs.declared.Spot.{Spot}
use Rattle.reading.specs.Reading.{Reads}
use Rattle.reading.specs.declared.ReadAnswer.{ReadAnswer}
use Rattle.returned.specs.Returned.{ReadsSheet}
use Rattle.writing.specs.Writing.{Writes}
use Rattle.writing.specs.declared.WriteAnswer.{WriteAnswer}
use Rattle.program.specs.Program.{Runs}

-- a call with its inputs, the lent slices as they are before it
pub data Call : Type 0 where
  fresh : (n : ℕ) (sheet : List ℕ) → Call
  take : (n : ℕ) (book : List ℕ) (bookCount : ℕ) (sheet : List ℕ) (sheetCount i j : ℕ) → Call
  learn : (n : ℕ) (words book sheet : List ℕ) → Call
  join : (n : ℕ) (a b : Piece) (book sheet : List ℕ) → Call
  apply : (n : ℕ) (sheet : List ℕ) (sheetCount x : ℕ) → Call
  session_start : (n : ℕ) (sheet : List ℕ) → Call
  session_take : (s : Session) (book sheet : List ℕ) (i j : ℕ) → Call
  session_take_lent : (s : Session) (book sheet : List ℕ) (i j : ℕ) → Call
  read : (text list : List ℕ) → Call
  read_sheet : (text words : List ℕ) → Call
  find_name : (panel maker : List ℕ) (column : ℕ) → Call
  lookup : (panel maker : Bor (List ℕ)) (column : ℕ) → Call
  write_sheet : (n : ℕ) (sheet : List ℕ) (count : ℕ) (panel maker out : List ℕ) → Call
  run : (input list book sheet output : List ℕ) → Call

-- what it gives: the answer first, then what is left in each slice or record; of a lookup's part its bytes, and the block and the place where it begins
abbrev pub Result : Call → Type 0
Result (fresh n sheet) = Answer × List ℕ
Result (take n book bookCount sheet sheetCount i j) = Answer × List ℕ × List ℕ
Result (learn n words book sheet) = Answer × List ℕ × List ℕ
Result (join n a b book sheet) = Answer × List ℕ × List ℕ
Result (apply n sheet sheetCount x) = Applied
Result (session_start n sheet) = Outcome × List ℕ
Result (session_take s book sheet i j) = Outcome × List ℕ × List ℕ
Result (session_take_lent s book sheet i j) = Answer × Session × List ℕ × List ℕ
Result (read text list) = ReadAnswer × List ℕ
Result (read_sheet text words) = ReadAnswer × List ℕ
Result (find_name panel maker column) = Spot
Result (lookup panel maker column) = List ℕ × ℕ × ℕ
Result (write_sheet n sheet count panel maker out) = WriteAnswer × List ℕ
Result (run input list book sheet output) = ℕ × List ℕ × List ℕ × List ℕ × List ℕ

-- what the function of src/ ensures, which is stated by this
abbrev pub Contract : (c : Call) → Result c → Type 0
Contract (fresh n sheet) r = Fresh n sheet r.1 r.0
Contract (take n book bookCount sheet sheetCount i j) r = Taken false n book bookCount sheet sheetCount i j r.1 r.2 r.0
Contract (learn n words book sheet) r = Learned n words (length book) (length sheet) r.1 r.2 r.0
Contract (join n a b book sheet) r = Joined n a b book sheet r.1 r.2 r.0
Contract (apply n sheet sheetCount x) r = r ≡ apply_answer n sheet sheetCount x
Contract (session_start n sheet) r = Starts n sheet r.1 r.0
Contract (session_take s book sheet i j) r = Takes s book sheet i j r.1 r.2 r.0
Contract (session_take_lent s book sheet i j) r = TakesLent s book sheet i j r.1 r.2 r.3 r.0
Contract (read text list) r = Reads text list r.1 r.0
Contract (read_sheet text words) r = ReadsSheet text words r.1 r.0
Contract (find_name panel maker column) r = r ≡ spot_of panel maker column
Contract (lookup panel maker column) r = PartOf panel maker (spot_of panel.now maker.now column) r.0 r.1 r.2
Contract (write_sheet n sheet count panel maker out) r = Writes n sheet count panel maker out r.1 r.0
Contract (run input list book sheet output) r = Runs input list book sheet output r.1 r.2 r.3 r.4 r.0
