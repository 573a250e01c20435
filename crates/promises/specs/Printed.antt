-- From text to text: what the program prints for an input, in the words of documents 01 and 02. It is the sheet of the recording, or the line of a refusal.
use Rattle.std.specs.Prelude.{◌≡◌, true, ℕ, ◌≤◌, ◌<◌, length, take, drop}
use mathlib.Core.List.{List, [], Memᴰ as Mem}
use Rattle.table.specs.Lists.{increasing}
use Rattle.headers.specs.Layouts.{recording}
use Rattle.headers.specs.Accepted.{Accepted}
use Rattle.headers.specs.Places.{Place}
use Rattle.reading.specs.Rows.{text_words}
use Rattle.naming.specs.Naming.{name_of}
use Rattle.writing.specs.SheetText.{sheet_text}
use Rattle.program.specs.Program.{refusal_line, own_names}
use Rattle.prime.specs.Primes.{Prime}
use Rattle.handover.specs.Learning.{Learnable, LearnRefused}

-- ---- the recording

-- the text is not too long, it is a recording for n relays, the type line required, and its rows stand for the words ts, which fit into the list
pub record Recorded (t : List ℕ) (n : ℕ) (ts : List ℕ) : Type 0 where
  pub short : length t ≤ 24576
  pub good : Accepted recording n t
  pub words : ts ≡ text_words t
  pub listed : length ts ≤ 1024

-- the rows of two texts stand for the same transitions, in any order, with repeats, comments and dashes
pub record SameRows (t u : List ℕ) : Type 0 where
  pub there : (w : ℕ) → Mem w (text_words t) → Mem w (text_words u)
  pub back : (w : ℕ) → Mem w (text_words u) → Mem w (text_words t)

-- each of n columns has the same name in both texts, or in neither; there is no maker's text
pub record SameNames (n : ℕ) (t u : List ℕ) : Type 0 where
  pub same : (column : ℕ) → column < n → name_of t [] column ≡ name_of u [] column

-- ---- refusals

-- the text is refused with a code and a place: 13, then 11 and 8 of reading, then 7 and 9 of learning, and no other code
pub data Refused (t : List ℕ) : ℕ → ℕ → Type 0 where
  too_long : 24576 < length t → Refused t 13 0
  faulty : (k : ℕ) → length t ≤ 24576 → Place recording t k → Refused t 11 k
  too_many : (n : ℕ) → length t ≤ 24576 → Accepted recording n t → 1024 < length (text_words t) → Refused t 8 0
  contradicted : (n k : ℕ) (ts : List ℕ) → Recorded t n ts → LearnRefused n ts 1024 1024 7 k → Refused t 7 k
  too_large : (n k : ℕ) (ts : List ℕ) → Recorded t n ts → LearnRefused n ts 1024 1024 9 k → Refused t 9 k

-- ---- what is printed

-- the output was out and is out': s stands at its start, r is how long it is, and the bytes behind it are unchanged
pub record Prints (out out' : List ℕ) (r : ℕ) (s : List ℕ) : Type 0 where
  pub long : r ≡ length s
  pub text : take r out' ≡ s
  pub behind : drop r out' ≡ drop r out

-- the sheet s of the recording is printed, with the recording's own names: it lists the rules that are prime for its words, all of them and nothing else, in increasing order
pub record SheetPrinted (t out out' : List ℕ) (r : ℕ) : Type 0 where
  pub n : ℕ
  pub ts : List ℕ
  pub s : List ℕ
  pub recorded : Recorded t n ts
  pub learned : Learnable n ts 1024 1024
  pub rising : increasing s ≡ true
  pub only_prime : (w : ℕ) → Mem w s → Prime n ts w
  pub all_prime : (w : ℕ) → Prime n ts w → Mem w s
  pub prints : Prints out out' r (sheet_text n (own_names t n) s)

-- `refused C at P` is printed, the text being refused with C at P
pub record RefusalPrinted (t out out' : List ℕ) (r : ℕ) : Type 0 where
  pub code : ℕ
  pub place : ℕ
  pub refused : Refused t code place
  pub prints : Prints out out' r (refusal_line code place)

-- the one or the other
pub data Printed (t out out' : List ℕ) (r : ℕ) : Type 0 where
  a_sheet : SheetPrinted t out out' r → Printed t out out' r
  a_refusal : RefusalPrinted t out out' r → Printed t out out' r

-- the slices that the program lends: 1,024 words for the list, the book and the sheet, and 24,576 bytes or more for the output
pub record Rooms (list book sheet out : List ℕ) : Type 0 where
  pub list_room : length list ≡ 1024
  pub book_room : length book ≡ 1024
  pub sheet_room : length sheet ≡ 1024
  pub out_room : 24576 ≤ length out
