-- What the contract of `run` comes to: one result, inside its room; a learned sheet is printed, and in the program's rooms never refused with 12.
use Prim.Native.Nat.{ℕ, ◌+◌, ◌*◌, ◌≤◌}
use mathlib.Core.Path.{◌≡◌, refl, sym, ◌∙◌, ap, subst}
use mathlib.Core.List.{List, []}
use mathlib.Core.Bool.{Bool, true, false, cond}
use native.Mathlib.Omega.{arith}
use native.Mathlib.Nat.{mul-le-mul}
use lib.Dec.{leb}
use lib.ListN.{length, take}
use borrow.Author.Tests.{le-ltb, leb-true}
use Rattle.reading.specs.Reading.{read_answer, read_list}
use Rattle.learning.specs.Learn.{Run, going, refused, run_if}
use Rattle.writing.specs.SheetText.{sheet_text}
use Rattle.names.proofs.Meaning.{spaced_short}
use Rattle.naming.proofs.ColumnLaws.{written_good, written_few}
use Rattle.writing.specs.Writing.{written, count_length, names_length, text_length}
use Rattle.writing.proofs.NameLines.{names_length_most}
use Rattle.writing.proofs.TextLaws.{sheet_length}
use Rattle.writing.proofs.WriteLaws.{size_small}
use Rattle.program.specs.Program.{if_room, reading_code, reading_place, learned_run, own_names, written_run, run_text, run_printed, printed, Runs}
use Rattle.program.proofs.LineLaws.{decimal_most, room_yes}
use Rattle.program.proofs.LearnLaws.{Writable, learn_writable}

-- any two results that satisfy the contract of `run` are equal
pub run_unique : {t list book sheet out l l' b b' s s' o o' : List ℕ} {r r' : ℕ} → Runs t list book sheet out l b s o r → Runs t list book sheet out l' b' s' o' r'
    → (r ≡ r') × (o ≡ o') × (l ≡ l') × (b ≡ b') × (s ≡ s')
run_unique x y = (
  x.long ∙ sym y.long,
  x.bytes ∙ sym y.bytes,
  x.list_words ∙ sym y.list_words,
  x.book_words ∙ sym y.book_words,
  x.sheet_words ∙ sym y.sheet_words,
)

room_within : (room : ℕ) (s : List ℕ) → length (if_room room s) ≤ room
unfolding if_room
room_within room s = go (leb (length s) room) refl
  where
    go : (t : Bool) → leb (length s) room ≡ t → length (cond t s []) ≤ room
    go true e = leb-true (length s) room e
    go false e = omega arith

-- what is printed lies in the output
pub run_within : {t list book sheet out l b s o : List ℕ} {r : ℕ} → Runs t list book sheet out l b s o r → r ≤ length out
unfolding printed run_printed
run_within {out = out} x = rw x.long (room_within (length out) _)

-- ten names of 16 bytes make two lines of 349 bytes together
names_short : (t : List ℕ) (n : ℕ) → n ≤ 10 → names_length (own_names t n) ≤ 349
names_short t n h =
    let few = written_few t [] n in
    let short = spaced_short (own_names t n) (written_good t [] n) in
    omega (arith, names_length_most (own_names t n))

-- a sheet of at most 1,024 rules fits into the program's 24,576 bytes, with the longest names
short_text : (n : ℕ) (t s : List ℕ) → n ≤ 10 → length s ≤ 1024 → length (sheet_text n (own_names t n) s) ≤ 24576
unfolding text_length count_length
short_text n t s h k =
    let names = names_short t n h in
    let a = decimal_most 1 n (omega arith) in
    let b = decimal_most 3 (length s) (omega arith) in
    let few : 2 * n + 2 ≤ 22 = omega arith in
    let c : length s * (2 * n + 2) ≤ 1024 * 22 = mul-le-mul k few in
    omega (arith, sheet_length n (own_names t n) s)

-- 12 is never given where at most 1,024 rules are learned and there is room for 24,576 bytes
pub never_12 : (n sheetRoom room : ℕ) (t : List ℕ) → sheetRoom ≤ 1024 → 24576 ≤ room → (r : Run) → Writable n sheetRoom r → written_run n (own_names t n) room r ≡ r
unfolding written_run
never_12 n sheetRoom room t h k (refused c p) w = refl
never_12 n sheetRoom room t h k (going b s x y) w =
    rw (le-ltb room (length (sheet_text n (own_names t n) s)) (omega (arith, short_text n t s (size_small n w.0) (omega (arith, w.2)))))

-- read and learned, the sheet is what is printed, and in the program's rooms it is printed whole
pub run_done : {t list book sheet out l b s o : List ℕ} {r : ℕ} → Runs t list book sheet out l b s o r
    → length sheet ≤ 1024 → 24576 ≤ length out → reading_code t (length list) ≡ 0
    → (book₁ sheet₁ : List ℕ) (x y : ℕ) → learned_run t (length list) (length book) (length sheet) ≡ going book₁ sheet₁ x y
    → (r ≡ length (sheet_text (read_answer t (length list)).n (own_names t (read_answer t (length list)).n) sheet₁))
    × (o ≡ written out 0 (sheet_text (read_answer t (length list)).n (own_names t (read_answer t (length list)).n) sheet₁))
unfolding printed run_printed learned_run run_text
run_done {t = t} {list = list} {book = book} {sheet = sheet} {out = out} q h k e book₁ sheet₁ x y g =
    let n = (read_answer t (length list)).n in
    let w : Writable n (length sheet) (going book₁ sheet₁ x y) = subst (Writable n (length sheet)) g (learn_writable n (length sheet) (length book) (take (read_answer t (length list)).count (read_list t (length list)))) in
    let z : printed t (length list) (length book) (length sheet) (length out) ≡ sheet_text n (own_names t n) sheet₁ =
    ap (λ (c : ℕ). run_printed n t (length out) (run_if c (learned_run t (length list) (length book) (length sheet)) (reading_place t (length list)))) e
    ∙ ap (λ (p : Run). run_printed n t (length out) p) g
    ∙ ap (λ (p : Run). if_room (length out) (run_text n (own_names t n) p)) (never_12 n (length sheet) (length out) t h k (going book₁ sheet₁ x y) w)
    ∙ room_yes (length out) (sheet_text n (own_names t n) sheet₁) (omega (arith, short_text n t sheet₁ (size_small n w.0) (omega (arith, w.2)))) in
    (q.long ∙ ap length z, q.bytes ∙ ap (written out 0) z)
