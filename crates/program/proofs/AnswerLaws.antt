-- In the program's rooms something is always printed: the places of refusals are small, so that their lines fit.
use Prim.Native.Nat.{ℕ, zero, suc, ◌+◌, ◌≤◌, ◌<◌}
use mathlib.Core.Path.{◌≡◌, refl, ap}
use mathlib.Core.List.{List, [], ◌∷◌, ◌++◌}
use mathlib.Core.Logic.{inl, inr}
use mathlib.Core.Bool.{Bool, true, false, cond}
use native.Mathlib.Omega.{arith}
use lib.Dec.{leb, ltb}
use lib.ListN.{length, take, length-append, length-take}
use borrow.Author.Tests.{ltb-true, ltb-false}
use Rattle.table.proofs.Inserting.{insert_length}
use Rattle.answers.specs.Answers.{refuse}
use Rattle.fields.proofs.TextLaws.{lines_few}
use Rattle.headers.specs.Layouts.{recording}
use Rattle.headers.specs.Verdicts.{judge_of}
use Rattle.headers.specs.Places.{Place}
use Rattle.headers.specs.Verdicts.{Verdict}
use Rattle.std.specs.Prelude.{Ok, Err}
use Rattle.headers.proofs.PlaceLaws.{bad_iff_place}
use Rattle.reading.specs.Rows.{text_words}
use Rattle.reading.specs.Reading.{refusal, answer_for, read_answer, read_list, laid_answer}
use Rattle.learning.specs.Learn.{Run, going, refused, reproduced, learn_end, learn_run, run_if}
use Rattle.learning.proofs.Ways.{Opening, two, nine_at_once, opened, Way, six, passed_over, seven, eight, nine, taken_up, run_keeps}
use Rattle.writing.specs.SheetText.{sheet_text}
use Rattle.writing.specs.Writing.{text_length}
use Rattle.writing.proofs.TextLaws.{sheet_length}
use Rattle.program.specs.Program.{refusal_line, if_room, is_too_long, reading_code, reading_place, learned_run, own_names, written_run, run_text, run_printed, printed, Runs}
use Rattle.program.proofs.LineLaws.{decimal_most, line_length_is, room_yes}
use Rattle.program.proofs.RunLaws.{count_within}

-- ---- reading

-- a fault is on a line of the text, or on the line after the last
place_small : (t : List ℕ) (k : ℕ) → judge_of recording t ≡ Err k → k ≤ length t + 1
place_small t k e = go ((bad_iff_place recording t k).0 e)
  where
    go : Place recording t k → k ≤ length t + 1
    go (inl f) = omega (arith, f.number, lines_few t, ap length f.lines, length-append f.before (f.line ∷ f.after))
    go (inr (inl f)) = omega (arith, f.number, lines_few t)
    go (inr (inr f)) = omega (arith, f.number, lines_few t, ap length f.lines, length-append f.before (f.line ∷ f.after))

read_small : (t : List ℕ) (room : ℕ) → ((read_answer t room).code ≤ 11) × ((read_answer t room).place ≤ length t + 1)
unfolding laid_answer
read_small t room = go (judge_of recording t) refl
  where
    good : (n k : ℕ) (b : Bool) → ((cond b (record { code = 0; place = 0; n = n; count = k }) (refusal 8 0)).code ≤ 11)
        × ((cond b (record { code = 0; place = 0; n = n; count = k }) (refusal 8 0)).place ≤ length t + 1)
    good n k true = (omega arith, omega arith)
    good n k false = (omega arith, omega arith)

    go : (v : Verdict) → judge_of recording t ≡ v → ((answer_for v (text_words t) room).code ≤ 11) × ((answer_for v (text_words t) room).place ≤ length t + 1)
    go (Err p) e = (omega arith, place_small t p e)
    go (Ok n) e = good n (length (text_words t)) (leb (length (text_words t)) room)

entry_small : (t : List ℕ) (room : ℕ) → (reading_code t room ≤ 13) × (reading_place t room ≤ 24577)
unfolding reading_code reading_place
entry_small t room = go (is_too_long t) refl
  where
    go : (b : Bool) → is_too_long t ≡ b → (refuse b 13 (read_answer t room).code ≤ 13) × (refuse b 0 (read_answer t room).place ≤ 24577)
    go true e = (omega arith, omega arith)
    go false e = (omega (arith, (read_small t room).0), omega (arith, (read_small t room).1, ltb-false 24576 (length t) e))

-- ---- learning

-- the book is inside its room; a refusal has a small code, and a place of at most m
abbrev Placed : ℕ → ℕ → Run → Type 0
Placed m bookRoom (going b s x y) = length b ≤ bookRoom
Placed m bookRoom (refused c p) = (c ≤ 13) × (p ≤ m)

module _ (n bookRoom room : ℕ) where
  start_placed : (r : Run) → Opening n room r → Placed 0 bookRoom r
  start_placed _ (two e) = (omega arith, omega arith)
  start_placed _ (nine_at_once e f) = (omega arith, omega arith)
  start_placed _ (opened e f) = omega arith

  more_placed : (ps : List ℕ) (t c p : ℕ) → Placed (length ps) bookRoom (refused c p) → Placed (length (ps ++ t ∷ [])) bookRoom (refused c p)
  more_placed ps t c p h = (h.0, omega (arith, h.1, length-append ps (t ∷ [])))

  -- a refusal at the word t has its number
  word_placed : (ps : List ℕ) (t : ℕ) (b s : List ℕ) (x y c : ℕ) (r : Run) → Placed (length ps) bookRoom (going b s x y) → Way n bookRoom room (length ps) t b s x y c r
      → Placed (length (ps ++ t ∷ [])) bookRoom r
  word_placed ps t b s x y _ _ h (six e) = more_placed ps t 6 (length ps) (omega arith, omega arith)
  word_placed ps t b s x y _ _ h (passed_over v e) = h
  word_placed ps t b s x y _ _ h (seven v e f) = more_placed ps t 7 (length ps) (omega arith, omega arith)
  word_placed ps t b s x y _ _ h (eight v e f) = more_placed ps t 8 (length ps) (omega arith, omega arith)
  word_placed ps t b s x y _ _ h (nine v e f g) = more_placed ps t 9 (length ps) (omega arith, omega arith)
  word_placed ps t b s x y _ _ h (taken_up v e f g) = omega (arith, insert_length t b, f)

  end_placed : (m k : ℕ) → k ≤ m → bookRoom ≤ m → (r : Run) → Placed k bookRoom r → Placed m bookRoom (learn_end n r)
  unfolding learn_end
  end_placed m k l f (refused c p) h = (h.0, omega (arith, h.1))
  end_placed m k l f (going b s x y) h = go (ltb (reproduced n s b) (length b)) refl
    where
      go : (t : Bool) → ltb (reproduced n s b) (length b) ≡ t → Placed m bookRoom (cond t (refused 10 (reproduced n s b)) (going b s x y))
      go true e = (omega arith, omega (arith, h, ltb-true (reproduced n s b) (length b) e))
      go false e = h

  learn_placed : (m : ℕ) (ts : List ℕ) → length ts ≤ m → bookRoom ≤ m → Placed m bookRoom (learn_run n bookRoom room ts)
  unfolding learn_run
  learn_placed m ts l f = end_placed m (length ts) l f _ (run_keeps n bookRoom room (λ ps r. Placed (length ps) bookRoom r) start_placed more_placed word_placed ts)

-- ---- printing

line_some : (c p room : ℕ) → c ≤ 13 → p ≤ 24577 → 64 ≤ room → 0 < length (if_room room (refusal_line c p))
line_some c p room h k l =
    let a = decimal_most 1 c (omega arith) in
    let b = decimal_most 4 p (omega arith) in
    let e = line_length_is c p in
    omega (arith, ap length (room_yes room (refusal_line c p) (omega arith)))

text_some : (n bookRoom room : ℕ) (t : List ℕ) → 64 ≤ room → (r : Run) → Placed 24577 bookRoom r → 0 < length (run_printed n t room r)
unfolding run_printed run_text written_run text_length
text_some n bookRoom room t l (refused c p) h = line_some c p room h.0 h.1 l
text_some n bookRoom room t l (going b s x y) h = go (ltb room (length (sheet_text n (own_names t n) s))) refl
  where
    go : (c : Bool) → ltb room (length (sheet_text n (own_names t n) s)) ≡ c → 0 < length (if_room room (run_text n (own_names t n) (cond c (refused 12 0) (going b s x y))))
    go true e = line_some 12 0 room (omega arith) (omega arith) l
    go false e = omega (arith, ap length (room_yes room (sheet_text n (own_names t n) s) (ltb-false room _ e)), sheet_length n (own_names t n) s)

entry_placed : (m bookRoom c p : ℕ) (u : Run) → c ≤ 13 → p ≤ m → Placed m bookRoom u → Placed m bookRoom (run_if c u p)
entry_placed m bookRoom zero p u h k w = w
entry_placed m bookRoom (suc c) p u h k w = (h, k)

-- with room for 1,024 words in the list and the book, and for 64 bytes, the program never prints nothing
pub run_answers : {t list book sheet out l b s o : List ℕ} {r : ℕ} → Runs t list book sheet out l b s o r
    → length list ≤ 1024 → length book ≤ 1024 → 64 ≤ length out → 0 < r
unfolding printed learned_run
run_answers {t = t} {list = list} {book = book} {sheet = sheet} {out = out} q h k l =
    let n = (read_answer t (length list)).n in
    let ts = take (read_answer t (length list)).count (read_list t (length list)) in
    let few : length ts ≤ 24577 = omega (arith, length-take (read_answer t (length list)).count (read_list t (length list)), count_within t (length list)) in
    let e = entry_small t (length list) in
    let w = learn_placed n (length book) (length sheet) 24577 ts few (omega arith) in
    rw q.long (text_some n (length book) (length out) t l _ (entry_placed 24577 (length book) (reading_code t (length list)) (reading_place t (length list)) _ e.0 e.1 w))
