-- Writing a sheet: what code 0 says, where it is answered, and that only the words that are written count.
use Prim.Native.Nat.{ℕ, ◌≤◌}
use mathlib.Core.Path.{◌≡◌, refl, sym, ◌∙◌, ap}
use mathlib.Core.List.{List}
use mathlib.Core.Bool.{true, not}
use native.Mathlib.Omega.{arith}
use lib.Dec.{ltb}
use lib.ListN.{length, take}
use lib.Seq.{length-take-le, take-take, take-append_seam}
use borrow.Author.Tests.{le-ltb, ltb-false, not-false}
use Rattle.answers.proofs.Laws.{refuse_none, if_done_lem}
use Rattle.panel.specs.Masks.{panel_size}
use Rattle.prime.specs.Sheets.{good_sheet}
use Rattle.naming.specs.Columns.{names_for}
use Rattle.writing.specs.SheetText.{sheet_text}
use Rattle.writing.specs.Writing.{written, write_code, WritesNamed}
use Rattle.writing.specs.declared.WriteAnswer.{WriteAnswer}
use Rattle.roundtrip.specs.Trips.{Written, WrittenAgain}

-- t is the text of a good sheet
pub record TextOf (n : ℕ) (names : List (List ℕ)) (words : List ℕ) (count : ℕ) (t : List ℕ) : Type 0 where
  pub size : panel_size n ≡ true
  pub counted : count ≤ length words
  pub good : good_sheet n (take count words) ≡ true
  pub text : t ≡ sheet_text n names (take count words)

module _ (n : ℕ) (names : List (List ℕ)) (words : List ℕ) (count : ℕ) (before after : List ℕ) (r : WriteAnswer) (w : WritesNamed n names words count before after r) where
  -- with code 0 the text stands there
  text_stands : write_code n names words count (length before) ≡ 0 → WrittenAgain (sheet_text n names (take count words)) after r
  unfolding written
  text_stands z =
      let t = sheet_text n names (take count words) in
      record {
        done = ap (λ (x : WriteAnswer). x.answer.code) w.answer ∙ z;
        long = ap (λ (x : WriteAnswer). x.length) w.answer ∙ if_done_lem _ _ _ z;
        text = ap (take (length t)) (w.bytes ∙ if_done_lem _ _ _ z) ∙ take-append_seam t _;
      }

  text_of : r.answer.code ≡ 0 → TextOf n names words count (take r.length after)
  unfolding write_code
  text_of z =
      let c : write_code n names words count (length before) ≡ 0 = sym (ap (λ (x : WriteAnswer). x.answer.code) w.answer) ∙ z in
      let p = refuse_none (not (panel_size n)) 1 _ c in
      let k = refuse_none (ltb (length words) count) 2 _ p.1 in
      let g = refuse_none (not (good_sheet n (take count words))) 4 _ k.1 in
      let t = text_stands c in
      record {
        size = not-false _ p.0;
        counted = ltb-false (length words) count k.0;
        good = not-false _ g.0;
        text = ap (λ (l : ℕ). take l after) t.long ∙ t.text;
      }

  -- a good sheet whose text fits is written
  pub good_written : panel_size n ≡ true → count ≤ length words → good_sheet n (take count words) ≡ true → length (sheet_text n names (take count words)) ≤ length before
      → WrittenAgain (sheet_text n names (take count words)) after r
  unfolding write_code
  good_written p k g f = text_stands (rw (p, le-ltb (length words) count k, g, le-ltb (length before) _ f))

pub text_written : (n : ℕ) (words : List ℕ) (count : ℕ) (panel maker t : List ℕ) → Written n words count panel maker t → TextOf n (names_for panel maker n) words count t
text_written n words count panel maker t w =
    rw w.text (text_of n (names_for panel maker n) words count w.before w.after w.answer w.writes w.done)

-- the words behind those that are written do not count
code_front : (n : ℕ) (names : List (List ℕ)) (words : List ℕ) (count room : ℕ) → count ≤ length words → write_code n names words count room ≡ write_code n names (take count words) count room
unfolding write_code
code_front n names words count room h =
    rw (length-take-le count words h, take-take count count words (omega arith), le-ltb (length words) count h, le-ltb count count (omega arith))

pub writes_front : (n : ℕ) (names : List (List ℕ)) (words : List ℕ) (count : ℕ) (before after : List ℕ) (r : WriteAnswer) → count ≤ length words
    → WritesNamed n names words count before after r → WritesNamed n names (take count words) count before after r
writes_front n names words count before after r h w =
    let c = code_front n names words count (length before) h in
    let t = take-take count count words (omega arith) in
    record { answer = w.answer ∙ rw (c, t) refl; bytes = w.bytes ∙ rw (c, t) refl }
