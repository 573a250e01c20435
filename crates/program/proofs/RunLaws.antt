-- Laws of the ways through the program: what each return leaves is what its contract says.
use Prim.Native.Nat.{ℕ, ◌-◌, ◌≤◌, ◌<◌}
use mathlib.Core.Path.{◌≡◌, refl, sym, ◌∙◌, ap, ap₂}
use mathlib.Core.List.{List, []}
use mathlib.Core.Bool.{Bool, true, false, cond}
use native.Mathlib.Omega.{arith}
use lib.Dec.{leb, ltb}
use lib.ListN.{length, take, replicate, length-append}
use lib.Seq.{take_at}
use borrow.Author.Tests.{le-ltb, lt-ltb, leb-true, ltb-false}
use Rattle.table.specs.Surgery.{filled}
use Rattle.answers.specs.Answers.{refuse}
use Rattle.answers.specs.declared.Answer.{Answer}
use Rattle.headers.specs.Layouts.{recording}
use Rattle.headers.specs.Verdicts.{judge_of}
use Rattle.headers.specs.Verdicts.{Verdict}
use Rattle.std.specs.Prelude.{Ok, Err}
use Rattle.reading.specs.Rows.{text_words}
use Rattle.reading.specs.Reading.{refusal, answer_for, read_answer, read_list, Reads, laid_answer}
use Rattle.reading.specs.declared.ReadAnswer.{ReadAnswer}
use Rattle.learning.specs.Learn.{Run, going, refused, learn_run, run_answer, run_sheet, Learned, run_if}
use Rattle.writing.specs.SheetText.{sheet_text}
use Rattle.writing.specs.Writing.{written, Put, write_code, Writes}
use Rattle.writing.specs.declared.WriteAnswer.{WriteAnswer}
use Rattle.program.specs.Program.{refusal_line, if_room, is_too_long, reading_code, reading_place, learned_run, own_names, written_run, run_text, run_printed, printed, Runs, Sheets}
use Rattle.program.proofs.LineLaws.{room_yes}
use Rattle.program.proofs.LearnLaws.{Writable, learn_writable}
use Rattle.answers.proofs.Laws.{if_refused}
use Rattle.learning.proofs.Words.{run_refused}

-- ---- writing what was learned

module _ (n : ℕ) (names : List (List ℕ)) (sheetRoom room : ℕ) where
  -- a learned sheet is refused with 12 only
  pub write_code_is : (b s : List ℕ) (x y : ℕ) → Writable n sheetRoom (going b s x y)
      → write_code n names (filled sheetRoom s) (length s) room ≡ refuse (ltb room (length (sheet_text n names s))) 12 0
  unfolding write_code filled
  write_code_is b s x y h =
      let l : length s ≤ length (filled sheetRoom s) = omega (arith, length-append s (replicate (sheetRoom - length s) 0)) in
      let k : take (length s) (filled sheetRoom s) ≡ s = take_at s _ (length s) refl in
      rw (h.0, le-ltb (length (filled sheetRoom s)) (length s) l, k, h.1)

  refused_text : (r : Run) → ((run_answer r).code ≡ 0 → ⊥) → run_text n names (written_run n names room r) ≡ refusal_line (run_answer r).code (run_answer r).place
  unfolding run_answer run_text written_run
  refused_text (going b s x y) f = absurd (f refl)
  refused_text (refused c p) f = refl

  unwritten_text : (r : Run) → Writable n sheetRoom r → (run_answer r).code ≡ 0 → (code : ℕ) → code ≡ write_code n names (run_sheet sheetRoom r) (run_answer r).sheet_count room
      → (code ≡ 0 → ⊥) → run_text n names (written_run n names room r) ≡ refusal_line code 0
  unfolding run_answer run_text run_sheet written_run
  unwritten_text (refused c p) h e code q f = absurd (omega (arith, h, e))
  unwritten_text (going b s x y) h e code q f = go (ltb room (length (sheet_text n names s))) (q ∙ write_code_is b s x y h)
    where
      go : (t : Bool) → code ≡ refuse t 12 0 → run_text n names (cond t (refused 12 0) (going b s x y)) ≡ refusal_line code 0
      go true z = ap (λ (k : ℕ). refusal_line k 0) (sym z)
      go false z = absurd (f z)

  written_text : (r : Run) → Writable n sheetRoom r → (run_answer r).code ≡ 0 → (code : ℕ) → code ≡ write_code n names (run_sheet sheetRoom r) (run_answer r).sheet_count room
      → code ≡ 0 → if_room room (run_text n names (written_run n names room r)) ≡ sheet_text n names (take (run_answer r).sheet_count (run_sheet sheetRoom r))
  unfolding run_answer run_text run_sheet written_run filled
  written_text (refused c p) h e code q f = absurd (omega (arith, h, e))
  written_text (going b s x y) h e code q f = go (ltb room (length (sheet_text n names s))) refl (q ∙ write_code_is b s x y h)
    where
      go : (t : Bool) → ltb room (length (sheet_text n names s)) ≡ t → code ≡ refuse t 12 0
          → if_room room (run_text n names (cond t (refused 12 0) (going b s x y))) ≡ sheet_text n names (take (length s) (filled sheetRoom s))
      go true i z = absurd (omega (arith, z, f))
      go false i z = room_yes room (sheet_text n names s) (ltb-false room _ i) ∙ ap (sheet_text n names) (sym (take_at s _ (length s) refl))

module _ (n : ℕ) (t ts book sheet out book' sheet' : List ℕ) (a : Answer) (l : Learned n ts (length book) (length sheet) book' sheet' a) where
  abbrev run : Run
  run = learn_run n (length book) (length sheet) ts

  as_sheets : (s out' : List ℕ) (r : ℕ) → run_printed n t (length out) run ≡ s → Put out 0 s out' r → Sheets n t ts book sheet out book' sheet' out' r
  as_sheets s out' r e p = record {
    long = p.behind ∙ omega (arith, ap length e);
    bytes = p.bytes ∙ ap (written out 0) (sym e);
    book_words = l.book_words;
    sheet_words = l.sheet_words;
  }

  pub learned_refused : (a.code ≡ 0 → ⊥) → (out' : List ℕ) (r : ℕ) → Put out 0 (if_room (length out) (refusal_line a.code a.place)) out' r
      → Sheets n t ts book sheet out book' sheet' out' r
  unfolding run_printed
  learned_refused f out' r p =
      as_sheets _ out' r (ap (if_room (length out)) (refused_text n (own_names t n) (length sheet) (length out) run (λ e. f (ap (λ (x : Answer). x.code) l.answer ∙ e)) ∙ rw (← l.answer))) p

  module _ (e : a.code ≡ 0) (w : WriteAnswer) (out₁ : List ℕ) (h : Writes n sheet' a.sheet_count t [] out out₁ w) where
    abbrev code : ℕ
    code = write_code n (own_names t n) sheet' a.sheet_count (length out)

    code_is : code ≡ write_code n (own_names t n) (run_sheet (length sheet) run) (run_answer run).sheet_count (length out)
    code_is = rw (← l.answer, ← l.sheet_words)

    done_is : (run_answer run).code ≡ 0
    done_is = rw (← l.answer) e

    pub written_refused : (w.answer.code ≡ 0 → ⊥) → (out₂ : List ℕ) (r : ℕ) → Put out₁ 0 (if_room (length out₁) (refusal_line w.answer.code 0)) out₂ r
        → Sheets n t ts book sheet out book' sheet' out₂ r
    unfolding run_printed
    written_refused f out₂ r p =
        let wc : w.answer.code ≡ code = ap (λ (x : WriteAnswer). x.answer.code) h.answer in
        let same : out₁ ≡ out = h.bytes ∙ if_refused code _ _ (λ z. f (wc ∙ z)) in
        as_sheets _ out₂ r (ap (if_room (length out)) (unwritten_text n (own_names t n) (length sheet) (length out) run (learn_writable n (length sheet) (length book) ts) done_is code code_is (λ z. f (wc ∙ z))))
        (rw (← wc, ← same) p)

    pub written_done : w.answer.code ≡ 0 → Sheets n t ts book sheet out book' sheet' out₁ w.length
    unfolding run_printed
    written_done z =
        let z' : code ≡ 0 = sym (ap (λ (x : WriteAnswer). x.answer.code) h.answer) ∙ z in
        as_sheets (sheet_text n (own_names t n) (take a.sheet_count sheet')) out₁ w.length
        (written_text n (own_names t n) (length sheet) (length out) run (learn_writable n (length sheet) (length book) ts) done_is code code_is z' ∙ rw (← l.answer, ← l.sheet_words))
        (record {
          bytes = h.bytes ∙ rw z';
          behind = ap (λ (x : WriteAnswer). x.length) h.answer ∙ rw z' (omega arith);
        })

-- ---- reading

-- the words read lie in the list
pub count_within : (t : List ℕ) (room : ℕ) → (read_answer t room).count ≤ room
unfolding laid_answer
count_within t room = go (judge_of recording t)
  where
    many : (ws : List ℕ) (n : ℕ) (b : Bool) → leb (length ws) room ≡ b
        → (cond b (record { code = 0; place = 0; n = n; count = length ws }) (refusal 8 0)).count ≤ room
    many ws n true e = leb-true _ _ e
    many ws n false e = omega arith

    go : (v : Verdict) → (answer_for v (text_words t) room).count ≤ room
    go (Err p) = omega arith
    go (Ok n) = many (text_words t) n (leb (length (text_words t)) room) refl

pub read_count : (t before after : List ℕ) (a : ReadAnswer) → Reads t before after a → a.count ≤ length before
read_count t before after a h = rw h.answer (count_within t (length before))

-- ---- the whole

module _ (t list book sheet out : List ℕ) where
  pub run_too_long : 24576 < length t → (out' : List ℕ) (r : ℕ) → Put out 0 (if_room (length out) (refusal_line 13 0)) out' r → Runs t list book sheet out list book sheet out' r
  unfolding reading_code reading_place printed run_printed written_run run_text
  run_too_long h out' r p =
      let y = lt-ltb 24576 (length t) h in
      record {
        long = rw y (p.behind ∙ omega arith);
        bytes = rw y p.bytes;
        list_words = sym (ap (λ (b : Bool). cond b list (read_list t (length list))) y);
        book_words = rw y;
        sheet_words = rw y;
      }

  module _ (h : length t ≤ 24576) (a : ReadAnswer) (list' : List ℕ) (k : Reads t list list' a) where
    short : is_too_long t ≡ false
    short = le-ltb 24576 (length t) h

    code_read : reading_code t (length list) ≡ a.code
    unfolding reading_code
    code_read = rw (short, k.answer)

    place_read : reading_place t (length list) ≡ a.place
    unfolding reading_place
    place_read = rw (short, k.answer)

    list_read : list' ≡ cond (is_too_long t) list (read_list t (length list))
    list_read = k.list ∙ sym (ap (λ (b : Bool). cond b list (read_list t (length list))) short)

    abbrev later : Run
    later = learned_run t (length list) (length book) (length sheet)

    pub run_unread : (a.code ≡ 0 → ⊥) → (out' : List ℕ) (r : ℕ) → Put out 0 (if_room (length out) (refusal_line a.code a.place)) out' r
        → Runs t list book sheet out list' book sheet out' r
    unfolding printed run_printed written_run run_text
    run_unread f out' r p =
        let e : printed t (length list) (length book) (length sheet) (length out) ≡ if_room (length out) (refusal_line a.code a.place) =
        ap (λ (q : Run). run_printed (read_answer t (length list)).n t (length out) q) (ap₂ (λ (c p : ℕ). run_if c later p) code_read place_read ∙ run_refused a.code later a.place f) in
        record {
          long = p.behind ∙ omega (arith, ap length e);
          bytes = p.bytes ∙ ap (written out 0) (sym e);
          list_words = list_read;
          book_words = rw code_read (sym (if_refused a.code _ book f));
          sheet_words = rw code_read (sym (if_refused a.code _ sheet f));
        }

    pub run_learned : a.code ≡ 0 → (book' sheet' out' : List ℕ) (r : ℕ) → Sheets a.n t (take a.count list') book sheet out book' sheet' out' r
        → Runs t list book sheet out list' book' sheet' out' r
    unfolding printed learned_run
    run_learned z book' sheet' out' r s =
        let e : reading_code t (length list) ≡ 0 = code_read ∙ z in
        record {
          long = rw (e, ← k.answer, ← k.list) s.long;
          bytes = rw (e, ← k.answer, ← k.list) s.bytes;
          list_words = list_read;
          book_words = rw (e, ← k.answer, ← k.list) s.book_words;
          sheet_words = rw (e, ← k.answer, ← k.list) s.sheet_words;
        }
