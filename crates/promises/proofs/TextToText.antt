-- Demand 2 from text to text, over the contract of the program and nothing else.
use mathlib.Core.Path.{◌≡◌, refl, sym, ap, ◌∙◌, subst}
use mathlib.Core.Logic.{◌⊎◌, inl, inr}
use mathlib.Core.Bool.{Bool, true, false, cond}
use mathlib.Core.List.{List, [], Memᴰ as Mem}
use Prim.Native.Nat.{ℕ, zero, suc, ◌+◌, ◌-◌, ◌≤◌, ◌<◌}
use native.Mathlib.Omega.{arith}
use lib.Dec.{leb}
use lib.ListN.{length, take, drop, replicate}
use lib.Seq.{take_at, drop_at}
use borrow.Author.Tests.{leb-true, leb-false, ltb-true, ltb-false}
use Rattle.table.specs.Lists.{increasing}
use Rattle.table.specs.Surgery.{filled}
use Rattle.answers.specs.Answers.{refuse, done}
use Rattle.headers.specs.Layouts.{recording}
use Rattle.headers.specs.Accepted.{Accepted}
use Rattle.headers.specs.Verdicts.{judge_of}
use Rattle.headers.specs.Verdicts.{Verdict}
use Rattle.std.specs.Prelude.{Ok, Err}
use Rattle.headers.proofs.Accepting.{good_iff_text}
use Rattle.headers.proofs.PlaceLaws.{bad_iff_place}
use Rattle.reading.specs.Rows.{text_words}
use Rattle.reading.specs.Reading.{refusal, answer_for, list_for, read_answer, read_list, laid_answer, laid_list}
use Rattle.reading.proofs.WordLaws.{read_size, read_valid}
use Rattle.learning.specs.Learn.{Run, going, refused, learn_run, run_answer, run_book, run_sheet, run_if}
use Rattle.writing.specs.SheetText.{sheet_text}
use Rattle.writing.specs.Writing.{written}
use Rattle.program.specs.Program.{refusal_line, if_room, is_too_long, reading_code, reading_place, learned_run, own_names, run_text, run_printed, printed, Runs}
use Rattle.program.proofs.LearnLaws.{Writable, learn_writable}
use Rattle.program.proofs.Promises.{never_12}
use Rattle.program.proofs.AnswerLaws.{run_answers}
use Rattle.handover.specs.Demands.{Left, piece_of, sheet_used, Complete}
use Rattle.handover.proofs.Demands.{learn_complete}
use Rattle.handover.specs.Learning.{Learnable, LearnRefused}
use Rattle.handover.proofs.Learning.{run_learnable, run_refused}
use Rattle.promises.specs.Printed.{Recorded, Refused, too_long, faulty, too_many, contradicted, too_large, Prints, Printed, a_sheet, a_refusal, Rooms}
use Rattle.promises.proofs.Learning.{learn_ended}

-- ---- the bytes

room_some : (room : ℕ) (s : List ℕ) → 0 < length (if_room room s) → if_room room s ≡ s
unfolding if_room
room_some room s h = go (leb (length s) room) h
  where
    go : (t : Bool) → 0 < length (cond t s []) → cond t s [] ≡ s
    go true k = refl
    go false k = absurd (omega arith)

prints_of : (out out' s : List ℕ) (r : ℕ) → r ≡ length s → out' ≡ written out 0 s → Prints out out' r s
unfolding written
prints_of out out' s r e f =
    let k : 0 + length s ≡ r = omega (arith, e) in
    record {
      long = e;
      text = ap (take r) f ∙ take_at s (drop (0 + length s) out) r (sym e);
      behind = ap (drop r) f ∙ drop_at s (drop (0 + length s) out) r (sym e) ∙ ap (λ (m : ℕ). drop m out) k;
    }

-- ---- the run

-- what learning left is the sheet of the words
module _ (n : ℕ) (ts b s : List ℕ) (x y : ℕ) (e : learn_run n 1024 1024 ts ≡ going b s x y) where
  abbrev left : Left
  left = record { book = filled 1024 b; sheet = filled 1024 s; answer = done (length b) (length s) x y }

  left_complete : Complete n ts (piece_of left)
  unfolding run_answer run_book run_sheet
  left_complete =
      learn_complete n ts left (record {
        book_room = 1024;
        sheet_room = 1024;
        contract = record {
          answer = ap run_answer (sym e);
          book_words = ap (run_book 1024) (sym e);
          sheet_words = ap (run_sheet 1024) (sym e);
        };
        learned = refl;
      })

  left_sheet : sheet_used left ≡ s
  unfolding filled
  left_sheet = take_at s (replicate (1024 - length s) 0) (length s) refl

-- what a run of the program says of the text: its words are learned, or it is refused
abbrev Says : List ℕ → ℕ → Run → Type 0
Says t n (going b s x y) = (ts : List ℕ) × Recorded t n ts × Learnable n ts 1024 1024 × (learn_run n 1024 1024 ts ≡ going b s x y)
Says t n (refused c p) = Refused t c p

module _ (t : List ℕ) where
  refused_says : (n c p : ℕ) → Recorded t n (text_words t) → LearnRefused n (text_words t) 1024 1024 c p → (c ≡ 7) ⊎ (c ≡ 9) → Refused t c p
  refused_says n c p k q (inl e) =
      subst (λ (z : ℕ). Refused t z p) (sym e) (contradicted n p (text_words t) k (subst (λ (z : ℕ). LearnRefused n (text_words t) 1024 1024 z p) e q))
  refused_says n c p k q (inr e) =
      subst (λ (z : ℕ). Refused t z p) (sym e) (too_large n p (text_words t) k (subst (λ (z : ℕ). LearnRefused n (text_words t) 1024 1024 z p) e q))

  good_says : (n : ℕ) → length t ≤ 24576 → Accepted recording n t → length (text_words t) ≤ 1024 → Says t n (learn_run n 1024 1024 (text_words t))
  good_says n h f k = go (learn_run n 1024 1024 (text_words t)) refl
    where
      as_read : Recorded t n (text_words t)
      as_read = record { short = h; good = f; words = refl; listed = k }

      go : (r : Run) → learn_run n 1024 1024 (text_words t) ≡ r → Says t n r
      go (going b s x y) e = (text_words t, as_read, run_learnable n 1024 1024 e, e)
      go (refused c p) e =
          let q = run_refused n 1024 1024 e in
          refused_says n c p as_read q (learn_ended n (read_size t n f) (text_words t) (read_valid t n f) k q)

  run_says : Says t (read_answer t 1024).n (run_if (reading_code t 1024) (learned_run t 1024 1024 1024) (reading_place t 1024))
  unfolding reading_code reading_place learned_run laid_answer laid_list filled
  run_says = go (is_too_long t) (judge_of recording t) refl refl
    where
      fit : (n : ℕ) → length t ≤ 24576 → Accepted recording n t → (c : Bool) → leb (length (text_words t)) 1024 ≡ c
          → Says t (cond c (record { code = 0; place = 0; n = n; count = length (text_words t) }) (refusal 8 0)).n
          (run_if (cond c (record { code = 0; place = 0; n = n; count = length (text_words t) }) (refusal 8 0)).code
          (learn_run (cond c (record { code = 0; place = 0; n = n; count = length (text_words t) }) (refusal 8 0)).n 1024 1024
          (take (cond c (record { code = 0; place = 0; n = n; count = length (text_words t) }) (refusal 8 0)).count (cond c (filled 1024 (text_words t)) (replicate 1024 0))))
          (cond c (record { code = 0; place = 0; n = n; count = length (text_words t) }) (refusal 8 0)).place)
      fit n h f true e =
          subst (λ (z : List ℕ). Says t n (learn_run n 1024 1024 z)) (sym (take_at (text_words t) (replicate (1024 - length (text_words t)) 0) (length (text_words t)) refl))
          (good_says n h f (leb-true (length (text_words t)) 1024 e))
      fit n h f false e = too_many n h f (leb-false (length (text_words t)) 1024 e)

      go : (b : Bool) (v : Verdict) → is_too_long t ≡ b → judge_of recording t ≡ v
          → Says t (answer_for v (text_words t) 1024).n
          (run_if (refuse b 13 (answer_for v (text_words t) 1024).code)
          (learn_run (answer_for v (text_words t) 1024).n 1024 1024 (take (answer_for v (text_words t) 1024).count (list_for v (text_words t) 1024)))
          (refuse b 0 (answer_for v (text_words t) 1024).place))
      go true v e f = too_long (ltb-true 24576 (length t) e)
      go false (Err k) e f = faulty k (ltb-false 24576 (length t) e) ((bad_iff_place recording t k).0 f)
      go false (Ok n) e f = fit n (ltb-false 24576 (length t) e) ((good_iff_text recording t n).0 f) (leb (length (text_words t)) 1024) refl

  -- a refusal before learning has a code
  entry_writable : (n room c p : ℕ) (u : Run) → Writable n room u → Writable n room (run_if c u p)
  entry_writable n room zero p u w = w
  entry_writable n room (suc c) p u w = omega arith

  -- 12 is never given, and what is printed fits
  text_is : (room : ℕ) → 24576 ≤ room → 0 < length (printed t 1024 1024 1024 room)
      → printed t 1024 1024 1024 room ≡ run_text (read_answer t 1024).n (own_names t (read_answer t 1024).n) (run_if (reading_code t 1024) (learned_run t 1024 1024 1024) (reading_place t 1024))
  unfolding printed run_printed learned_run
  text_is room h q =
      let n = (read_answer t 1024).n in
      room_some room _ q
      ∙ ap (run_text n (own_names t n))
      (never_12 n 1024 room t (omega arith) h _
      (entry_writable n 1024 (reading_code t 1024) (reading_place t 1024) (learned_run t 1024 1024 1024) (learn_writable n 1024 1024 (take (read_answer t 1024).count (read_list t 1024)))))

-- ---- the theorem

said : (t out out' : List ℕ) (r n : ℕ) (u : Run) → Says t n u → r ≡ length (run_text n (own_names t n) u) → out' ≡ written out 0 (run_text n (own_names t n) u) → Printed t out out' r
unfolding run_text
said t out out' r n (refused c p) q e f = a_refusal (record { code = c; place = p; refused = q; prints = prints_of out out' (refusal_line c p) r e f })
said t out out' r n (going b s x y) q e f =
    let ts = q.0 in
    let k = (left_complete n ts b s x y q.3).in_use in
    let is = left_sheet n ts b s x y q.3 in
    a_sheet (record {
      n = n;
      ts = ts;
      s = s;
      recorded = q.1;
      learned = q.2;
      rising = ap increasing (sym is) ∙ k.sheet_rising;
      only_prime = λ w m. k.only_prime w (subst (λ (z : List ℕ). Mem w z) (sym is) m);
      all_prime = λ w m. subst (λ (z : List ℕ). Mem w z) is (k.all_prime w m);
      prints = prints_of out out' (sheet_text n (own_names t n) s) r e f;
    })

-- demand 2 from text to text: in the program's rooms, whatever satisfies its contract prints the sheet of the recording, or the line of the refusal that 01 gives
pub text_to_text : {t list book sheet out l b s out' : List ℕ} {r : ℕ} → Rooms list book sheet out → Runs t list book sheet out l b s out' r → Printed t out out' r
text_to_text {t = t} {list = list} {book = book} {sheet = sheet} {out = out} {out' = out'} {r = r} k q =
    let some : 0 < r = run_answers q (omega (arith, k.list_room)) (omega (arith, k.book_room)) (omega (arith, k.out_room)) in
    let e : printed t (length list) (length book) (length sheet) (length out) ≡ printed t 1024 1024 1024 (length out) = rw (k.list_room, k.book_room, k.sheet_room) refl in
    let long : r ≡ length (printed t 1024 1024 1024 (length out)) = q.long ∙ ap length e in
    let is = text_is t (length out) k.out_room (omega (arith, some, long)) in
    said t out out' r (read_answer t 1024).n _ (run_says t) (long ∙ ap length is) (q.bytes ∙ ap (written out 0) (e ∙ is))
