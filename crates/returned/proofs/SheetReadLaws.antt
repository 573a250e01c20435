-- Laws of what `read_sheet` answers, and that its contract fixes the answer and the words.
use Prim.Native.Nat.{ℕ, ◌-◌, ◌≤◌}
use mathlib.Core.Path.{◌≡◌, refl, sym, ◌∙◌, ap}
use mathlib.Core.List.{List, ◌++◌}
use mathlib.Core.Logic.{◌↔◌}
use mathlib.Core.Bool.{Bool, true, false, cond}
use native.Mathlib.Omega.{arith}
use lib.Dec.{leb}
use lib.ListN.{length, replicate, take, drop, length-append, length-drop, length-replicate}
use lib.Seq.{take_at, length-take-le}
use borrow.Author.Tests.{le-leb, leb-true}
use Rattle.table.specs.Surgery.{cleared_from, filled}
use Rattle.prime.specs.Sheets.{good_sheet}
use Rattle.fields.specs.Texts.{lines_of}
use Rattle.headers.specs.Layouts.{sheet}
use Rattle.headers.specs.Verdicts.{judge_of}
use Rattle.headers.specs.Places.{Place}
use Rattle.headers.specs.Verdicts.{Verdict}
use Rattle.std.specs.Prelude.{Ok, Err}
use Rattle.headers.proofs.Accepting.{good_iff_text}
use Rattle.headers.proofs.Sizes.{text_size}
use Rattle.reading.specs.Rows.{sheet_words}
use Rattle.reading.specs.Reading.{refusal, answer_for, list_for, laid_answer, laid_list, ReadsLaid}
use Rattle.reading.specs.declared.ReadAnswer.{ReadAnswer}
use Rattle.reading.proofs.ReadLaws.{eleven_iff_place}
use Rattle.sorting.specs.Orders.{Ordered, sorted}
use Rattle.sorting.proofs.OrderLaws.{same_length, sorted_ordered, ordered_sorted}
use Rattle.returned.specs.Returned.{sheet_answer_for, sheet_answer, sheet_list, ReadsSheet}

-- any two results that satisfy the contract of `read_sheet` are equal
pub sheet_read_unique : {t before x y : List ℕ} {r s : ReadAnswer} → ReadsSheet t before x r → ReadsSheet t before y s → (r ≡ s) × (x ≡ y)
sheet_read_unique a b = (a.answer ∙ sym b.answer, a.words ∙ sym b.words)

-- ---- what the code has after the rows are read

-- the text is a sheet's, for n relays, and the words of its rows fit
pub record Fit (t : List ℕ) (room : ℕ) (mid : List ℕ) (r : ReadAnswer) : Type 0 where
  pub n : ℕ
  pub accepted : judge_of sheet t ≡ Ok n
  pub fits : length (sheet_words t) ≤ room
  pub answer : r ≡ record { code = 0; place = 0; n = n; count = length (sheet_words t) }
  pub words : mid ≡ filled room (sheet_words t)

module _ (t before mid : List ℕ) (r : ReadAnswer) (h : ReadsLaid sheet t before mid r) where
  abbrev ws : List ℕ
  ws = sheet_words t

  abbrev room : ℕ
  room = length before

  answer_by : (v : Verdict) → judge_of sheet t ≡ v → r ≡ answer_for v ws room
  unfolding laid_answer
  answer_by v e = h.answer ∙ ap (λ (x : Verdict). answer_for x ws room) e

  list_by : (v : Verdict) → judge_of sheet t ≡ v → mid ≡ list_for v ws room
  unfolding laid_list
  list_by v e = h.list ∙ ap (λ (x : Verdict). list_for x ws room) e

  pub rows_fit : r.code ≡ 0 → Fit t room mid r
  rows_fit z = go (judge_of sheet t) refl
    where
      good : (n : ℕ) → judge_of sheet t ≡ Ok n → (b : Bool) → leb (length ws) room ≡ b → Fit t room mid r
      good n e true f =
          record {
            n = n;
            accepted = e;
            fits = leb-true (length ws) room f;
            answer = answer_by (Ok n) e ∙ rw f refl;
            words = list_by (Ok n) e ∙ rw f refl;
          }
      good n e false f =
          let q : r ≡ refusal 8 0 = answer_by (Ok n) e ∙ rw f refl in
          absurd (omega (arith, sym z ∙ ap (λ (x : ReadAnswer). x.code) q))

      go : (v : Verdict) → judge_of sheet t ≡ v → Fit t room mid r
      go (Err k) e = absurd (omega (arith, sym z ∙ ap (λ (x : ReadAnswer). x.code) (answer_by (Err k) e)))
      go (Ok n) e = good n e (leb (length ws) room) refl

  -- refused with 11 or 8: so it stays
  pub rows_refused : (r.code ≡ 0 → ⊥) → ReadsSheet t before mid r
  unfolding sheet_answer sheet_list
  rows_refused z = go (judge_of sheet t) refl
    where
      good : (n : ℕ) → judge_of sheet t ≡ Ok n → (b : Bool) → leb (length ws) room ≡ b → ReadsSheet t before mid r
      good n e true f =
          let q : r ≡ record { code = 0; place = 0; n = n; count = length ws } = answer_by (Ok n) e ∙ rw f refl in
          absurd (z (ap (λ (x : ReadAnswer). x.code) q))
      good n e false f = record { answer = answer_by (Ok n) e ∙ rw (e, f) refl; words = list_by (Ok n) e ∙ rw (e, f) refl }

      go : (v : Verdict) → judge_of sheet t ≡ v → ReadsSheet t before mid r
      go (Err k) e = record { answer = answer_by (Err k) e ∙ rw e refl; words = list_by (Err k) e ∙ rw e refl }
      go (Ok n) e = good n e (leb (length ws) room) refl

-- ---- the words in order

-- the words of the rows stand in front of a list, and are then put in order there: what is handed back if they are a good sheet, and if not
module _ (t before mid : List ℕ) (n count : ℕ) (room : count ≤ length mid) (q : Fit t (length before) (cleared_from count mid) (record { code = 0; place = 0; n = n; count = count })) where
  size_is : n ≡ q.n
  size_is = ap (λ (x : ReadAnswer). x.n) q.answer

  count_is : count ≡ length (sheet_words t)
  count_is = ap (λ (x : ReadAnswer). x.count) q.answer

  pub size_few : n ≤ 10
  size_few = rw size_is (text_size sheet q.n (lines_of t) ((good_iff_text sheet t q.n).0 q.accepted)).1

  first_words : take count mid ≡ sheet_words t
  unfolding filled cleared_from
  first_words =
      sym (take_at (take count mid) (replicate (length mid - count) 0) count (length-take-le count mid room))
      ∙ ap (take count) q.words
      ∙ take_at (sheet_words t) (replicate (length before - length (sheet_words t)) 0) count (sym count_is)

  room_is : length mid ≡ length before
  unfolding filled cleared_from
  room_is =
      omega (
        arith,
        room,
        q.fits,
        ap length q.words,
        length-take-le count mid room,
        length-append (take count mid) (replicate (length mid - count) 0),
        length-replicate {A = ℕ} (length mid - count) 0,
        length-append (sheet_words t) (replicate (length before - length (sheet_words t)) 0),
        length-replicate {A = ℕ} (length before - length (sheet_words t)) 0,
      )

  sorted_length : length (sorted (sheet_words t)) ≡ length (sheet_words t)
  sorted_length = sym (same_length (sorted_ordered (sheet_words t)).same)

  accepted : judge_of sheet t ≡ Ok n
  accepted = q.accepted ∙ ap Ok (sym size_is)

  fits : leb (length (sheet_words t)) (length before) ≡ true
  fits = le-leb (length (sheet_words t)) (length before) q.fits

  module _ (rules : List ℕ) (o : Ordered (take count mid) rules) (b : Bool) (g : b ≡ good_sheet n rules) where
    rules_length : length rules ≡ count
    rules_length = sym (same_length o.same) ∙ length-take-le count mid room

    front : take count (rules ++ drop count mid) ≡ rules
    front = take_at rules (drop count mid) count rules_length

    same : length (rules ++ drop count mid) ≡ length before
    same = omega (arith, room, room_is, rules_length, length-append rules (drop count mid), length-drop count mid)

    in_order : rules ≡ sorted (sheet_words t)
    in_order = ordered_sorted (take count mid) rules o ∙ ap sorted first_words

    good : good_sheet n (sorted (sheet_words t)) ≡ b
    good = ap (good_sheet n) (sym in_order) ∙ sym g

    pub read_good : b ≡ true → ReadsSheet t before (cleared_from count (rules ++ drop count mid)) (record { code = 0; place = 0; n = n; count = count })
    unfolding sheet_answer sheet_list filled cleared_from
    read_good h =
        record {
          answer = rw (accepted, fits, good, h) (ap (λ (k : ℕ). record { code = 0; place = 0; n = n; count = k }) count_is);
          words = rw (accepted, fits, good, h) (rw (front, same, sorted_length, ← count_is) (rw in_order refl));
        }

    pub read_no_good : b ≡ false → ReadsSheet t before (replicate (length (rules ++ drop count mid)) 0) (refusal 5 0)
    unfolding sheet_answer sheet_list
    read_no_good h =
        record {
          answer = rw (accepted, fits, good, h) refl;
          words = rw (accepted, fits, good, h) (rw same refl);
        }

-- ---- the place of a fault

-- `read_sheet` answers 11 with the place k exactly when k is the place of a fault as 01 defines it
module _ {t before after : List ℕ} {r : ReadAnswer} (h : ReadsSheet t before after r) (k : ℕ) where
  pub sheet_11_iff_place : ((r.code ≡ 11) × (r.place ≡ k)) ↔ Place sheet t k
  unfolding sheet_answer
  sheet_11_iff_place =
      rw h.answer
      (eleven_iff_place sheet t (λ v. sheet_answer_for v (sheet_words t) (length before)) (λ p. refl)
      (λ n. good n (leb (length (sheet_words t)) (length before)) (good_sheet n (sorted (sheet_words t)))) k)
    where
      good : (n : ℕ) (b g : Bool) → (cond b (cond g (record { code = 0; place = 0; n = n; count = length (sheet_words t) }) (refusal 5 0)) (refusal 8 0)).code ≡ 11 → ⊥
      good n true true z = omega arith
      good n true false z = omega arith
      good n false g z = omega arith
