-- Laws of what `read` answers, and that its contract fixes the answer and the list.
use Prim.Native.Nat.{ℕ, ◌≤◌, ◌<◌}
use mathlib.Core.Path.{◌≡◌, refl, sym, ◌∙◌, ap}
use mathlib.Core.List.{List}
use mathlib.Core.Logic.{◌↔◌, ◌⊎◌, inl, inr, ⊎_elim}
use mathlib.Core.Bool.{Bool, true, false, cond}
use native.Mathlib.Omega.{arith}
use lib.Dec.{leb}
use lib.ListN.{length, replicate, take}
use borrow.Author.Tests.{le-leb, lt-leb}
use Rattle.table.specs.Surgery.{cleared_from, filled}
use Rattle.headers.specs.Layouts.{recording, requiring}
use Rattle.headers.specs.Verdicts.{judge_of}
use Rattle.headers.specs.Places.{Place, Untyped}
use Rattle.headers.specs.declared.Layout.{Layout}
use Rattle.headers.specs.Verdicts.{Verdict}
use Rattle.std.specs.Prelude.{Result, Ok, Err, IsErrAnd}
use Rattle.answers.specs.Refusals.{code_of}
use Rattle.answers.specs.declared.Refused.{Refused}
use Rattle.headers.proofs.PlaceLaws.{bad_iff_place}
use Rattle.headers.proofs.TypeLines.{untyped_faulty, same_or_untyped}
use Rattle.reading.specs.Rows.{words_in, text_words}
use Rattle.reading.specs.Reading.{refusal, answer_of, list_of, answer_for, list_for, laid_answer, laid_list, ReadsLaid, Reads}
use Rattle.reading.specs.declared.WordsRead.{WordsRead}
use Rattle.reading.specs.declared.ReadAnswer.{ReadAnswer}

-- what `read_laid` answers in each of its three cases, over what its calls answer
module _ (lay : Layout) (t before after : List ℕ) (r : ReadAnswer) where
  pub read_bad : (p : ℕ) → Err p ≡ judge_of lay t → r ≡ refusal 11 p → after ≡ replicate (length before) 0 → ReadsLaid lay t before after r
  unfolding laid_answer laid_list
  read_bad p h a e = record { answer = rw (← h) a; list = rw (← h) e }

  pub read_full : (n : ℕ) → Ok n ≡ judge_of lay t → length before < length (words_in lay.kind t) → r ≡ refusal 8 0
      → after ≡ replicate (length before) 0 → ReadsLaid lay t before after r
  unfolding laid_answer laid_list
  read_full n h k a e =
      let f = lt-leb (length (words_in lay.kind t)) (length before) k in
      record { answer = rw (← h, f) a; list = rw (← h, f) e }

  pub read_done : (n k : ℕ) (d : List ℕ) → Ok n ≡ judge_of lay t → k ≡ length (words_in lay.kind t) → k ≤ length before → length d ≡ length before
      → take k d ≡ words_in lay.kind t → r ≡ record { code = 0; place = 0; n = n; count = k } → after ≡ cleared_from k d
      → ReadsLaid lay t before after r
  unfolding laid_answer laid_list cleared_from filled
  read_done n k d h q l s w a e =
      let f = le-leb k (length before) l in
      record { answer = rw (← h, ← q, f) a; list = rw (← h, ← q, f) (e ∙ rw (w, s)) }

-- what a `?` hands back is what was refused
pub read_err : (P : List ℕ → ReadAnswer → Type 0) (after : List ℕ) (w : Refused) (r : Result WordsRead Refused) → IsErrAnd r (λ e. e ≡ w)
    → P (replicate (length after) 0) (refusal (code_of w.why) w.place) → P (list_of r after) (answer_of r)
read_err P after w (Ok p) e h = absurd e
read_err P after w (Err x) e h = rw e h

-- any two results that satisfy the contract of `read` are equal
pub read_unique : {t before x y : List ℕ} {r s : ReadAnswer} → Reads t before x r → Reads t before y s → (r ≡ s) × (x ≡ y)
read_unique a b = (a.answer ∙ sym b.answer, a.list ∙ sym b.list)

-- an answer that is 11 with its place where a text is bad, and no 11 where it is good, is 11 exactly at the place of a fault as 01 defines it
pub eleven_iff_place : (lay : Layout) (t : List ℕ) (f : Verdict → ReadAnswer) → ((p : ℕ) → f (Err p) ≡ refusal 11 p) → ((n : ℕ) → (f (Ok n)).code ≡ 11 → ⊥)
    → (k : ℕ) → (((f (judge_of lay t)).code ≡ 11) × ((f (judge_of lay t)).place ≡ k)) ↔ Place lay t k
eleven_iff_place lay t f bad good k = (λ a. (bad_iff_place lay t k).0 (bad_at (judge_of lay t) refl a.0 a.1), λ p. eleven ((bad_iff_place lay t k).1 p))
  where
    bad_at : (v : Verdict) → judge_of lay t ≡ v → (f v).code ≡ 11 → (f v).place ≡ k → judge_of lay t ≡ Err k
    bad_at (Err p) e c q = e ∙ ap Err (sym (ap (λ (x : ReadAnswer). x.place) (bad p)) ∙ q)
    bad_at (Ok n) e c q = absurd (good n c)

    eleven : judge_of lay t ≡ Err k → ((f (judge_of lay t)).code ≡ 11) × ((f (judge_of lay t)).place ≡ k)
    eleven e = let a = ap f e ∙ bad k in (ap (λ (x : ReadAnswer). x.code) a, ap (λ (x : ReadAnswer). x.place) a)

-- `read` answers 11 with the place k exactly when k is the place of a fault
module _ {t before after : List ℕ} {r : ReadAnswer} (h : Reads t before after r) (k : ℕ) where
  pub refused_11_iff_place : ((r.code ≡ 11) × (r.place ≡ k)) ↔ Place recording t k
  unfolding laid_answer
  refused_11_iff_place =
      rw h.answer (eleven_iff_place recording t (λ v. answer_for v (text_words t) (length before)) (λ p. refl) (λ n. good n (leb (length (text_words t)) (length before))) k)
    where
      good : (n : ℕ) (b : Bool) → (cond b (record { code = 0; place = 0; n = n; count = length (text_words t) }) (refusal 8 0)).code ≡ 11 → ⊥
      good n true z = omega arith
      good n false z = omega arith

  -- a row or the end mark with no type line before it is refused with 11 there (02, Ask 2)
  pub untyped_refused_11 : Untyped recording t k → (r.code ≡ 11) × (r.place ≡ k)
  untyped_refused_11 u = refused_11_iff_place.1 (inl (untyped_faulty recording refl t k u))

-- every text is answered as where the type line may be left out, or has a row or an end mark with no type line before it
pub as_before_or_untyped : {t before after : List ℕ} {r : ReadAnswer} → Reads t before after r
    → ((r ≡ answer_for (judge_of (requiring false recording) t) (text_words t) (length before)) × (after ≡ list_for (judge_of (requiring false recording) t) (text_words t) (length before)))
    ⊎ ((k : ℕ) × Untyped recording t k)
unfolding laid_answer laid_list
as_before_or_untyped {t} {before} h =
    ⊎_elim
    (λ e. inl (h.answer ∙ ap (λ (v : Verdict). answer_for v (text_words t) (length before)) e, h.list ∙ ap (λ (v : Verdict). list_for v (text_words t) (length before)) e))
    inr
    (same_or_untyped recording t)
