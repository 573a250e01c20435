-- Reading a sheet: what it gives where the words of the text are those of a good sheet in some order, and what code 0 says of the text.
use Prim.Native.Nat.{ℕ, ◌-◌, ◌≤◌}
use mathlib.Core.Path.{◌≡◌, refl, sym, ◌∙◌, ap}
use mathlib.Core.List.{List}
use mathlib.Core.Bool.{Bool, true, false, cond}
use native.Mathlib.Omega.{arith}
use lib.Dec.{leb}
use lib.ListN.{length, take, replicate, length-append}
use lib.Seq.{take_at}
use borrow.Author.Tests.{le-leb}
use Rattle.table.specs.Surgery.{filled}
use Rattle.prime.specs.Sheets.{good_sheet}
use Rattle.prime.proofs.Least.{good_e}
use Rattle.headers.specs.Layouts.{sheet}
use Rattle.headers.specs.Verdicts.{judge_of}
use Rattle.headers.specs.Verdicts.{Verdict}
use Rattle.std.specs.Prelude.{Ok, Err}
use Rattle.reading.specs.Rows.{sheet_words}
use Rattle.reading.specs.Reading.{refusal}
use Rattle.reading.specs.declared.ReadAnswer.{ReadAnswer}
use Rattle.sorting.specs.Orders.{Same, sorted}
use Rattle.sorting.proofs.OrderLaws.{same_length, sorted_ordered, sorted_same, sorted_self}
use Rattle.returned.specs.Returned.{sheet_answer_for, sheet_list_for, sheet_answer, sheet_list, ReadsSheet}
use Rattle.roundtrip.specs.Trips.{Read}

-- ---- a text that is accepted, and whose words are those of a good sheet in some order

module _ (t : List ℕ) (n : ℕ) (a : judge_of sheet t ≡ Ok n) (s : List ℕ) (g : good_sheet n s ≡ true) (e : Same (sheet_words t) s) where
  words_sorted : sorted (sheet_words t) ≡ s
  words_sorted = sorted_same (sheet_words t) s e ∙ sorted_self s (good_e n s g).sorted

  count_fits : (room : ℕ) → length s ≤ room → leb (length (sheet_words t)) room ≡ true
  count_fits room fits = ap (λ (k : ℕ). leb k room) (same_length e) ∙ le-leb (length s) room fits

  -- reading it is done, and leaves the sheet
  pub read_as : (before after : List ℕ) (r : ReadAnswer) → ReadsSheet t before after r → length s ≤ length before
      → (r ≡ record { code = 0; place = 0; n = n; count = length s }) × (after ≡ filled (length before) s)
  unfolding sheet_answer sheet_list
  read_as before after r h fits =
      (h.answer ∙ rw (a, count_fits (length before) fits, words_sorted, g, same_length e), h.words ∙ rw (a, count_fits (length before) fits, words_sorted, g))

-- ---- code 0

-- what was read: the text is accepted, and its words in order, a good sheet, stand at the start of the slice
pub record Back (t : List ℕ) (n : ℕ) (words : List ℕ) (count : ℕ) : Type 0 where
  pub accepted : judge_of sheet t ≡ Ok n
  pub good : good_sheet n (sorted (sheet_words t)) ≡ true
  pub many : count ≡ length (sheet_words t)
  pub fits : count ≤ length words
  pub front : take count words ≡ sorted (sheet_words t)

sorted_length : (ws : List ℕ) → length (sorted ws) ≡ length ws
sorted_length ws = sym (same_length (sorted_ordered ws).same)

back_is : (t : List ℕ) (n room : ℕ) → judge_of sheet t ≡ Ok n → good_sheet n (sorted (sheet_words t)) ≡ true → Back t n (filled room (sorted (sheet_words t))) (length (sheet_words t))
unfolding filled
back_is t n room a g =
    let s = sorted (sheet_words t) in
    let l = sorted_length (sheet_words t) in
    record {
      accepted = a;
      good = g;
      many = refl;
      fits = omega (arith, l, length-append s (replicate (room - length s) 0));
      front = take_at s _ (length (sheet_words t)) l;
    }

back_of : (t before after : List ℕ) (r : ReadAnswer) → ReadsSheet t before after r → r.code ≡ 0 → Back t r.n after r.count
unfolding sheet_answer sheet_list
back_of t before after r h z = go (judge_of sheet t) refl h.answer h.words
  where
    inner : (n : ℕ) → judge_of sheet t ≡ Ok n → (f g : Bool) → good_sheet n (sorted (sheet_words t)) ≡ g
        → r ≡ cond f (cond g (record { code = 0; place = 0; n = n; count = length (sheet_words t) }) (refusal 5 0)) (refusal 8 0)
        → after ≡ cond f (cond g (filled (length before) (sorted (sheet_words t))) (replicate (length before) 0)) (replicate (length before) 0) → Back t r.n after r.count
    inner n a true true g x l = rw (x, l) (back_is t n (length before) a g)
    inner n a true false g x l = absurd (omega (arith, z, ap (λ (y : ReadAnswer). y.code) x))
    inner n a false b g x l = absurd (omega (arith, z, ap (λ (y : ReadAnswer). y.code) x))

    go : (v : Verdict) → judge_of sheet t ≡ v → r ≡ sheet_answer_for v (sheet_words t) (length before) → after ≡ sheet_list_for v (sheet_words t) (length before) → Back t r.n after r.count
    go (Err place) e x l = absurd (omega (arith, z, ap (λ (y : ReadAnswer). y.code) x))
    go (Ok n) e x l = inner n e (leb (length (sheet_words t)) (length before)) (good_sheet n (sorted (sheet_words t))) refl x l

pub read_back : (t : List ℕ) (n : ℕ) (words : List ℕ) (count : ℕ) → Read t n words count → Back t n words count
read_back t n words count h = rw (h.size, h.counted) at (back_of t h.before words h.answer h.reads h.done)
