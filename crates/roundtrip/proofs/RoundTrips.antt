-- What `write_sheet` writes, `read_sheet` reads back, with its names; and rows in any order are one sheet, with one text.
use Prim.Native.Nat.{ℕ, ◌-◌, ◌≤◌, ◌<◌}
use mathlib.Core.Path.{◌≡◌, refl, sym, ◌∙◌, ap}
use mathlib.Core.List.{List, []}
use mathlib.Core.Bool.{true}
use native.Mathlib.Omega.{arith}
use lib.ListN.{length, take, get_or, replicate, length-append}
use lib.Seq.{length-take-le, take_at}
use Rattle.table.specs.Lists.{all}
use Rattle.table.specs.Surgery.{filled}
use Rattle.panel.specs.Rules.{valid_rule}
use Rattle.prime.specs.Sheets.{good_sheet}
use Rattle.headers.specs.Layouts.{sheet}
use Rattle.headers.specs.Verdicts.{judge_of}
use Rattle.headers.specs.Verdicts.{Verdict}
use Rattle.std.specs.Prelude.{Ok, Err}
use Rattle.reading.specs.Rows.{rule_of, sheet_words}
use Rattle.reading.specs.declared.ReadAnswer.{ReadAnswer}
use Rattle.naming.specs.Naming.{name_of}
use Rattle.naming.specs.Columns.{names_for}
use Rattle.writing.specs.SheetText.{sheet_text}
use Rattle.writing.specs.Writing.{WritesNamed, Writes}
use Rattle.writing.specs.declared.WriteAnswer.{WriteAnswer}
use Rattle.writing.proofs.WriteLaws.{write_unique}
use Rattle.sorting.specs.Orders.{Same, sorted}
use Rattle.sorting.proofs.OrderLaws.{same_refl, same_sym, same_map, same_length, sorted_same}
use Rattle.returned.specs.Returned.{sheet_answer_for, sheet_list_for, sheet_answer, sheet_list, ReadsSheet}
use Rattle.roundtrip.specs.Rows.{text_rows, RowsMoved}
use Rattle.roundtrip.specs.Trips.{Written, Read, ReadAs, WrittenAgain}
use Rattle.roundtrip.proofs.RowLaws.{words_of_rows}
use Rattle.roundtrip.proofs.SheetLaws.{sheet_good, sheet_back, good_valid}
use Rattle.roundtrip.proofs.NameLaws.{labels, label_at, names_back, same_back}
use Rattle.roundtrip.proofs.ReadingLaws.{read_as, read_back}
use Rattle.roundtrip.proofs.WritingLaws.{TextOf, text_written, good_written, writes_front}

-- texts with the same rows have the same words
words_same : (t u : List ℕ) → RowsMoved t u → Same (sheet_words t) (sheet_words u)
words_same t u e = rw (words_of_rows t, words_of_rows u) (same_map rule_of (text_rows t) (text_rows u) e)

-- ---- what was written

-- is written again from a slice in which 0 follows it
text_again : (n : ℕ) (names : List (List ℕ)) (words : List ℕ) (count : ℕ) (t : List ℕ) → TextOf n names words count t → (room : ℕ) (before after : List ℕ) (r : WriteAnswer)
    → length t ≤ length before → WritesNamed n names (filled room (take count words)) count before after r → WrittenAgain t after r
unfolding filled
text_again n names words count t h room before after r fits w =
    let s = take count words in
    let k : length s ≡ count = length-take-le count words h.counted in
    let f : take count (filled room s) ≡ s = take_at s _ count k in
    let l : count ≤ length (filled room s) = omega (arith, k, length-append s (replicate (room - length s) 0)) in
    let q : sheet_text n names (take count (filled room s)) ≡ t = ap (sheet_text n names) f ∙ sym h.text in
    rw q at (good_written n names (filled room s) count before after r w h.size l (ap (good_sheet n) f ∙ h.good) (rw q fits))

module _ (n : ℕ) (words : List ℕ) (count : ℕ) (panel maker t : List ℕ) (w : Written n words count panel maker t) where
  is : TextOf n (names_for panel maker n) words count t
  is = text_written n words count panel maker t w

  valid : all (valid_rule n) (take count words) ≡ true
  valid = good_valid n (take count words) is.good

  -- its text is accepted, for its panel
  pub written_good : judge_of sheet t ≡ Ok n
  written_good = ap (judge_of sheet) is.text ∙ sheet_good n is.size (names_for panel maker n) (labels panel maker n) (take count words) valid

  written_words : sheet_words t ≡ take count words
  written_words = ap sheet_words is.text ∙ sheet_back n is.size (names_for panel maker n) (labels panel maker n) (take count words) valid

  -- a text with the same rows, in any order, is read as what was written
  pub moved_read : (u : List ℕ) → judge_of sheet u ≡ Ok n → RowsMoved t u → (before after : List ℕ) (r : ReadAnswer) → ReadsSheet u before after r → count ≤ length before
      → ReadAs n words count (length before) after r
  moved_read u good same before after r reads room =
      let e : Same (sheet_words u) (take count words) = rw written_words at (same_sym (words_same t u same)) in
      let k : length (take count words) ≡ count = length-take-le count words is.counted in
      let x = read_as u n good (take count words) is.good e before after r reads (omega arith) in
      (x.0 ∙ ap (λ (i : ℕ). record { code = 0; place = 0; n = n; count = i }) k, x.1)

  -- so is the text itself
  pub written_read : (before after : List ℕ) (r : ReadAnswer) → ReadsSheet t before after r → count ≤ length before → ReadAs n words count (length before) after r
  written_read before after r reads room = moved_read t written_good (same_refl (text_rows t)) before after r reads room

  -- its names are those that it was written with, whatever the maker's text
  pub written_labels : (names_for panel maker n ≡ [] → ⊥) → (m : List ℕ) → names_for t m n ≡ names_for panel maker n
  written_labels some m = ap (λ (x : List ℕ). names_for x m n) is.text ∙ names_back n is.size (take count words) valid (names_for panel maker n) (labels panel maker n) some m

  -- column by column
  pub written_names : (names_for panel maker n ≡ [] → ⊥) → (m : List ℕ) (v : ℕ) → v < n → name_of t m v ≡ name_of panel maker v
  written_names some m v l =
      let q = written_labels some m in
      label_at t m n v (λ e. some (sym q ∙ e)) l ∙ ap (λ (ns : List (List ℕ)). get_or ns v []) q ∙ sym (label_at panel maker n v some l)

  -- and with an empty maker's text also where there are none
  pub written_same : names_for t [] n ≡ names_for panel maker n
  written_same = ap (λ (x : List ℕ). names_for x [] n) is.text ∙ same_back n is.size (take count words) valid (names_for panel maker n) (labels panel maker n)

  -- a text with the same rows, in any order, read and written with the same names is the text again, where there is room
  pub moved_back : (u m : List ℕ) → judge_of sheet u ≡ Ok n → RowsMoved t u → names_for u m n ≡ names_for panel maker n
      → (before after : List ℕ) (r : ReadAnswer) → ReadsSheet u before after r → count ≤ length before
      → (out out' : List ℕ) (x : WriteAnswer) → Writes r.n after r.count u m out out' x → length t ≤ length out → WrittenAgain t out' x
  moved_back u m good same names before after r reads room out out' x writes fits =
      let q = moved_read u good same before after r reads room in
      text_again n (names_for panel maker n) words count t is (length before) out out' x fits (front r after q.0 q.1 writes)
    where
      front : (r : ReadAnswer) (after : List ℕ) → r ≡ record { code = 0; place = 0; n = n; count = count } → after ≡ filled (length before) (take count words)
          → Writes r.n after r.count u m out out' x → WritesNamed n (names_for panel maker n) (filled (length before) (take count words)) count out out' x
      front r after e f a = rw (e, f, names) at a

-- ---- however the rows stood

-- two writings of the same
one_writing : (n : ℕ) (names names' : List (List ℕ)) (s s' : List ℕ) (k k' : ℕ) (out x y : List ℕ) (w w' : WriteAnswer) → names ≡ names' → s ≡ s' → k ≡ k'
    → WritesNamed n names s k out x w → WritesNamed n names' s' k' out y w' → (w ≡ w') × (x ≡ y)
one_writing n names names' s s' k k' out x y w w' e f g a b = write_unique (rw (e, f, g) at a) b

module _ (t u : List ℕ) (same : RowsMoved t u) where
  one_sheet : sorted (sheet_words t) ≡ sorted (sheet_words u)
  one_sheet = sorted_same (sheet_words t) (sheet_words u) (words_same t u same)

  one_count : length (sheet_words t) ≡ length (sheet_words u)
  one_count = same_length (words_same t u same)

  -- two readings are one, in slices of one length
  pub moved_reading : judge_of sheet t ≡ judge_of sheet u → (before after before' after' : List ℕ) (r r' : ReadAnswer) → length before ≡ length before'
      → ReadsSheet t before after r → ReadsSheet u before' after' r' → (r ≡ r') × (after ≡ after')
  unfolding sheet_answer sheet_list
  moved_reading v before after before' after' r r' l h k =
      (h.answer ∙ rw (v, l) (answers (judge_of sheet u)) ∙ sym k.answer, h.words ∙ rw (v, l) (lists (judge_of sheet u)) ∙ sym k.words)
    where
      answers : (x : Verdict) → sheet_answer_for x (sheet_words t) (length before') ≡ sheet_answer_for x (sheet_words u) (length before')
      answers (Err place) = refl
      answers (Ok n) = rw (one_count, one_sheet)

      lists : (x : Verdict) → sheet_list_for x (sheet_words t) (length before') ≡ sheet_list_for x (sheet_words u) (length before')
      lists (Err place) = refl
      lists (Ok n) = rw (one_count, one_sheet)

  -- what was read, written with the same names into the same bytes, is one text
  pub moved_text : (m : List ℕ) (n : ℕ) (words words' : List ℕ) (count count' : ℕ) → Read t n words count → Read u n words' count' → names_for t m n ≡ names_for u m n
      → (out x y : List ℕ) (w w' : WriteAnswer) → Writes n words count t m out x w → Writes n words' count' u m out y w' → (w ≡ w') × (x ≡ y)
  moved_text m n words words' count count' h k names out x y w w' a b =
      let p = read_back t n words count h in
      let q = read_back u n words' count' k in
      one_writing n (names_for t m n) (names_for u m n) (take count words) (take count' words') count count' out x y w w'
      names (p.front ∙ one_sheet ∙ sym q.front) (p.many ∙ one_count ∙ sym q.many)
      (writes_front n (names_for t m n) words count out x w p.fits a) (writes_front n (names_for u m n) words' count' out y w' q.fits b)
