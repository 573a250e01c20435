-- The definitions leave no choice: a refusal has one code and one place, and a sheet is printed exactly where nothing is refused.
use mathlib.Core.Path.{◌≡◌, refl, sym, ap, ◌∙◌, subst}
use mathlib.Core.Logic.{◌↔◌, inl}
use mathlib.Core.List.{List, ◌++◌}
use Prim.Native.Nat.{ℕ, ◌≤◌, ◌<◌}
use native.Mathlib.Omega.{arith}
use lib.ListN.{length}
use Rattle.table.specs.Lists.{all}
use Rattle.panel.specs.Transitions.{valid_transition}
use Rattle.prime.specs.Sheets.{sheet_of}
use Rattle.headers.specs.Layouts.{recording}
use Rattle.headers.specs.Accepted.{Accepted}
use Rattle.headers.specs.Places.{Place, Untyped}
use Rattle.headers.proofs.PlaceLaws.{one_size, one_place, accepted_no_place}
use Rattle.headers.proofs.TypeLines.{untyped_faulty}
use Rattle.reading.specs.Rows.{text_words}
use Rattle.reading.proofs.WordLaws.{read_size, read_valid}
use Rattle.program.specs.Program.{refusal_line, Runs}
use Rattle.book.specs.Books.{OneNext}
use Rattle.handover.specs.Learning.{Learnable, LearnRefused}
use Rattle.handover.proofs.Stopping.{learnable_not_refused, learn_refused_once}
use Rattle.promises.specs.Printed.{Recorded, Refused, too_long, faulty, too_many, contradicted, too_large, Prints, SheetPrinted, Printed, a_sheet, a_refusal, Rooms}
use Rattle.promises.proofs.Learning.{words_learnable}
use Rattle.promises.proofs.OneLine.{line_unique, line_not_sheet}
use Rattle.promises.proofs.TextToText.{text_to_text}

-- ---- a refusal has one code and one place

-- of two recordings of one text both the size and the words are one
recorded_once : {t : List ℕ} {n m : ℕ} {ts us : List ℕ} → Recorded t n ts → Recorded t m us → (m ≡ n) × (us ≡ ts)
recorded_once {t = t} {n = n} {m = m} a b = (one_size recording t m n b.good a.good, b.words ∙ sym a.words)

not_good : {t : List ℕ} {n k : ℕ} → Accepted recording n t → Place recording t k → ⊥
not_good {t = t} {n = n} {k = k} h p = accepted_no_place recording t n k h p

module _ (t : List ℕ) where
  -- the text is refused with c at p, and with nothing else
  abbrev Only : ℕ → ℕ → Type 0
  Only c p = (d q : ℕ) → Refused t d q → (c ≡ d) × (p ≡ q)

  only_13 : 24576 < length t → Only 13 0
  only_13 h _ _ (too_long l) = (refl, refl)
  only_13 h _ _ (faulty k s p) = absurd (omega (arith, h, s))
  only_13 h _ _ (too_many n s g m) = absurd (omega (arith, h, s))
  only_13 h _ _ (contradicted n k ts r c) = absurd (omega (arith, h, r.short))
  only_13 h _ _ (too_large n k ts r c) = absurd (omega (arith, h, r.short))

  only_11 : (j : ℕ) → length t ≤ 24576 → Place recording t j → Only 11 j
  only_11 j h f _ _ (too_long l) = absurd (omega (arith, h, l))
  only_11 j h f _ _ (faulty k s p) = (refl, one_place recording t j k f p)
  only_11 j h f _ _ (too_many n s g m) = absurd (not_good g f)
  only_11 j h f _ _ (contradicted n k ts r c) = absurd (not_good r.good f)
  only_11 j h f _ _ (too_large n k ts r c) = absurd (not_good r.good f)

  only_8 : (n : ℕ) → length t ≤ 24576 → Accepted recording n t → 1024 < length (text_words t) → Only 8 0
  only_8 n h g f _ _ (too_long l) = absurd (omega (arith, h, l))
  only_8 n h g f _ _ (faulty k s p) = absurd (not_good g p)
  only_8 n h g f _ _ (too_many m s i l) = (refl, refl)
  only_8 n h g f _ _ (contradicted m k ts r c) = absurd (omega (arith, f, r.listed, ap length r.words))
  only_8 n h g f _ _ (too_large m k ts r c) = absurd (omega (arith, f, r.listed, ap length r.words))

  -- a text that is read well is refused for its words only
  module _ (n : ℕ) (ts : List ℕ) (a : Recorded t n ts) where
    as_refused : {m c k : ℕ} {us : List ℕ} → Recorded t m us → LearnRefused m us 1024 1024 c k → LearnRefused n ts 1024 1024 c k
    as_refused {c = c} {k = k} {us = us} b q =
        subst (λ (z : List ℕ). LearnRefused n z 1024 1024 c k) (recorded_once a b).1 (subst (λ (z : ℕ). LearnRefused z us 1024 1024 c k) (recorded_once a b).0 q)

    -- a refusal of learning, of whatever code: no other
    once : {c k d j m : ℕ} {us : List ℕ} → LearnRefused n ts 1024 1024 c k → Recorded t m us → LearnRefused m us 1024 1024 d j → (c ≡ d) × (k ≡ j)
    once f b q = learn_refused_once n 1024 1024 f (as_refused b q)

    only_learn : (c j : ℕ) → LearnRefused n ts 1024 1024 c j → Only c j
    only_learn c j f _ _ (too_long l) = absurd (omega (arith, a.short, l))
    only_learn c j f _ _ (faulty k s p) = absurd (not_good a.good p)
    only_learn c j f _ _ (too_many m s i l) = absurd (omega (arith, l, a.listed, ap length a.words))
    only_learn c j f _ _ (contradicted m k us r q) = once f r q
    only_learn c j f _ _ (too_large m k us r q) = once f r q

    not_refused : Learnable n ts 1024 1024 → (d q : ℕ) → Refused t d q → ⊥
    not_refused l _ _ (too_long h) = omega (arith, a.short, h)
    not_refused l _ _ (faulty k s p) = not_good a.good p
    not_refused l _ _ (too_many m s i h) = omega (arith, h, a.listed, ap length a.words)
    not_refused l _ _ (contradicted m k us r c) = learnable_not_refused n 1024 1024 l (as_refused r c)
    not_refused l _ _ (too_large m k us r c) = learnable_not_refused n 1024 1024 l (as_refused r c)

  pub refused_once : (c p : ℕ) → Refused t c p → Only c p
  refused_once _ _ (too_long h) = only_13 h
  refused_once _ _ (faulty k s p) = only_11 k s p
  refused_once _ _ (too_many n s g m) = only_8 n s g m
  refused_once _ _ (contradicted n k ts r c) = only_learn n ts r 7 k c
  refused_once _ _ (too_large n k ts r c) = only_learn n ts r 9 k c

-- ---- exactly when

-- of what was read, the first words or all of them, two things alone can stop learning: a state with two successors, and too many prime rules
pub recorded_learnable : {t : List ℕ} {n : ℕ} {ts : List ℕ} → Recorded t n ts → (ps rest : List ℕ) → ts ≡ ps ++ rest → OneNext ps
    → ((qs more : List ℕ) → ps ≡ qs ++ more → length (sheet_of n qs) ≤ 1024) → Learnable n ps 1024 1024
recorded_learnable {t = t} {n = n} {ts = ts} a ps rest e one fits =
    words_learnable n (read_size t n a.good) ts (ap (all (valid_transition n)) a.words ∙ read_valid t n a.good) a.listed ps rest e one fits

module _ {t list book sheet out l b s out' : List ℕ} {r : ℕ} (rooms : Rooms list book sheet out) (runs : Runs t list book sheet out l b s out' r) where
  -- a recording that nothing stops is answered with its sheet
  pub sheet_printed : (n : ℕ) (ts : List ℕ) → Recorded t n ts → Learnable n ts 1024 1024 → SheetPrinted t out out' r
  sheet_printed n ts a k = go (text_to_text rooms runs)
    where
      go : Printed t out out' r → SheetPrinted t out out' r
      go (a_sheet p) = p
      go (a_refusal p) = absurd (not_refused t n ts a k p.code p.place p.refused)

  -- a text that 01 refuses with c at p is answered with the line of c and p
  pub refusal_printed : (c p : ℕ) → Refused t c p → Prints out out' r (refusal_line c p)
  refusal_printed c p f = go (text_to_text rooms runs)
    where
      go : Printed t out out' r → Prints out out' r (refusal_line c p)
      go (a_sheet q) = absurd (not_refused t q.n q.ts q.recorded q.learned c p f)
      go (a_refusal q) =
          let k = refused_once t q.code q.place q.refused c p f in
          subst (λ (z : ℕ). Prints out out' r (refusal_line c z)) k.1 (subst (λ (z : ℕ). Prints out out' r (refusal_line z q.place)) k.0 q.prints)

  -- and back: what the line tells is how 01 refuses the text
  pub refusal_exactly : (c p : ℕ) → Prints out out' r (refusal_line c p) ↔ Refused t c p
  refusal_exactly c p = (λ f. go f (text_to_text rooms runs), λ f. refusal_printed c p f)
    where
      go : Prints out out' r (refusal_line c p) → Printed t out out' r → Refused t c p
      go f (a_sheet q) = absurd (line_not_sheet c p q.n _ q.s (sym f.text ∙ q.prints.text))
      go f (a_refusal q) =
          let k = line_unique q.code q.place c p (sym q.prints.text ∙ f.text) in
          subst (λ (z : ℕ). Refused t c z) k.1 (subst (λ (z : ℕ). Refused t z q.place) k.0 q.refused)

  -- a row or the end mark with no type line before it is answered with 11 and the number of its line (02, Ask 2)
  pub untyped_printed : (k : ℕ) → length t ≤ 24576 → Untyped recording t k → Prints out out' r (refusal_line 11 k)
  untyped_printed k s u = refusal_printed 11 k (faulty k s (inl (untyped_faulty recording refl t k u)))
