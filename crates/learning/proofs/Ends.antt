-- The end of learn: the self-check, and what is left in both slices.
use mathlib.Core.Path.{◌≡◌, refl, sym, ap, ap₂, ◌∙◌}
use mathlib.Core.Bool.{Bool, true, ◌&&◌, cond}
use mathlib.Core.List.{List}
use Prim.Native.Nat.{ℕ, ◌+◌, ◌≤◌, ◌<◌}
use native.Mathlib.Numerals.{add-one}
use native.Mathlib.Omega.{arith}
use lib.Dec.{eqb, ltb}
use lib.ListN.{length, take, drop, get_or, replicate, drop_of_length-le}
use lib.Seq.{drop-cons, length-take-le}
use borrow.Author.Tests.{lt-ltb, le-ltb, eq-eqb, ne_eqb}
use Rattle.table.specs.Lists.{all, increasing}
use Rattle.table.specs.Surgery.{cleared_from, one_more_if}
use Rattle.table.proofs.Basics.{and_l}
use Rattle.table.proofs.Tables.{holds_filled}
use Rattle.panel.specs.Rules.{valid_rule}
use Rattle.panel.specs.Transitions.{state, next}
use Rattle.prime.specs.Sheets.{good_sheet, antichain, apply_sheet}
use Rattle.answers.specs.Answers.{plain, done}
use Rattle.answers.specs.declared.Answer.{Answer}
use Rattle.learning.specs.Learn.{Run, going, refused, learn_words, learn_start, reproduced, learn_end, learn_run, run_answer, run_book, run_sheet, Learned}
use Rattle.learning.specs.Running.{run_of, GoodTables, Fit, Through, Begun, Finished}
use Rattle.learning.proofs.Words.{run_of_going, run_of_refused}

-- ---- how many words are reproduced

pub reproduced_left : ℕ → List ℕ → List ℕ → ℕ → ℕ
reproduced_left n s b k = k + reproduced n s (drop k b)

pub reproduced_start : (n : ℕ) (s b : List ℕ) → reproduced n s b ≡ reproduced_left n s b 0
unfolding reproduced_left
reproduced_start n s b = omega arith

module _ (n : ℕ) (s b : List ℕ) (k : ℕ) (l : k < length b) (t : ℕ) (et : t ≡ get_or b k 0) (i x j : ℕ) (ei : i ≡ state t) (ex : x ≡ apply_sheet n s i) (ej : j ≡ next t) where
  test_is : eqb (apply_sheet n s (state (get_or b k 0))) (next (get_or b k 0)) ≡ eqb x j
  test_is = ap₂ eqb (sym (ex ∙ ap (apply_sheet n s) (ei ∙ ap state et))) (sym (ej ∙ ap next et))

  here_is : reproduced n s (drop k b) ≡ one_more_if (eqb x j) (reproduced n s (drop (k + 1) b))
  unfolding reproduced
  here_is =
      ap (reproduced n s) (drop-cons b k 0 l)
      ∙ ap₂ (λ (q : Bool) (m : ℕ). one_more_if q (reproduced n s (drop m b))) test_is (sym (add-one k))

  pub reproduced_not : (x ≡ j → ⊥) → reproduced_left n s b k ≡ k
  unfolding reproduced_left
  reproduced_not f = omega (arith, here_is ∙ ap (λ (q : Bool). one_more_if q (reproduced n s (drop (k + 1) b))) (ne_eqb x j f))

  pub reproduced_more : x ≡ j → reproduced_left n s b k ≡ reproduced_left n s b (k + 1)
  unfolding reproduced_left
  reproduced_more e = omega (arith, here_is ∙ ap (λ (q : Bool). one_more_if q (reproduced n s (drop (k + 1) b))) (eq-eqb x j e))

pub reproduced_end : (n : ℕ) (s b : List ℕ) (k : ℕ) → length b ≤ k → reproduced_left n s b k ≡ k
unfolding reproduced_left reproduced
reproduced_end n s b k l = omega (arith, ap (reproduced n s) (drop_of_length-le b {i = k} l))

-- ---- the end

pub good_rules : (n : ℕ) (s : List ℕ) → good_sheet n s ≡ true → all (valid_rule n) s ≡ true
unfolding good_sheet
good_rules n s e = and_l (all (valid_rule n) s) (increasing s && antichain s) e

module _ (n : ℕ) (so : Answer) (book sheet : List ℕ) where
  as_refused : (c p : ℕ) (r : Answer) (bz sz : List ℕ) → learn_end n (run_of so book sheet) ≡ refused c p → r ≡ plain c p 0 0 → bz ≡ replicate (length book) 0 → sz ≡ replicate (length sheet) 0
      → Finished n so book sheet r bz sz
  unfolding run_answer run_book run_sheet
  as_refused c p r bz sz e er eb es = record {
    answer = er ∙ sym (ap run_answer e);
    book_words = eb ∙ sym (ap (run_book (length book)) e);
    sheet_words = es ∙ sym (ap (run_sheet (length sheet)) e);
  }

  pub end_stands : Fit n so book sheet → (so.code ≡ 0 → ⊥) → (bz sz : List ℕ) → bz ≡ replicate (length book) 0 → sz ≡ replicate (length sheet) 0 → Finished n so book sheet so bz sz
  unfolding learn_end
  end_stands f g bz sz eb es =
      as_refused so.code so.place so bz sz (ap (learn_end n) (run_of_refused so book sheet g)) (f.alone g) eb es

  module _ (f : Fit n so book sheet) (z : so.code ≡ 0) where
    sd : GoodTables n so book sheet
    sd = f.sound z

    abbrev b : List ℕ
    b = take so.book_count book

    abbrev s : List ℕ
    s = take so.sheet_count sheet

    pub end_asks : (n ≤ 10) × (all (valid_rule n) s ≡ true)
    end_asks = (sd.small, good_rules n s sd.sheet_is_good)

    b_length : length b ≡ so.book_count
    b_length = length-take-le so.book_count book sd.books_in

    s_length : length s ≡ so.sheet_count
    s_length = length-take-le so.sheet_count sheet sd.sheets_in

    end_is : learn_end n (run_of so book sheet) ≡ cond (ltb (reproduced n s b) (length b)) (refused 10 (reproduced n s b)) (going b s so.struck so.added)
    unfolding learn_end
    end_is = ap (learn_end n) (run_of_going so book sheet z)

    pub end_ten : (p : ℕ) → p ≡ reproduced n s b → p < length b → (r : Answer) → r ≡ plain 10 p 0 0 → (bz sz : List ℕ) → bz ≡ replicate (length book) 0 → sz ≡ replicate (length sheet) 0 → Finished n so book sheet r bz sz
    end_ten p ep l r er bz sz eb es =
        as_refused 10 p r bz sz
        (end_is ∙ ap₂ (λ (q : Bool) (m : ℕ). cond q (refused 10 m) (going b s so.struck so.added)) (lt-ltb (reproduced n s b) (length b) (omega (arith, ep, l))) (sym ep))
        er eb es

    pub end_done : reproduced n s b ≡ length b → (bz sz : List ℕ) → bz ≡ cleared_from so.book_count book → sz ≡ cleared_from so.sheet_count sheet → Finished n so book sheet so bz sz
    unfolding run_answer run_book run_sheet
    end_done e₀ bz sz eb es =
        let e : learn_end n (run_of so book sheet) ≡ going b s so.struck so.added =
        end_is ∙ ap (λ (q : Bool). cond q (refused 10 (reproduced n s b)) (going b s so.struck so.added)) (le-ltb (reproduced n s b) (length b) (omega (arith, e₀))) in
        record {
          answer = sd.as_done ∙ ap₂ (λ (u v : ℕ). done u v so.struck so.added) (sym b_length) (sym s_length) ∙ sym (ap run_answer e);
          book_words = holds_filled book bz so.book_count (length book) b (record { is = refl; fits = sd.books_in; same = refl }) eb ∙ sym (ap (run_book (length book)) e);
          sheet_words = holds_filled sheet sz so.sheet_count (length sheet) s (record { is = refl; fits = sd.sheets_in; same = refl }) es ∙ sym (ap (run_sheet (length sheet)) e);
        }

-- ---- the whole

pub learn_done : (n : ℕ) (ts book sheet : List ℕ) (start so r : Answer) (s₁ b₂ s₂ b₃ s₃ : List ℕ) → length s₁ ≡ length sheet → length b₂ ≡ length book → length s₂ ≡ length s₁
    → Begun n sheet start s₁ → Through n ts start book s₁ so b₂ s₂ → Finished n so b₂ s₂ r b₃ s₃ → Learned n ts (length book) (length sheet) b₃ s₃ r
unfolding learn_run
learn_done n ts book sheet start so r s₁ b₂ s₂ b₃ s₃ l1 l2 l3 h t f =
    let e : run_of so b₂ s₂ ≡ learn_words n (length book) (length sheet) 0 ts (learn_start n (length sheet)) =
    t.run ∙ ap₂ (λ (m : ℕ) (q : Run). learn_words n (length book) m 0 ts q) l1 (h.run book) in
    let q : learn_end n (run_of so b₂ s₂) ≡ learn_run n (length book) (length sheet) ts = ap (learn_end n) e in
    record {
      answer = f.answer ∙ ap run_answer q;
      book_words = f.book_words ∙ ap₂ run_book l2 q;
      sheet_words = f.sheet_words ∙ ap₂ run_sheet (l3 ∙ l1) q;
    }
