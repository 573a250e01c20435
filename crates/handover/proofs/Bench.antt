-- The bench examples: one computed test over the table, and one law that turns it into a statement on each call.
use mathlib.Core.Path.{◌≡◌, refl, sym, ap, ap₂, ◌∙◌, subst}
use mathlib.Core.Bool.{true, ◌&&◌, false≢true}
use mathlib.Core.List.Memᴰ.{head as here}
use mathlib.Core.List.Memᴰ.{tail as there}
use mathlib.Core.List.{List, [], ◌∷◌, Memᴰ as Mem}
use Prim.Native.Nat.{ℕ}
use lib.Dec.{eqb}
use borrow.Author.Tests.{eqb-true}
use Rattle.table.specs.Lists.{has, missing}
use Rattle.table.specs.Surgery.{filled}
use Rattle.table.proofs.Basics.{and_l, and_r}
use Rattle.panel.specs.Masks.{panel_size, relays, on, all_on, all_off, bits_where}
use Rattle.panel.specs.Rules.{rule_word, head, must_on, must_off, valid_rule, covers, contains, narrows, rules}
use Rattle.panel.specs.Transitions.{transition_word, state, next, observed, valid_transition, rests, spared}
use Rattle.book.specs.Books.{good_book, differ, told, against, with_word, clash, union}
use Rattle.prime.specs.Sheets.{least, sheet_where, permits, good_sheet, fresh_sheet, take_sheet, join_sheet, struck_count, added_count, pulls_in, apply_sheet}
use Rattle.answers.specs.declared.Answer.{Answer}
use Rattle.calls.specs.declared.Applied.{Applied}
use Rattle.calls.specs.Take.{given_code, entry_code, take_code, take_answer, take_book, take_words}
use Rattle.calls.specs.Apply.{apply_code, apply_answer}
use Rattle.learning.specs.Learn.{taken, learn_step, learn_words, learn_start, reproduced, learn_end, learn_run, run_answer, run_book, run_sheet}
use Rattle.joining.specs.Joining.{exceeds, pieces_code, join_code, join_answer, book_after, sheet_after}
use Rattle.handover.specs.Bench.{Row, learns, takes, joins, applies, RowStands, same_words, same_answer, row_holds, table_holds, bench}
use Rattle.inner.specs.Booking.{booking_code, inner_code}

-- every row of the bench passes its test
pub bench_holds : table_holds bench ≡ true
unfolding has missing filled panel_size relays on all_on all_off bits_where rule_word head must_on must_off valid_rule covers contains narrows rules transition_word state next observed valid_transition rests spared good_book differ told against with_word clash union least sheet_where permits good_sheet fresh_sheet take_sheet join_sheet struck_count added_count pulls_in apply_sheet given_code booking_code entry_code inner_code take_code take_answer take_book take_words apply_code apply_answer taken learn_step learn_words learn_start reproduced learn_end learn_run run_answer run_book run_sheet exceeds pieces_code join_code join_answer book_after sheet_after
bench_holds = refl

-- ---- what the tests mean

words_same : (xs ys : List ℕ) → same_words xs ys ≡ true → xs ≡ ys
words_same [] [] e = refl
words_same [] (y ∷ ys) e = absurd (false≢true e)
words_same (x ∷ xs) [] e = absurd (false≢true e)
words_same (x ∷ xs) (y ∷ ys) e =
    ap₂ (λ (z : ℕ) (zs : List ℕ). z ∷ zs) (eqb-true x y (and_l (eqb x y) (same_words xs ys) e)) (words_same xs ys (and_r (eqb x y) (same_words xs ys) e))

answer_same : (a b : Answer) → same_answer a b ≡ true → a ≡ b
answer_same a b e₁ =
    let e₂ = and_r (eqb a.code b.code) _ e₁ in
    let e₃ = and_r (eqb a.place b.place) _ e₂ in
    let e₄ = and_r (eqb a.book_count b.book_count) _ e₃ in
    let e₅ = and_r (eqb a.sheet_count b.sheet_count) (eqb a.struck b.struck && eqb a.added b.added) e₄ in
    let p₁ = eqb-true a.code b.code (and_l (eqb a.code b.code) _ e₁) in
    let p₂ = eqb-true a.place b.place (and_l (eqb a.place b.place) _ e₂) in
    let p₃ = eqb-true a.book_count b.book_count (and_l (eqb a.book_count b.book_count) _ e₃) in
    let p₄ = eqb-true a.sheet_count b.sheet_count (and_l (eqb a.sheet_count b.sheet_count) (eqb a.struck b.struck && eqb a.added b.added) e₄) in
    let p₅ = eqb-true a.struck b.struck (and_l (eqb a.struck b.struck) (eqb a.added b.added) e₅) in
    let p₆ = eqb-true a.added b.added (and_r (eqb a.struck b.struck) (eqb a.added b.added) e₅) in
    λ i. record { code = p₁ i; place = p₂ i; book_count = p₃ i; sheet_count = p₄ i; struck = p₅ i; added = p₆ i }

-- an answer and two slices that a contract gives, and those of a row that passed
results_same : (r r' a : Answer) (book book' b sheet sheet' s : List ℕ) → r ≡ r' → book ≡ book' → sheet ≡ sheet'
    → (same_answer r' a && (same_words book' b && same_words sheet' s)) ≡ true → (r ≡ a) × (book ≡ b) × (sheet ≡ s)
results_same r r' a book book' b sheet sheet' s er eb es e =
    let e₂ = and_r (same_answer r' a) (same_words book' b && same_words sheet' s) e in (
      er ∙ answer_same r' a (and_l (same_answer r' a) (same_words book' b && same_words sheet' s) e),
      eb ∙ words_same book' b (and_l (same_words book' b) (same_words sheet' s) e₂),
      es ∙ words_same sheet' s (and_r (same_words book' b) (same_words sheet' s) e₂),
    )

-- a row that passes its test stands
pub row_stands : (k : Row) → row_holds k ≡ true → RowStands k
row_stands (learns n words bookRoom sheetRoom a b s) e =
    λ r book sheet h. results_same r _ a book _ b sheet _ s h.answer h.book_words h.sheet_words e
row_stands (takes n oldBook bookCount oldSheet sheetCount i j a b s) e =
    λ r book sheet h. results_same r _ a book _ b sheet _ s h.answer h.book_words h.sheet_words e
row_stands (joins n p q oldBook oldSheet a b s) e =
    λ r book sheet h. results_same r _ a book _ b sheet _ s h.answer h.book_left h.sheet_left e
row_stands (applies n sheet sheetCount x a y) e = λ r h. (
  ap (λ (z : Applied). z.answer) h ∙ answer_same (apply_answer n sheet sheetCount x).answer a (and_l (same_answer (apply_answer n sheet sheetCount x).answer a) (eqb (apply_answer n sheet sheetCount x).state y) e),
  ap (λ (z : Applied). z.state) h ∙ eqb-true (apply_answer n sheet sheetCount x).state y (and_r (same_answer (apply_answer n sheet sheetCount x).answer a) (eqb (apply_answer n sheet sheetCount x).state y) e),
)

rows_stand : (ks : List Row) → table_holds ks ≡ true → (k : Row) → Mem k ks → RowStands k
rows_stand [] e k m = elim m [ ]
rows_stand (x ∷ xs) e k (here p) = subst RowStands (sym p) (row_stands x (and_l (row_holds x) (table_holds xs) e))
rows_stand (x ∷ xs) e k (there m) = rows_stand xs (and_r (row_holds x) (table_holds xs) e) k m

-- K1 to K12: whatever satisfies the contract of a row's call has the row's answer and words
pub bench_stands : (k : Row) → Mem k bench → RowStands k
bench_stands k m = rows_stand bench bench_holds k m
