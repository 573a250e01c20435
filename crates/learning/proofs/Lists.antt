-- Learn over a list: the start, and word after word.
use mathlib.Core.Path.{◌≡◌, refl, sym, ap, ap₂, ◌∙◌, subst}
use mathlib.Core.Bool.{Bool, true, false, not, cond}
use mathlib.Core.List.{List, [], ◌∷◌, ◌++◌}
use Prim.Native.Nat.{ℕ, ◌+◌, ◌≤◌, ◌<◌}
use native.Mathlib.Numerals.{add-one}
use native.Mathlib.Omega.{arith}
use lib.Dec.{ltb}
use lib.ListN.{length, take, drop, get_or, drop_of_length-le}
use lib.Seq.{drop-cons}
use Rattle.table.specs.Surgery.{Holds}
use Rattle.table.proofs.Tables.{over_holds}
use Rattle.panel.specs.Masks.{panel_size}
use Rattle.prime.specs.Sheets.{good_sheet, fresh_sheet, sheet_of}
use Rattle.prime.proofs.Least.{good_i}
use Rattle.prime.proofs.Laws.{fresh_sheet_of, sheet_of_good}
use Rattle.book.specs.Books.{good_book}
use Rattle.sheet.proofs.Fresh.{fresh_length}
use Rattle.answers.specs.Answers.{refuse, plain, done}
use Rattle.answers.specs.declared.Answer.{Answer}
use Rattle.calls.specs.Fresh.{fresh_code}
use Rattle.calls.proofs.Ends.{fresh_none}
use Rattle.learning.specs.Learn.{going, refused, learn_step, learn_words, learn_start}
use Rattle.learning.specs.Running.{run_of, Fit, WordLearned, Through, Begun}
use Rattle.learning.proofs.Words.{run_of_going, run_of_refused}

-- ---- the start

start_refused : (n room : ℕ) → (fresh_code n room ≡ 0 → ⊥) → learn_start n room ≡ refused (fresh_code n room) 0
unfolding learn_start fresh_code
start_refused n room f = go (not (panel_size n)) (ltb room n) f
  where
    go : (a b : Bool) → (refuse a 2 (refuse b 9 0) ≡ 0 → ⊥) → cond a (refused 2 0) (cond b (refused 9 0) (going [] (fresh_sheet n) 0 0)) ≡ refused (refuse a 2 (refuse b 9 0)) 0
    go true b g = refl
    go false true g = refl
    go false false g = absurd (g refl)

start_going : (n room : ℕ) → fresh_code n room ≡ 0 → learn_start n room ≡ going [] (fresh_sheet n) 0 0
unfolding learn_start fresh_code
start_going n room e = go (not (panel_size n)) (ltb room n) e
  where
    go : (a b : Bool) → refuse a 2 (refuse b 9 0) ≡ 0 → cond a (refused 2 0) (cond b (refused 9 0) (going [] (fresh_sheet n) 0 0)) ≡ going [] (fresh_sheet n) 0 0
    go true b p = absurd (omega (arith, p))
    go false true p = absurd (omega (arith, p))
    go false false p = refl

pub fresh_good : (n : ℕ) → n ≤ 10 → good_sheet n (fresh_sheet n) ≡ true
fresh_good n l = ap (good_sheet n) (fresh_sheet_of n l) ∙ good_i n (sheet_of n []) (sheet_of_good n l [])

module _ (n : ℕ) (s : List ℕ) (c : ℕ) (ec : c ≡ fresh_code n (length s)) (r : Answer) where
  pub begun_refused : (c ≡ 0 → ⊥) → r ≡ plain c 0 0 0 → Begun n s r s
  begun_refused f er =
      let rc : r.code ≡ c = ap (λ (a : Answer). a.code) er in
      let g : r.code ≡ 0 → ⊥ = λ p. f (sym rc ∙ p) in
      record {
        run = λ book. run_of_refused r book s g ∙ ap₂ refused (rc ∙ ec) (ap (λ (a : Answer). a.place) er) ∙ sym (start_refused n (length s) (λ p. f (ec ∙ p)));
        fit = λ book. record {
          sound = λ p. absurd (g p);
          alone = λ p. er ∙ ap₂ (λ (u v : ℕ). plain u v 0 0) (sym rc) (sym (ap (λ (a : Answer). a.place) er));
        };
      }

  pub begun_done : c ≡ 0 → (y : List ℕ) → y ≡ fresh_sheet n ++ drop n s → r ≡ done 0 n 0 0 → Begun n s r y
  unfolding good_book
  begun_done e y ey er =
      let k = fresh_none n (length s) (sym ec ∙ e) in
      let h : Holds y n (length s) (fresh_sheet n) = subst (λ (x : List ℕ). Holds x n (length s) (fresh_sheet n)) (sym ey) (over_holds (fresh_sheet n) s n (sym (fresh_length n)) k.1) in
      let rs : r.sheet_count ≡ n = ap (λ (a : Answer). a.sheet_count) er in
      let rb : r.book_count ≡ 0 = ap (λ (a : Answer). a.book_count) er in
      let ts : take r.sheet_count y ≡ fresh_sheet n = ap (λ (m : ℕ). take m y) rs ∙ h.is in
      record {
        run = λ book.
            run_of_going r book y (ap (λ (a : Answer). a.code) er)
            ∙ (λ q. going (take (rb q) book) (ts q) (ap (λ (a : Answer). a.struck) er q) (ap (λ (a : Answer). a.added) er q))
            ∙ sym (start_going n (length s) (sym ec ∙ e));
        fit = λ book. record {
          sound = λ p. record {
            small = k.0;
            books_in = omega (arith, rb);
            sheets_in = omega (arith, rs, h.fits);
            book_is_good = ap (λ (m : ℕ). good_book n (take m book)) rb;
            sheet_is_good = ap (good_sheet n) ts ∙ fresh_good n k.0;
            struck_few = omega (arith, ap (λ (a : Answer). a.struck) er);
            added_few = omega (arith, ap (λ (a : Answer). a.added) er);
            as_done = er ∙ sym (ap (λ (u : Answer). done u.book_count u.sheet_count u.struck u.added) er);
          };
          alone = λ p. absurd (p (ap (λ (a : Answer). a.code) er));
        };
      }

-- ---- word after word

-- after a refusal no word is learned, and it stands
words_stand : (n br sr k : ℕ) (ts : List ℕ) (c p : ℕ) → learn_words n br sr k ts (refused c p) ≡ refused c p
unfolding learn_words learn_step
words_stand n br sr k [] c p = refl
words_stand n br sr k (t ∷ ts) c p = words_stand n br sr (k + 1) ts c p

-- the words before k have been learned
pub record Learning (n : ℕ) (ts : List ℕ) (a : Answer) (book sheet : List ℕ) (k : ℕ) (so : Answer) (bz sz : List ℕ) : Type 0 where
  pub left : learn_words n (length book) (length sheet) k (drop k ts) (run_of so bz sz) ≡ learn_words n (length book) (length sheet) 0 ts (run_of a book sheet)
  pub fit : Fit n so bz sz
  pub book_room : length bz ≡ length book
  pub sheet_room : length sz ≡ length sheet

pub through_stands : (n : ℕ) (ts : List ℕ) (a : Answer) (book sheet : List ℕ) → Fit n a book sheet → (a.code ≡ 0 → ⊥) → Through n ts a book sheet a book sheet
through_stands n ts a book sheet f g =
    let e = run_of_refused a book sheet g in
    record { run = e ∙ sym (ap (learn_words n (length book) (length sheet) 0 ts) e ∙ words_stand n (length book) (length sheet) 0 ts a.code a.place); fit = f }

module _ (n : ℕ) (ts : List ℕ) (a : Answer) (book sheet : List ℕ) (k : ℕ) (so : Answer) (bz sz : List ℕ) (q : Learning n ts a book sheet k so bz sz) where
  pub learning_more : k < length ts → (r : Answer) (by sy : List ℕ) → length by ≡ length bz → length sy ≡ length sz → WordLearned n k (get_or ts k 0) so bz sz r by sy → Learning n ts a book sheet (k + 1) r by sy
  unfolding learn_words
  learning_more l r by sy lb ls h = record {
    left =
        ap (learn_words n (length book) (length sheet) (k + 1) (drop (k + 1) ts)) h.run
        ∙ ap₂ (λ (x y : ℕ). learn_words n (length book) (length sheet) (k + 1) (drop (k + 1) ts) (learn_step n x y k (get_or ts k 0) (run_of so bz sz))) q.book_room q.sheet_room
        ∙ sym (ap (λ (l : List ℕ). learn_words n (length book) (length sheet) k l (run_of so bz sz)) (drop-cons ts k 0 l ∙ ap (λ (m : ℕ). get_or ts k 0 ∷ drop m ts) (sym (add-one k))))
        ∙ q.left;
    fit = h.fit;
    book_room = lb ∙ q.book_room;
    sheet_room = ls ∙ q.sheet_room;
  }

  pub learning_end : length ts ≤ k → Through n ts a book sheet so bz sz
  unfolding learn_words
  learning_end l = record {
    run = sym (ap (λ (x : List ℕ). learn_words n (length book) (length sheet) k x (run_of so bz sz)) (drop_of_length-le ts {i = k} l)) ∙ q.left;
    fit = q.fit;
  }

  -- a refusal stands for the words behind it
  pub learning_stop : k < length ts → (r : Answer) (by sy : List ℕ) → WordLearned n k (get_or ts k 0) so bz sz r by sy → (r.code ≡ 0 → ⊥) → length by ≡ length bz → length sy ≡ length sz → Through n ts a book sheet r by sy
  learning_stop l r by sy h f lb ls =
      let on = learning_more l r by sy lb ls h in
      record {
        run = run_of_refused r by sy f
            ∙ sym (words_stand n (length book) (length sheet) (k + 1) (drop (k + 1) ts) r.code r.place)
            ∙ ap (learn_words n (length book) (length sheet) (k + 1) (drop (k + 1) ts)) (sym (run_of_refused r by sy f))
            ∙ on.left;
        fit = h.fit;
      }
