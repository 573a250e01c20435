-- One word of learn: one law for each way through.
use mathlib.Core.Path.{◌≡◌, refl, sym, ap, ap₂, ◌∙◌, subst}
use mathlib.Core.Bool.{Bool, true, false, not, cond}
use mathlib.Core.List.{List}
use Prim.Native.Nat.{ℕ, zero, suc, ◌+◌, ◌*◌, ◌^◌, ◌≤◌, ◌<◌}
use native.Mathlib.Omega.{arith}
use lib.Dec.{ltb}
use lib.ListN.{length, take}
use lib.Seq.{length-take-le}
use borrow.Author.Tests.{not-false, lt-ltb, le-ltb}
use Rattle.table.specs.Surgery.{Holds}
use Rattle.table.proofs.Counting.{missing_le}
use Rattle.table.proofs.Tables.{increasing_short}
use Rattle.panel.specs.Rules.{valid_rule}
use Rattle.panel.specs.Transitions.{transition_word, state, next, valid_transition}
use Rattle.panel.proofs.Words.{rule_i}
use Rattle.panel.proofs.Transitions.{transition_fields, transition_e}
use Rattle.prime.specs.Sheets.{good_sheet, take_sheet, struck_count, added_count}
use Rattle.prime.proofs.Least.{Good, good_e, good_i}
use Rattle.prime.proofs.Laws.{take_good}
use Rattle.prime.proofs.Passes.{rule_small}
use Rattle.book.specs.Books.{states_up, good_book, told, against, with_word}
use Rattle.book.proofs.Books.{book_e, book_increasing}
use Rattle.book.proofs.Telling.{with_longer, with_good}
use Rattle.answers.specs.Answers.{refuse, plain, done, if_done}
use Rattle.answers.specs.declared.Answer.{Answer}
use Rattle.answers.proofs.Laws.{refuse_none, if_done_lem}
use Rattle.learning.specs.Learn.{Run, going, refused, taken, word_code, learn_step, run_if}
use Rattle.learning.specs.Running.{run_of, GoodTables, Fit, Next, WordLearned}
use Rattle.inner.specs.Booking.{booking_code, inner_code}
use Rattle.inner.specs.Inner.{inner_answer, Ready, Inner}
use Rattle.inner.proofs.Booking.{booking_none}
use Rattle.inner.proofs.Inner.{fits_ten}
use Rattle.learning.proofs.Ways.{Way, six, passed_over, seven, eight, nine, taken_up, way}

state_word_few : (t : ℕ) → state t < 1024 → t < 1048576
unfolding state
state_word_few t l = omega arith

-- ---- runs that answers stand for

pub run_refused : (c : ℕ) (r : Run) (p : ℕ) → (c ≡ 0 → ⊥) → run_if c r p ≡ refused c p
run_refused zero r p f = absurd (f refl)
run_refused (suc c) r p f = refl

run_of_plain : (r : Answer) (c k : ℕ) (book sheet : List ℕ) → r ≡ plain c k 0 0 → (c ≡ 0 → ⊥) → run_of r book sheet ≡ refused c k
unfolding run_of
run_of_plain r c k book sheet e f = ap (λ (a : Answer). run_of a book sheet) e ∙ run_refused c _ k f

pub run_of_going : (a : Answer) (book sheet : List ℕ) → a.code ≡ 0 → run_of a book sheet ≡ going (take a.book_count book) (take a.sheet_count sheet) a.struck a.added
unfolding run_of
run_of_going a book sheet e = ap (λ (c : ℕ). run_if c (going (take a.book_count book) (take a.sheet_count sheet) a.struck a.added) a.place) e

pub run_of_refused : (a : Answer) (book sheet : List ℕ) → (a.code ≡ 0 → ⊥) → run_of a book sheet ≡ refused a.code a.place
unfolding run_of
run_of_refused a book sheet f = run_refused a.code _ a.place f

-- ---- the step, by the code of the word

-- 0 is taken, 1 is passed over, any other code refuses
step_if : ℕ → ℕ → Run → Run → Run
step_if zero k r q = q
step_if (suc zero) k r q = r
step_if (suc (suc c)) k r q = refused (suc (suc c)) k

step_refuses : (c k : ℕ) (r q : Run) → (c ≡ 1 → ⊥) → (c ≡ 0 → ⊥) → step_if c k r q ≡ refused c k
unfolding step_if
step_refuses zero k r q f1 f0 = absurd (f0 refl)
step_refuses (suc zero) k r q f1 f0 = absurd (f1 refl)
step_refuses (suc (suc c)) k r q f1 f0 = refl

module _ (n br sr k t : ℕ) (b s : List ℕ) (x y c : ℕ) (ec : c ≡ word_code n t br b) where
  abbrev grown : List ℕ
  grown = take_sheet n s t

  abbrev taking : Run
  taking = taken sr k t b s x y grown

  measured : (q : Bool) → ltb sr (length grown) ≡ q → cond q (refused 9 k) (going (with_word t b) grown (x + struck_count s grown) (y + added_count s grown)) ≡ taking
  unfolding taken
  measured q e = ap (λ (q : Bool). cond q (refused 9 k) (going (with_word t b) grown (x + struck_count s grown) (y + added_count s grown))) (sym e)

  by_code : (c : ℕ) (r : Run) → Way n br sr k t b s x y c r → r ≡ step_if c k (going b s x y) taking
  unfolding step_if
  by_code _ _ (six v) = refl
  by_code _ _ (passed_over v h) = refl
  by_code _ _ (seven v h o) = refl
  by_code _ _ (eight v o f) = refl
  by_code _ _ (nine v o f g) = measured true (lt-ltb sr (length grown) g)
  by_code _ _ (taken_up v o f g) = measured false (le-ltb sr (length grown) g)

  step_is : learn_step n br sr k t (going b s x y) ≡ step_if c k (going b s x y) taking
  step_is = by_code _ _ (way n br sr k t b s x y) ∙ ap (λ (m : ℕ). step_if m k (going b s x y) taking) (sym ec)

  step_repeat : c ≡ 1 → learn_step n br sr k t (going b s x y) ≡ going b s x y
  unfolding step_if
  step_repeat q = step_is ∙ ap (λ (m : ℕ). step_if m k (going b s x y) taking) q

  step_refused : (c ≡ 1 → ⊥) → (c ≡ 0 → ⊥) → learn_step n br sr k t (going b s x y) ≡ refused c k
  step_refused f1 f0 = step_is ∙ step_refuses c k (going b s x y) taking f1 f0

  step_takes : c ≡ 0 → learn_step n br sr k t (going b s x y) ≡ taking
  unfolding step_if
  step_takes q = step_is ∙ ap (λ (m : ℕ). step_if m k (going b s x y) taking) q

-- ---- the ways through `word_code`

module _ (n t room : ℕ) (b : List ℕ) (v : Bool) (ev : v ≡ valid_transition n t) where
  pub code_bad : v ≡ false → 6 ≡ word_code n t room b
  unfolding word_code
  code_bad e = sym (ap (λ (x : Bool). refuse (not x) 6 (booking_code t room b)) (sym ev ∙ e))

  module _ (e : v ≡ true) (i j : ℕ) (ei : i ≡ state t) (ej : j ≡ next t) where
    pub code_asks : n ≤ 10 → states_up b ≡ true → (i < 1024) × (j < 1024) × (states_up b ≡ true)
    code_asks small up =
        let h = transition_e n t (sym ev ∙ e) in
        (rw ei (fits_ten n (state t) small h.state_lt), rw ej (fits_ten n (next t) small h.next_lt), up)

    pub code_booking : (c : ℕ) → c ≡ booking_code (transition_word i j) room b → c ≡ word_code n t room b
    unfolding word_code
    code_booking c ec =
        ec ∙ ap (λ (w : ℕ). booking_code w room b) (ap₂ transition_word ei ej ∙ transition_fields t)
        ∙ sym (ap (λ (x : Bool). refuse (not x) 6 (booking_code t room b)) (sym ev ∙ e))

pub code_none : (n t room : ℕ) (b : List ℕ) → word_code n t room b ≡ 0 → (valid_transition n t ≡ true) × (booking_code t room b ≡ 0)
unfolding word_code
code_none n t room b e = let a = refuse_none (not (valid_transition n t)) 5 _ e in (not-false (valid_transition n t) a.0, a.1)

-- ---- the ways through `learn_word`

module _ (n k t : ℕ) (a : Answer) (book sheet : List ℕ) where
  abbrev b : List ℕ
  b = take a.book_count book

  abbrev s : List ℕ
  s = take a.sheet_count sheet

  abbrev step : Run
  step = learn_step n (length book) (length sheet) k t (going b s a.struck a.added)

  module _ (z : a.code ≡ 0) where
    from_going : learn_step n (length book) (length sheet) k t (run_of a book sheet) ≡ step
    from_going = ap (learn_step n (length book) (length sheet) k t) (run_of_going a book sheet z)

    refusal : (r : Answer) (c : ℕ) → r ≡ plain c k 0 0 → (c ≡ 0 → ⊥) → step ≡ refused c k → (bz sz : List ℕ) → WordLearned n k t a book sheet r bz sz
    refusal r c er f es bz sz = record {
      run = run_of_plain r c k bz sz er f ∙ sym (from_going ∙ es);
      fit = record {
        sound = λ p. absurd (f (sym (ap (λ (w : Answer). w.code) er) ∙ p));
        alone = λ p. er ∙ ap₂ (λ (u v : ℕ). plain u v 0 0) (sym (ap (λ (w : Answer). w.code) er)) (sym (ap (λ (w : Answer). w.place) er));
      };
    }

    module _ (f : Fit n a book sheet) where
      pub word_asks : (n ≤ 10) × (states_up b ≡ true)
      word_asks = ((f.sound z).small, (book_e n b (f.sound z).book_is_good).rising)

      module _ (c : ℕ) (ec : c ≡ word_code n t (length book) b) where
        pub word_repeat : c ≡ 1 → WordLearned n k t a book sheet a book sheet
        word_repeat q = record {
          run = run_of_going a book sheet z ∙ sym (from_going ∙ step_repeat n (length book) (length sheet) k t b s a.struck a.added c ec q);
          fit = f;
        }

        pub word_refused : (c ≡ 1 → ⊥) → (c ≡ 0 → ⊥) → (r : Answer) → r ≡ plain c k 0 0 → WordLearned n k t a book sheet r book sheet
        word_refused f1 f0 r er = refusal r c er f0 (step_refused n (length book) (length sheet) k t b s a.struck a.added c ec f1 f0) book sheet

        pub word_next : c ≡ 0 → Next n t a book sheet
        word_next q = record { done_so_far = z; sound = f.sound z; passes = sym ec ∙ q }

  -- ---- the ways through `learn_next`

  module _ (x : Next n t a book sheet) where
    abbrev z : a.code ≡ 0
    z = x.done_so_far

    sd : GoodTables n a book sheet
    sd = x.sound

    passes : (valid_transition n t ≡ true) × (booking_code t (length book) b ≡ 0)
    passes = code_none n t (length book) b x.passes

    new_word : (told t b ≡ false) × (against t b ≡ false) × (length (with_word t b) ≤ length book)
    new_word = booking_none t (length book) b passes.1

    b_length : length b ≡ a.book_count
    b_length = length-take-le a.book_count book sd.books_in

    pub next_ready : Ready n t book a.book_count sheet a.sheet_count
    next_ready = record {
      small = sd.small;
      books_in = sd.books_in;
      in_order = (book_e n b sd.book_is_good).rising;
      untold = new_word.0;
      room = new_word.2;
      sheets_in = sd.sheets_in;
      sheet_is_good = sd.sheet_is_good;
    }

    abbrev new : List ℕ
    new = take_sheet n s t

    module _ (bz sz : List ℕ) (w : Answer) (h : Inner n t book a.book_count sheet a.sheet_count bz sz w) where
      takes : step ≡ cond (ltb (length sheet) (length new)) (refused 9 k) (going (with_word t b) new (a.struck + struck_count s new) (a.added + added_count s new))
      unfolding taken
      takes = step_takes n (length book) (length sheet) k t b s a.struck a.added 0 (sym x.passes) refl

      code_cases : (x : Bool) → ltb (length sheet) (length new) ≡ x → w.code ≡ refuse x 9 0
      unfolding inner_answer inner_code
      code_cases x ex =
          ap (λ (q : Answer). q.code) h.answer
          ∙ picked (refuse (ltb (length sheet) (length new)) 9 0)
          ∙ ap (λ (q : Bool). refuse q 9 0) ex
        where
          picked : (m : ℕ) → (if_done m (done (length (with_word t b)) (length new) (struck_count s new) (added_count s new)) (plain m 0 a.book_count a.sheet_count)).code ≡ m
          picked zero = refl
          picked (suc m) = refl

      pub next_nine : (w.code ≡ 0 → ⊥) → (r : Answer) → r ≡ plain w.code k 0 0 → WordLearned n k t a book sheet r bz sz
      next_nine g r er = go (ltb (length sheet) (length new)) refl
        where
          go : (x : Bool) → ltb (length sheet) (length new) ≡ x → WordLearned n k t a book sheet r bz sz
          go false ex = absurd (g (code_cases false ex))
          go true ex =
              refusal z r w.code er g
              (takes ∙ ap (λ (q : Bool). cond q (refused 9 k) (going (with_word t b) new (a.struck + struck_count s new) (a.added + added_count s new))) ex ∙ ap (λ (m : ℕ). refused m k) (sym (code_cases true ex)))
              bz sz

      module _ (w0 : w.code ≡ 0) where
        fits_now : ltb (length sheet) (length new) ≡ false
        fits_now = go (ltb (length sheet) (length new)) refl
          where
            go : (x : Bool) → ltb (length sheet) (length new) ≡ x → x ≡ false
            go false ex = refl
            go true ex = absurd (omega (arith, w0, code_cases true ex))

        inner_zero : inner_code n t sheet a.sheet_count ≡ 0
        unfolding inner_code
        inner_zero = ap (λ (q : Bool). refuse q 9 0) fits_now

        w_is : w ≡ done (length (with_word t b)) (length new) (struck_count s new) (added_count s new)
        unfolding inner_answer
        w_is = h.answer ∙ if_done_lem (inner_code n t sheet a.sheet_count) _ _ inner_zero

        book_longer : length (with_word t b) ≡ suc a.book_count
        book_longer = with_longer t b new_word.0 ∙ ap suc b_length

        new_good : Good n new
        new_good = take_good n sd.small s t

        short : (l : List ℕ) → Good n l → length l ≤ 16777216
        short l g = increasing_short l 16777216 g.sorted (λ q m. rule_small n q sd.small (valid_rule n q) refl (rule_i n q (g.valid q m)))

        struck_few : struck_count s new ≤ 16777216
        unfolding struck_count
        struck_few = omega (arith, missing_le new s, short s (good_e n s sd.sheet_is_good))

        added_few : added_count s new ≤ 16777216
        unfolding added_count
        added_few = omega (arith, missing_le s new, short new new_good)

        books_few : a.book_count ≤ 1048576
        books_few =
            omega (arith, b_length, increasing_short b 1048576 (book_increasing b (book_e n b sd.book_is_good).rising) (λ q m. word_few q ((book_e n b sd.book_is_good).valid q m).state_lt))
          where
            word_few : (q : ℕ) → state q < 2 ^ n → q < 1048576
            word_few q l = state_word_few q (fits_ten n (state q) sd.small l)

        pub next_struck : w.struck ≤ 16777216
        next_struck = omega (arith, ap (λ (q : Answer). q.struck) w_is, struck_few)

        pub next_added : w.added ≤ 16777216
        next_added = omega (arith, ap (λ (q : Answer). q.added) w_is, added_few)

        pub next_sums : (a.struck ≤ 1048576 * 16777216) × (a.added ≤ 1048576 * 16777216)
        next_sums = (omega (arith, sd.struck_few, books_few), omega (arith, sd.added_few, books_few))

        pub next_done : (r : Answer) → r ≡ done w.book_count w.sheet_count (a.struck + w.struck) (a.added + w.added) → WordLearned n k t a book sheet r bz sz
        next_done r er = record {
          run = run_of_going r bz sz (ap (λ (q : Answer). q.code) er) ∙ same_run ∙ sym (from_going z ∙ takes ∙ ap (λ (q : Bool). cond q (refused 9 k) (going (with_word t b) new (a.struck + struck_count s new) (a.added + added_count s new))) fits_now);
          fit = record { sound = λ p. sound_now; alone = λ p. absurd (p (ap (λ (q : Answer). q.code) er)) };
        }
          where
            r_is : r ≡ done (length (with_word t b)) (length new) (a.struck + struck_count s new) (a.added + added_count s new)
            r_is = er ∙ ap (λ (q : Answer). done q.book_count q.sheet_count (a.struck + q.struck) (a.added + q.added)) w_is

            hb : Holds bz r.book_count (length book) (with_word t b)
            hb = subst (λ (m : ℕ). Holds bz m (length book) (with_word t b)) (sym (ap (λ (q : Answer). q.book_count) r_is)) (h.booked_in inner_zero)

            hs : Holds sz r.sheet_count (length sheet) new
            hs = subst (λ (m : ℕ). Holds sz m (length sheet) new) (sym (ap (λ (q : Answer). q.sheet_count) r_is)) (h.taken_in inner_zero)

            same_run : going (take r.book_count bz) (take r.sheet_count sz) r.struck r.added ≡ going (with_word t b) new (a.struck + struck_count s new) (a.added + added_count s new)
            same_run = λ q. going (hb.is q) (hs.is q) (ap (λ (u : Answer). u.struck) r_is q) (ap (λ (u : Answer). u.added) r_is q)

            sound_now : GoodTables n r bz sz
            sound_now = record {
              small = sd.small;
              books_in = hb.fits;
              sheets_in = hs.fits;
              book_is_good = ap (good_book n) hb.is ∙ with_good n t b sd.book_is_good passes.0 new_word.1;
              sheet_is_good = ap (good_sheet n) hs.is ∙ good_i n new new_good;
              struck_few = omega (arith, ap (λ (u : Answer). u.struck) r_is, ap (λ (u : Answer). u.book_count) r_is, sd.struck_few, struck_few, book_longer);
              added_few = omega (arith, ap (λ (u : Answer). u.added) r_is, ap (λ (u : Answer). u.book_count) r_is, sd.added_few, added_few, book_longer);
              as_done = er ∙ sym (ap (λ (u : Answer). done u.book_count u.sheet_count u.struck u.added) er);
            }
