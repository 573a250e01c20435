-- Learn in any room: its answer is 0 exactly where nothing stops learning, and else it is exactly the refusal of its words, over its contract and nothing else.
use mathlib.Core.Path.{◌≡◌, refl, sym, ap, ◌∙◌, subst}
use mathlib.Core.Logic.{◌⊎◌, inl, inr, ◌↔◌}
use mathlib.Core.Bool.{true, false}
use mathlib.Core.List.Memᴰ
use mathlib.Core.List.Memᴰ.{head as here}
use mathlib.Core.List.{List, [], ◌∷◌, ◌++◌, Memᴰ as Mem, append_assoc, append-nil, nil≢cons, head-eq_of_cons-eq, tail-eq_of_cons-eq}
use Prim.Native.Nat.{ℕ, ◌+◌, ◌≤◌, ◌<◌}
use native.Mathlib.Omega.{arith}
use lib.ListN.{length}
use Rattle.panel.specs.Masks.{panel_size}
use Rattle.panel.specs.Transitions.{state, next, valid_transition}
use Rattle.panel.proofs.Transitions.{transition_i, same_transition}
use Rattle.prime.specs.Sheets.{take_sheet, sheet_of, struck_count, added_count}
use Rattle.prime.proofs.Laws.{fresh_sheet_of}
use Rattle.book.specs.Books.{against, with_word, book_of}
use Rattle.book.proofs.Books.{book_e}
use Rattle.book.proofs.Telling.{told_i, one_next_e, one_next_i}
use Rattle.book.proofs.BookOf.{book_to, book_repeat, book_longer, against_book}
use Rattle.sheet.proofs.Fresh.{fresh_length}
use Rattle.calls.proofs.Codes.{size_of}
use Rattle.answers.specs.declared.Answer.{Answer}
use Rattle.learning.specs.Learn.{Run, going, refused, learn_run, run_answer, Learned}
use Rattle.learning.proofs.Ways.{Opening, two, nine_at_once, opened, Way, six, passed_over, seven, eight, nine, taken_up, run_keeps}
use Rattle.handover.specs.Learning.{Learnable, Agrees, Stops, invalid, contradicted, book_full, sheet_full, LearnRefused, no_panel, no_room, at_word}
use Rattle.handover.proofs.Runs.{Read, read_in, read_booked, start_read, same_sheet, again, one_more, run_words}
use Rattle.handover.proofs.Stopping.{learnable_not_refused, learn_refused_once}

-- what begins a list with one more word is the whole, or begins the list
begins : (ps : List ℕ) (t : ℕ) (qs rest : List ℕ) → ps ++ t ∷ [] ≡ qs ++ rest → (qs ≡ ps ++ t ∷ []) ⊎ ((m : List ℕ) × (ps ≡ qs ++ m))
begins ps t [] rest e = inr (ps, refl)
begins [] t (q ∷ []) rest e = inl (ap (λ (z : ℕ). z ∷ []) (sym (head-eq_of_cons-eq e)))
begins [] t (q ∷ v ∷ qs) rest e = absurd (nil≢cons (tail-eq_of_cons-eq e))
begins (p ∷ ps) t (q ∷ qs) rest e = go (begins ps t qs rest (tail-eq_of_cons-eq e))
  where
    h : p ≡ q
    h = head-eq_of_cons-eq e

    go : (qs ≡ ps ++ t ∷ []) ⊎ ((m : List ℕ) × (ps ≡ qs ++ m)) → (q ∷ qs ≡ p ∷ (ps ++ t ∷ [])) ⊎ ((m : List ℕ) × (p ∷ ps ≡ q ∷ (qs ++ m)))
    go (inl k) = inl (ap (λ (z : ℕ). z ∷ qs) (sym h) ∙ ap (λ (z : List ℕ). p ∷ z) k)
    go (inr k) = inr (k.0, ap (λ (z : ℕ). z ∷ ps) h ∙ ap (λ (z : List ℕ). q ∷ z) k.1)

module _ (n bookRoom sheetRoom : ℕ) where
  -- ---- the run, word by word

  -- learning went through the words ps: book b, sheet s, sums x and y
  record Went (ps b s : List ℕ) (x y : ℕ) : Type 0 where
    size : panel_size n ≡ true
    read : Read n ps b s x y
    book_in_slice : length b ≤ bookRoom
    sheets_in : (qs rest : List ℕ) → ps ≡ qs ++ rest → length (sheet_of n qs) ≤ sheetRoom

  went_learnable : (ps b s : List ℕ) (x y : ℕ) → Went ps b s x y → Learnable n ps bookRoom sheetRoom
  went_learnable ps b s x y w = record {
    size = w.size;
    valid = λ t m. transition_i n t ((book_e n b w.read.good).valid t (read_in n ps b s x y w.read t m));
    one_next = one_next_i ps (read_booked n ps b s x y w.read).one_next;
    book_fits = omega (arith, w.book_in_slice, ap length w.read.is_book);
    sheets_fit = w.sheets_in;
  }

  -- with one more word that was read into its room
  went_more : (ps b s : List ℕ) (x y : ℕ) → Went ps b s x y → (t : ℕ) (b₁ s₁ : List ℕ) (x₁ y₁ : ℕ) → Read n (ps ++ t ∷ []) b₁ s₁ x₁ y₁ → length b₁ ≤ bookRoom → length s₁ ≤ sheetRoom
      → Went (ps ++ t ∷ []) b₁ s₁ x₁ y₁
  went_more ps b s x y w t b₁ s₁ x₁ y₁ l g h = record { size = w.size; read = l; book_in_slice = g; sheets_in = λ qs rest e. go qs (begins ps t qs rest e) }
    where
      go : (qs : List ℕ) → (qs ≡ ps ++ t ∷ []) ⊎ ((m : List ℕ) × (ps ≡ qs ++ m)) → length (sheet_of n qs) ≤ sheetRoom
      go qs (inl e) = omega (arith, h, ap length l.is_sheet, ap (λ (z : List ℕ). length (sheet_of n z)) e)
      go qs (inr k) = w.sheets_in qs k.0 k.1

  -- learning goes through the words ps, or they are refused
  abbrev Ended : List ℕ → Run → Type 0
  Ended ps (going b s x y) = Went ps b s x y
  Ended ps (refused c p) = LearnRefused n ps bookRoom sheetRoom c p

  start_ended : (r : Run) → Opening n sheetRoom r → Ended [] r
  start_ended _ (two e) = no_panel e
  start_ended _ (nine_at_once e g) = no_room e g
  start_ended _ (opened e g) =
      let small = (size_of n e).1 in
      record {
        size = e;
        read = start_read n small;
        book_in_slice = omega arith;
        sheets_in = λ qs rest q. none qs rest q (omega (arith, g, fresh_length n, ap length (fresh_sheet_of n small)));
      }
    where
      none : (qs rest : List ℕ) → [] ≡ qs ++ rest → length (sheet_of n []) ≤ sheetRoom → length (sheet_of n qs) ≤ sheetRoom
      none [] rest q h = h
      none (p ∷ qs) rest q h = absurd (nil≢cons q)

  -- a refusal stands, whatever follows
  refused_more : (ps us : List ℕ) (c p : ℕ) → LearnRefused n ps bookRoom sheetRoom c p → LearnRefused n (ps ++ us) bookRoom sheetRoom c p
  refused_more ps us _ _ (no_panel e) = no_panel e
  refused_more ps us _ _ (no_room e g) = no_room e g
  refused_more ps us _ _ (at_word qs w k c a l s) =
      at_word qs w k c (record { rest = a.rest ++ us; whole = ap (λ (z : List ℕ). z ++ us) a.whole ∙ append_assoc qs (w ∷ a.rest) us; number = a.number }) l s

  -- the word t comes after the words ps
  module _ (ps : List ℕ) (t : ℕ) (b s : List ℕ) (x y : ℕ) (w : Went ps b s x y) where
    stopped : (c : ℕ) → Stops n ps t bookRoom sheetRoom c → LearnRefused n (ps ++ t ∷ []) bookRoom sheetRoom c (length ps)
    stopped c q = at_word ps t (length ps) c (record { rest = []; whole = refl; number = refl }) (went_learnable ps b s x y w) q

    another : valid_transition n t ≡ true → against t b ≡ true → Stops n ps t bookRoom sheetRoom 7
    another v o = contradicted v (sym (against_book t ps) ∙ ap (against t) (sym w.read.is_book) ∙ o)

    module _ (v : valid_transition n t ≡ true) (o : against t b ≡ false) where
      abbrev new : List ℕ
      new = take_sheet n s t

      taken : Read n (ps ++ t ∷ []) (with_word t b) new (x + struck_count s new) (y + added_count s new)
      taken = one_more n t ps b s x y w.read v o

      agrees : Agrees n ps t
      agrees = record { valid = v; one_next = one_next_i (ps ++ t ∷ []) (read_booked n (ps ++ t ∷ []) (with_word t b) new (x + struck_count s new) (y + added_count s new) taken).one_next }

      book_length : length (book_of (ps ++ t ∷ [])) ≡ length (with_word t b)
      book_length = ap length (sym taken.is_book)

    word_ended : (c : ℕ) (r : Run) → Way n bookRoom sheetRoom (length ps) t b s x y c r → Ended (ps ++ t ∷ []) r
    word_ended _ _ (six e) = stopped 6 (invalid e)
    word_ended _ _ (passed_over v e) =
        went_more ps b s x y w t b s x y (again n t ps b s x y w.read e) w.book_in_slice (omega (arith, ap length w.read.is_sheet, w.sheets_in ps [] (sym (append-nil ps))))
    word_ended _ _ (seven v h o) = stopped 7 (another v o)
    word_ended _ _ (eight v o g) = stopped 8 (book_full (agrees v o) (omega (arith, g, book_length v o)))
    word_ended _ _ (nine v o f g) =
        stopped 9 (sheet_full (agrees v o) (omega (arith, f, book_length v o)) (omega (arith, g, ap length (taken v o).is_sheet)))
    word_ended _ _ (taken_up v o f g) = went_more ps b s x y w t (with_word t b) (take_sheet n s t) (x + struck_count s (take_sheet n s t)) (y + added_count s (take_sheet n s t)) (taken v o) f g

  -- what learn's run comes to
  run_ended : (ts : List ℕ) → Ended ts (learn_run n bookRoom sheetRoom ts)
  run_ended ts =
      subst (Ended ts) (sym (run_words n bookRoom sheetRoom ts))
      (run_keeps n bookRoom sheetRoom Ended start_ended (λ ps t c p q. refused_more ps (t ∷ []) c p q) (λ ps t b s x y c r w q. word_ended ps t b s x y w c r q) ts)

  pub run_learnable : {ts b s : List ℕ} {x y : ℕ} → learn_run n bookRoom sheetRoom ts ≡ going b s x y → Learnable n ts bookRoom sheetRoom
  run_learnable {ts = ts} {b = b} {s = s} {x = x} {y = y} e = went_learnable ts b s x y (subst (Ended ts) e (run_ended ts))

  pub run_refused : {ts : List ℕ} {c p : ℕ} → learn_run n bookRoom sheetRoom ts ≡ refused c p → LearnRefused n ts bookRoom sheetRoom c p
  run_refused {ts = ts} e = subst (Ended ts) e (run_ended ts)

-- ---- the definitions cover every list

-- one of the two is the case, and by `learnable_not_refused` not both
pub learnable_or_refused : (n : ℕ) (ts : List ℕ) (bookRoom sheetRoom : ℕ) → Learnable n ts bookRoom sheetRoom ⊎ ((c : ℕ) × (p : ℕ) × LearnRefused n ts bookRoom sheetRoom c p)
learnable_or_refused n ts bookRoom sheetRoom = go (learn_run n bookRoom sheetRoom ts) refl
  where
    go : (r : Run) → learn_run n bookRoom sheetRoom ts ≡ r → Learnable n ts bookRoom sheetRoom ⊎ ((c : ℕ) × (p : ℕ) × LearnRefused n ts bookRoom sheetRoom c p)
    go (going b s x y) e = inl (run_learnable n bookRoom sheetRoom e)
    go (refused c p) e = inr (c, p, run_refused n bookRoom sheetRoom e)

-- a repeat is passed over: it stops nothing
pub repeat_passed : (n : ℕ) (ps : List ℕ) (w bookRoom sheetRoom : ℕ) → Learnable n ps bookRoom sheetRoom → Mem w ps → Learnable n (ps ++ w ∷ []) bookRoom sheetRoom
repeat_passed n ps w bookRoom sheetRoom l m = record {
  size = l.size;
  valid = λ t k. l.valid t (old t k);
  one_next = λ t k. sym (against_book t (ps ++ w ∷ [])) ∙ ap (against t) stays ∙ against_book t ps ∙ l.one_next t (old t k);
  book_fits = omega (arith, l.book_fits, ap length stays);
  sheets_fit = λ qs rest e. go qs (begins ps w qs rest e);
}
  where
    stays : book_of (ps ++ w ∷ []) ≡ book_of ps
    stays = book_repeat w ps (told_i w (book_of ps) (book_to ps w m))

    old : (t : ℕ) → Mem t (ps ++ w ∷ []) → Mem t ps
    old t k = cases (Memᴰ.append_cases ps k)
      where
        cases : Mem t ps ⊎ Mem t (w ∷ []) → Mem t ps
        cases (inl j) = j
        cases (inr j) = Memᴰ.cast (Memᴰ.eq_of_singleton j) m

    go : (qs : List ℕ) → (qs ≡ ps ++ w ∷ []) ⊎ ((r : List ℕ) × (ps ≡ qs ++ r)) → length (sheet_of n qs) ≤ sheetRoom
    go qs (inl e) =
        omega (
          arith,
          ap (λ (z : List ℕ). length (sheet_of n z)) e,
          ap length (same_sheet n (size_of n l.size).1 (ps ++ w ∷ []) ps stays),
          l.sheets_fit ps [] (sym (append-nil ps)),
        )
    go qs (inr k) = l.sheets_fit qs k.0 k.1

-- 8 as it is met at a word: its state is not recorded before it, and the book of the words before it fills its slice
pub full_exactly : (n : ℕ) (ps : List ℕ) (w bookRoom sheetRoom : ℕ) → Learnable n ps bookRoom sheetRoom → Agrees n ps w
    → (bookRoom < length (book_of (ps ++ w ∷ []))) ↔ (((u : ℕ) → Mem u ps → state u ≡ state w → ⊥) × (length (book_of ps) ≡ bookRoom))
full_exactly n ps w bookRoom sheetRoom l a = (
  λ g.
      let new : Mem w ps → ⊥ = λ m. omega (arith, g, (repeat_passed n ps w bookRoom sheetRoom l m).book_fits) in
      (λ u m e. new (Memᴰ.cast (sym (same_transition u w e (agree u m e))) m), omega (arith, g, l.book_fits, book_longer ps w new)),
  λ k. omega (arith, k.1, book_longer ps w (λ m. k.0 w m refl)),
)
  where
    agree : (u : ℕ) → Mem u ps → state u ≡ state w → next u ≡ next w
    agree u m e = one_next_e (ps ++ w ∷ []) a.one_next u w (Memᴰ.append_left (w ∷ []) m) (Memᴰ.append_right ps (here refl)) e

-- ---- over the contract of learn

refused_some : {n : ℕ} {ts : List ℕ} {bookRoom sheetRoom c p : ℕ} → LearnRefused n ts bookRoom sheetRoom c p → 1 ≤ c
refused_some (no_panel e) = omega arith
refused_some (no_room e g) = omega arith
refused_some (at_word ps w k c a l (invalid e)) = omega arith
refused_some (at_word ps w k c a l (contradicted v e)) = omega arith
refused_some (at_word ps w k c a l (book_full g h)) = omega arith
refused_some (at_word ps w k c a l (sheet_full g h f)) = omega arith

-- an answer of learn: 0 where nothing stops learning, or the refusal of the words
data Ending (n : ℕ) (ts : List ℕ) (bookRoom sheetRoom : ℕ) (r : Answer) : Type 0 where
  learned : r.code ≡ 0 → Learnable n ts bookRoom sheetRoom → Ending n ts bookRoom sheetRoom r
  not_learned : LearnRefused n ts bookRoom sheetRoom r.code r.place → Ending n ts bookRoom sheetRoom r

module _ {n : ℕ} {ts : List ℕ} {bookRoom sheetRoom : ℕ} {book' sheet' : List ℕ} {r : Answer} (l : Learned n ts bookRoom sheetRoom book' sheet' r) where
  ending : Ending n ts bookRoom sheetRoom r
  unfolding run_answer
  ending = go (learn_run n bookRoom sheetRoom ts) refl l.answer
    where
      go : (q : Run) → learn_run n bookRoom sheetRoom ts ≡ q → r ≡ run_answer q → Ending n ts bookRoom sheetRoom r
      go (going b s x y) w e = learned (ap (λ (a : Answer). a.code) e) (run_learnable n bookRoom sheetRoom w)
      go (refused c p) q e = not_learned (subst (λ (a : Answer). LearnRefused n ts bookRoom sheetRoom a.code a.place) (sym e) (run_refused n bookRoom sheetRoom q))

  -- 0 is answered exactly where nothing stops learning
  pub learned_exactly : (r.code ≡ 0) ↔ Learnable n ts bookRoom sheetRoom
  learned_exactly = (λ e. to e ending, λ k. back k ending)
    where
      to : r.code ≡ 0 → Ending n ts bookRoom sheetRoom r → Learnable n ts bookRoom sheetRoom
      to e (learned z k) = k
      to e (not_learned q) = absurd (omega (arith, e, refused_some q))

      back : Learnable n ts bookRoom sheetRoom → Ending n ts bookRoom sheetRoom r → r.code ≡ 0
      back k (learned z j) = z
      back k (not_learned q) = absurd (learnable_not_refused n bookRoom sheetRoom k q)

  -- and any other code with a place exactly where the words are so refused
  pub refused_exactly : (c p : ℕ) → (c ≡ 0 → ⊥) → ((r.code ≡ c) × (r.place ≡ p)) ↔ LearnRefused n ts bookRoom sheetRoom c p
  refused_exactly c p some = (λ e. to e.0 e.1 ending, λ q. back q ending)
    where
      to : r.code ≡ c → r.place ≡ p → Ending n ts bookRoom sheetRoom r → LearnRefused n ts bookRoom sheetRoom c p
      to e f (learned z k) = absurd (some (sym e ∙ z))
      to e f (not_learned q) = subst (λ (z : ℕ). LearnRefused n ts bookRoom sheetRoom c z) f (subst (λ (z : ℕ). LearnRefused n ts bookRoom sheetRoom z r.place) e q)

      back : LearnRefused n ts bookRoom sheetRoom c p → Ending n ts bookRoom sheetRoom r → (r.code ≡ c) × (r.place ≡ p)
      back q (learned z k) = absurd (learnable_not_refused n bookRoom sheetRoom k q)
      back q (not_learned k) = learn_refused_once n bookRoom sheetRoom k q
