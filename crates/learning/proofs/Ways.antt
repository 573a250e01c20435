-- The ways through learn, at the start and at a word, and the one induction over its words: what is kept on every way holds of the whole run.
use mathlib.Core.Path.{◌≡◌, refl, sym, subst}
use mathlib.Core.Bool.{Bool, true, false, not, cond}
use mathlib.Core.List.{List, [], ◌∷◌, ◌++◌, append_assoc, append-nil}
use Prim.Native.Nat.{ℕ, ◌+◌, ◌≤◌, ◌<◌}
use native.Mathlib.Omega.{arith}
use lib.Dec.{ltb}
use lib.ListN.{length, length-append}
use borrow.Author.Tests.{ltb-true, ltb-false}
use Rattle.panel.specs.Masks.{panel_size}
use Rattle.panel.specs.Transitions.{valid_transition}
use Rattle.prime.specs.Sheets.{fresh_sheet, take_sheet, struck_count, added_count}
use Rattle.book.specs.Books.{told, against, with_word}
use Rattle.inner.specs.Booking.{booking_code}
use Rattle.answers.specs.Answers.{refuse}
use Rattle.learning.specs.Learn.{Run, going, refused, taken, word_code, learn_step, learn_words, learn_start}

-- ---- the start

-- the run with which learn starts
pub data Opening (n sheetRoom : ℕ) : Run → Type 0 where
  two : panel_size n ≡ false → Opening n sheetRoom (refused 2 0)
  nine_at_once : panel_size n ≡ true → sheetRoom < n → Opening n sheetRoom (refused 9 0)
  opened : panel_size n ≡ true → n ≤ sheetRoom → Opening n sheetRoom (going [] (fresh_sheet n) 0 0)

pub opening : (n sheetRoom : ℕ) → Opening n sheetRoom (learn_start n sheetRoom)
unfolding learn_start
opening n sheetRoom = go (panel_size n) (ltb sheetRoom n) refl refl
  where
    go : (a f : Bool) → panel_size n ≡ a → ltb sheetRoom n ≡ f → Opening n sheetRoom (cond (not a) (refused 2 0) (cond f (refused 9 0) (going [] (fresh_sheet n) 0 0)))
    go false f e q = two e
    go true true e q = nine_at_once e (ltb-true sheetRoom n q)
    go true false e q = opened e (ltb-false sheetRoom n q)

-- ---- a word

-- the code of the word t, number k, before it is taken, and the run after it, where book and sheet were b and s, and the sums x and y
pub data Way (n bookRoom sheetRoom k t : ℕ) (b s : List ℕ) (x y : ℕ) : ℕ → Run → Type 0 where
  six : valid_transition n t ≡ false → Way n bookRoom sheetRoom k t b s x y 6 (refused 6 k)
  passed_over : valid_transition n t ≡ true → told t b ≡ true → Way n bookRoom sheetRoom k t b s x y 1 (going b s x y)
  seven : valid_transition n t ≡ true → told t b ≡ false → against t b ≡ true → Way n bookRoom sheetRoom k t b s x y 7 (refused 7 k)
  eight : valid_transition n t ≡ true → against t b ≡ false → bookRoom < length (with_word t b) → Way n bookRoom sheetRoom k t b s x y 8 (refused 8 k)
  nine : valid_transition n t ≡ true → against t b ≡ false → length (with_word t b) ≤ bookRoom → sheetRoom < length (take_sheet n s t)
      → Way n bookRoom sheetRoom k t b s x y 0 (refused 9 k)
  taken_up : valid_transition n t ≡ true → against t b ≡ false → length (with_word t b) ≤ bookRoom → length (take_sheet n s t) ≤ sheetRoom
      → Way n bookRoom sheetRoom k t b s x y 0 (going (with_word t b) (take_sheet n s t) (x + struck_count s (take_sheet n s t)) (y + added_count s (take_sheet n s t)))

pub way : (n bookRoom sheetRoom k t : ℕ) (b s : List ℕ) (x y : ℕ)
    → Way n bookRoom sheetRoom k t b s x y (word_code n t bookRoom b) (learn_step n bookRoom sheetRoom k t (going b s x y))
unfolding learn_step taken word_code booking_code
way n bookRoom sheetRoom k t b s x y =
    go (valid_transition n t) (told t b) (against t b) (ltb bookRoom (length (with_word t b))) (ltb sheetRoom (length (take_sheet n s t))) refl refl refl refl refl
  where
    go : (v h o f g : Bool) → valid_transition n t ≡ v → told t b ≡ h → against t b ≡ o → ltb bookRoom (length (with_word t b)) ≡ f → ltb sheetRoom (length (take_sheet n s t)) ≡ g
        → Way n bookRoom sheetRoom k t b s x y
        (refuse (not v) 6 (refuse h 1 (refuse o 7 (refuse f 8 0))))
        (cond (not v) (refused 6 k) (cond h (going b s x y) (cond o (refused 7 k) (cond f (refused 8 k) (cond g (refused 9 k)
        (going (with_word t b) (take_sheet n s t) (x + struck_count s (take_sheet n s t)) (y + added_count s (take_sheet n s t))))))))
    go false h o f g ev eh eo ef eg = six ev
    go true true o f g ev eh eo ef eg = passed_over ev eh
    go true false true f g ev eh eo ef eg = seven ev eh eo
    go true false false true g ev eh eo ef eg = eight ev eo (ltb-true bookRoom (length (with_word t b)) ef)
    go true false false false true ev eh eo ef eg = nine ev eo (ltb-false bookRoom (length (with_word t b)) ef) (ltb-true sheetRoom (length (take_sheet n s t)) eg)
    go true false false false false ev eh eo ef eg = taken_up ev eo (ltb-false bookRoom (length (with_word t b)) ef) (ltb-false sheetRoom (length (take_sheet n s t)) eg)

-- ---- all words

-- P tells of the words so far and of the run after them. It holds however learn starts, after a refusal it stands, and on every way through a word it is kept
module _ (n bookRoom sheetRoom : ℕ) (P : List ℕ → Run → Type 0)
    (starts : (r : Run) → Opening n sheetRoom r → P [] r)
    (stands : (ps : List ℕ) (t c p : ℕ) → P ps (refused c p) → P (ps ++ t ∷ []) (refused c p))
    (keeps : (ps : List ℕ) (t : ℕ) (b s : List ℕ) (x y : ℕ) (c : ℕ) (r : Run) → P ps (going b s x y) → Way n bookRoom sheetRoom (length ps) t b s x y c r → P (ps ++ t ∷ []) r) where
  word_keeps : (ps : List ℕ) (t : ℕ) (r : Run) → P ps r → P (ps ++ t ∷ []) (learn_step n bookRoom sheetRoom (length ps) t r)
  unfolding learn_step
  word_keeps ps t (refused c p) h = stands ps t c p h
  word_keeps ps t (going b s x y) h =
      keeps ps t b s x y (word_code n t bookRoom b) (learn_step n bookRoom sheetRoom (length ps) t (going b s x y)) h (way n bookRoom sheetRoom (length ps) t b s x y)

  words_keep : (k : ℕ) (ps us : List ℕ) (r : Run) → length ps ≡ k → P ps r → P (ps ++ us) (learn_words n bookRoom sheetRoom k us r)
  unfolding learn_words
  words_keep k ps [] r e h = subst (λ (z : List ℕ). P z r) (sym (append-nil ps)) h
  words_keep k ps (u ∷ us) r e h =
      let q = subst (λ (m : ℕ). P (ps ++ u ∷ []) (learn_step n bookRoom sheetRoom m u r)) e (word_keeps ps u r h) in
      subst (λ (z : List ℕ). P z (learn_words n bookRoom sheetRoom (k + 1) us (learn_step n bookRoom sheetRoom k u r))) (append_assoc ps (u ∷ []) us)
      (words_keep (k + 1) (ps ++ u ∷ []) us (learn_step n bookRoom sheetRoom k u r) (omega (arith, length-append ps (u ∷ []))) q)

  -- then it holds of the whole list
  pub run_keeps : (ts : List ℕ) → P ts (learn_words n bookRoom sheetRoom 0 ts (learn_start n sheetRoom))
  run_keeps ts = words_keep 0 [] ts (learn_start n sheetRoom) refl (starts (learn_start n sheetRoom) (opening n sheetRoom))
