-- Laws of the lines of a text.
use Prim.Native.Nat.{ℕ, suc, ◌+◌, ◌-◌, ◌≤◌, ◌<◌}
use mathlib.Core.Path.{◌≡◌, refl, sym, ◌∙◌}
use mathlib.Core.List.{List, [], ◌∷◌}
use mathlib.Core.Bool.{Bool, true, false, cond, not}
use native.Mathlib.Omega.{arith}
use native.Mathlib.Nat.{add-sub_cancel_left}
use lib.Dec.{ltb}
use lib.ListN.{length, take, drop, length-drop, drop_of_length-le}
use lib.Seq.{drop-drop, take_all}
use borrow.Author.Tests.{ltb-false, ltb-true}
use Rattle.fields.specs.Bytes.{mark_of, feed_mark, run}
use Rattle.fields.specs.Texts.{lines_of, push, past_of}
use Rattle.fields.specs.declared.Stretch.TheVariants.{Whole}

-- the first line of a text, and the lines after it
lines_cons : (s : List ℕ) → 0 < length s → lines_of s ≡ take (run Whole s) s ∷ lines_of (drop 1 (drop (run Whole s) s))
unfolding lines_of run
lines_cons [] h = absurd (omega arith)
lines_cons (b ∷ []) h = go (feed_mark (mark_of b))
  where
    go : (t : Bool) → cond t ([] ∷ []) ((b ∷ []) ∷ []) ≡ take (cond (not t) 1 0) (b ∷ []) ∷ lines_of (drop 1 (drop (cond (not t) 1 0) (b ∷ [])))
    go true = refl
    go false = refl
lines_cons (b ∷ d ∷ u) h = go (feed_mark (mark_of b)) (lines_cons (d ∷ u) (omega arith))
  where
    go : (t : Bool) → lines_of (d ∷ u) ≡ take (run Whole (d ∷ u)) (d ∷ u) ∷ lines_of (drop 1 (drop (run Whole (d ∷ u)) (d ∷ u)))
        → cond t ([] ∷ lines_of (d ∷ u)) (push b (lines_of (d ∷ u)))
        ≡ take (cond (not t) (suc (run Whole (d ∷ u))) 0) (b ∷ d ∷ u) ∷ lines_of (drop 1 (drop (cond (not t) (suc (run Whole (d ∷ u))) 0) (b ∷ d ∷ u)))
    go true e = refl
    go false e = rw e

le_more : (e n : ℕ) → n ≤ e → n ≤ e + 1
le_more e n h = omega arith

past_drop : (s : List ℕ) (e : ℕ) → drop (past_of e (length s)) s ≡ drop (e + 1) s
past_drop s e = go (ltb e (length s)) refl
  where
    go : (t : Bool) → ltb e (length s) ≡ t → drop (cond t (e + 1) e) s ≡ drop (e + 1) s
    go true h = refl
    go false h = drop_of_length-le s (ltb-false e (length s) h) ∙ sym (drop_of_length-le s (le_more e (length s) (ltb-false e (length s) h)))

module _ (text : List ℕ) (at e : ℕ) (h : at < length text) (he : e ≡ at + run Whole (drop at text)) where
  pub line_at : lines_of (drop at text) ≡ take (e - at) (drop at text) ∷ lines_of (drop (past_of e (length text)) text)
  line_at =
      lines_cons (drop at text) (simp length-drop (omega arith))
      ∙ rw (past_drop text e, he, add-sub_cancel_left, drop-drop (run Whole (drop at text)) at text, drop-drop 1 (at + run Whole (drop at text)) text)

pub past_in : (e n : ℕ) → e ≤ n → past_of e n ≤ n
past_in e n h = go (ltb e n) refl
  where
    go : (t : Bool) → ltb e n ≡ t → cond t (e + 1) e ≤ n
    go true p = omega (arith, ltb-true e n p)
    go false p = h

pub past_on : (at e n : ℕ) → at < n → at ≤ e → at < past_of e n
past_on at e n h k = go (ltb e n) refl
  where
    go : (t : Bool) → ltb e n ≡ t → at < cond t (e + 1) e
    go true p = omega arith
    go false p = omega (arith, ltb-false e n p)

-- a part of a slice that goes to the end
pub rest_is : (s : List ℕ) (a : ℕ) → take (length s - a) (drop a s) ≡ drop a s
rest_is s a = take_all (length s - a) (drop a s) (rw length-drop (omega arith))

-- a text has no more lines than bytes
push_few : (b : ℕ) (ls : List (List ℕ)) → length (push b ls) ≤ suc (length ls)
push_few b [] = omega arith
push_few b (l ∷ ls) = omega arith

pub lines_few : (s : List ℕ) → length (lines_of s) ≤ length s
unfolding lines_of
lines_few [] = omega arith
lines_few (b ∷ s) = go (feed_mark (mark_of b)) (lines_few s)
  where
    go : (t : Bool) → length (lines_of s) ≤ length s → length (cond t ([] ∷ lines_of s) (push b (lines_of s))) ≤ suc (length s)
    go true h = omega arith
    go false h = omega (arith, push_few b (lines_of s))
