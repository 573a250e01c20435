-- What reading gives is for a panel: its size is 1 to 10, and every word is a transition of it.
use Prim.Native.Nat.{ℕ, zero, suc, ◌^◌, ◌≤◌}
use mathlib.Core.Path.{◌≡◌, refl, sym, ◌∙◌, ap}
use mathlib.Core.List.{List, [], ◌∷◌, ◌++◌}
use mathlib.Core.Bool.{Bool, true, false, cond}
use native.Mathlib.Omega.{arith}
use lib.Dec.{ltb}
use borrow.Author.Tests.{lt-ltb}
use Rattle.table.specs.Lists.{all}
use Rattle.table.proofs.Basics.{and_i, and_l, and_r}
use Rattle.panel.specs.Masks.{panel_size}
use Rattle.panel.specs.Transitions.{transition_word, valid_transition}
use Rattle.panel.proofs.Transitions.{word_valid}
use Rattle.fields.specs.Texts.{lines_of}
use Rattle.lines.specs.Lines.{line_of, view_of}
use Rattle.lines.specs.Bounds.{RowOk, ViewOk}
use Rattle.lines.specs.declared.Kind.TheVariants.{Recording}
use Rattle.lines.specs.declared.Masks.{Masks}
use Rattle.lines.specs.declared.View.{View}
use Rattle.lines.specs.declared.View.TheVariants.{Cells, EndMark, Aside}
use Rattle.lines.proofs.BoundLaws.{line_ok, view_ok}
use Rattle.headers.specs.Layouts.{recording}
use Rattle.headers.specs.Accepted.{All, Accepted}
use Rattle.headers.proofs.Sizes.{ViewFits, RowFits, text_size, text_rows_lem}
use Rattle.reading.specs.Rows.{matches_of, words_below, view_words, line_words, lines_words, words_in, text_words}

all_append : (f : ℕ → Bool) (s t : List ℕ) → all f s ≡ true → all f t ≡ true → all f (s ++ t) ≡ true
all_append f [] t h k = k
all_append f (x ∷ s) t h k = and_i (f x) _ (and_l (f x) _ h) (all_append f s t (and_r (f x) _ h) k)

below_valid : (m : Masks) → RowOk m → (i : ℕ) → i ≤ 2 ^ m.width → all (valid_transition m.width) (words_below m i) ≡ true
unfolding words_below
below_valid m o zero l = refl
below_valid m o (suc i) l =
    all_append (valid_transition m.width) (words_below m i) (cond (matches_of m i) (transition_word i m.next ∷ []) []) (below_valid m o i (omega arith)) (go (matches_of m i))
  where
    go : (t : Bool) → all (valid_transition m.width) (cond t (transition_word i m.next ∷ []) []) ≡ true
    go true = and_i _ true (word_valid m.width i m.next o.few (omega arith) o.next_small) refl
    go false = refl

view_valid : (n : ℕ) (v : View) → ViewOk v → ViewFits recording n v → all (valid_transition n) (view_words Recording v) ≡ true
view_valid n (Cells m) o s = ap (λ (k : ℕ). all (valid_transition k) (words_below m (2 ^ m.width))) (sym s.width) ∙ below_valid m o (2 ^ m.width) (omega arith)
view_valid n EndMark o s = refl
view_valid n Aside o s = refl

lines_valid : (n : ℕ) (ls : List (List ℕ)) → All (RowFits recording n) ls → all (valid_transition n) (lines_words Recording ls) ≡ true
unfolding lines_words
lines_valid n [] s = refl
lines_valid n (l ∷ ls) s = all_append (valid_transition n) (line_words Recording (line_of l)) (lines_words Recording ls) (view_valid n (view_of (line_of l)) (view_ok (line_of l) (line_ok l)) s.0) (lines_valid n ls s.1)

module _ (t : List ℕ) (n : ℕ) (h : Accepted recording n t) where
  pub read_size : panel_size n ≡ true
  unfolding panel_size
  read_size =
      let s = text_size recording n (lines_of t) h in
      and_i (ltb 0 n) (ltb n 11) (lt-ltb 0 n s.0) (lt-ltb n 11 (omega (arith, s.1)))

  pub read_valid : all (valid_transition n) (text_words t) ≡ true
  unfolding words_in
  read_valid = lines_valid n (lines_of t) (text_rows_lem recording n (lines_of t) h)
