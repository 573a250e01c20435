-- What the iterators over the lines of a text stand on: the first line, and the lines after it.
use Prim.Native.Nat.{ℕ, ◌+◌, ◌-◌, ◌≤◌, ◌<◌}
use mathlib.Core.Path.{◌≡◌, refl, sym, subst}
use mathlib.Core.List.{List, [], ◌∷◌}
use mathlib.Core.Bool.{Bool, true, false, cond}
use lib.Dec.{ltb}
use lib.ListN.{length, take, drop, length-take, length-drop, drop_of_length-le}
use borrow.Author.Tests.{ltb-false}
use native.Mathlib.Omega.{arith}
use Rattle.std.specs.Iterator.{MakesProgress, item_count}
use Rattle.std.proofs.Common.{Some}
use Rattle.fields.specs.Bytes.{run}
use Rattle.fields.specs.Texts.{lines_of, past_of}
use Rattle.fields.specs.declared.Stretch.TheVariants.{Whole}
use Rattle.fields.proofs.TextLaws.{line_at}
use Rattle.fields.specs.declared.Span.{Span}
use Rattle.std.specs.Prelude.{map}
use Rattle.lines.specs.Placed.{placed_from}

-- ---- with their places

pub none_placed : (at : ℕ) (s : List ℕ) → at ≡ length s → placed_from at (lines_of (drop at s)) ≡ []
unfolding lines_of placed_from
none_placed at s e = rw (drop_of_length-le s {i = at} (omega arith)) refl

placed_past : (e : ℕ) (s : List ℕ) → placed_from (e + 1) (lines_of (drop (past_of e (length s)) s)) ≡ placed_from (past_of e (length s)) (lines_of (drop (past_of e (length s)) s))
unfolding lines_of placed_from
placed_past e s = go (ltb e (length s)) refl
  where
    go : (t : Bool) → ltb e (length s) ≡ t → placed_from (e + 1) (lines_of (drop (cond t (e + 1) e) s)) ≡ placed_from (cond t (e + 1) e) (lines_of (drop (cond t (e + 1) e) s))
    go true h = refl
    go false h = rw (drop_of_length-le s (ltb-false e (length s) h)) refl

placed_cons : (at : ℕ) (l : List ℕ) (ls : List (List ℕ)) (e : ℕ) → at + length l ≡ e → placed_from at (l ∷ ls) ≡ (record { from = at; to = e }, l) ∷ placed_from (e + 1) ls
unfolding placed_from
placed_cons at l ls e h = rw h refl

pub first_placed : (at : ℕ) (s : List ℕ) (e p : ℕ) → at ≤ length s → (at ≡ length s → ⊥) → e ≡ at + run Whole (drop at s) → e ≤ length s → p ≡ past_of e (length s)
    → placed_from at (lines_of (drop at s)) ≡ (record { from = at; to = e }, take (e - at) (drop at s)) ∷ placed_from p (lines_of (drop p s))
first_placed at s e p h n he k hp =
    rw (line_at s at e (omega arith) he, placed_cons at (take (e - at) (drop at s)) (lines_of (drop (past_of e (length s)) s)) e (simp (length-take, length-drop) (omega arith)), placed_past e s, hp) refl

-- ---- without their places

pub places_gone : (at : ℕ) (ls : List (List ℕ)) → map (λ (p : Span × List ℕ). p.1) (placed_from at ls) ≡ ls
unfolding placed_from
places_gone at [] = refl
places_gone at (l ∷ ls) = rw (places_gone (at + length l + 1) ls) refl

-- ---- an item leaves fewer

pub fewer : {A B : Type 0} (view : A → B) (s t : List B) (x : A) → s ≡ view x ∷ t → MakesProgress (λ _. Unit {0}) (item_count (λ (l : List B). l)) s (Some x) t
fewer view s t x e = record { on = λ _. (tt, tt, subst (λ l. length t < length l) (sym e) (omega arith)); keeps = tt; rests = λ _. tt }
