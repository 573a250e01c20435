-- Words written over the front of a slice, one by one or in parts.
use mathlib.Core.Path.{◌≡◌, refl, sym, ap, ap₂, ◌∙◌}
use mathlib.Core.Bool.{Bool, true, false}
use mathlib.Core.List.{List, [], ◌∷◌, ◌++◌, append_assoc, append-nil}
use Prim.Native.Nat.{ℕ, ◌-◌, ◌≤◌, ◌<◌}
use native.Mathlib.Nat.{le_of_suc-le-suc, not-suc-le-zero}
use native.Mathlib.Omega.{arith}
use lib.ListN.{length, take, drop, set, length-append, length-drop, drop_of_length-le}
use lib.Seq.{drop-append_seam, take-append_seam, drop-drop, take_all}
use Rattle.table.specs.Lists.{cons_if}
use Rattle.spans.specs.Parts.{over, put_if, Laid}

pub over_length : (xs s : List ℕ) → length xs ≤ length s → length (over xs s) ≡ length s
unfolding over
over_length xs s h = length-append xs (drop (length xs) s) ∙ omega (arith, length-drop (length xs) s)

over_set : (xs s : List ℕ) (w : ℕ) → length xs < length s → set (over xs s) (length xs) w ≡ over (xs ++ (w ∷ [])) s
unfolding over
over_set [] [] w h = absurd (not-suc-le-zero h)
over_set [] (y ∷ s) w h = refl
over_set (x ∷ xs) [] w h = absurd (not-suc-le-zero h)
over_set (x ∷ xs) (y ∷ s) w h = ap (λ (t : List ℕ). x ∷ t) (over_set xs s w (le_of_suc-le-suc h))

pub over_put : (b : Bool) (xs s : List ℕ) (w : ℕ) → (b ≡ true → length xs < length s) → put_if b (length xs) w (over xs s) ≡ over (xs ++ cons_if b w []) s
over_put true xs s w h = over_set xs s w (h refl)
over_put false xs s w h = ap (λ (t : List ℕ). over t s) (sym (append-nil xs))

pub over_nil : (s : List ℕ) → s ≡ over [] s
unfolding over
over_nil s = refl

-- ys written behind xs: the part from there on was lent
pub over_over : (xs ys s : List ℕ) → take (length xs) (over xs s) ++ over ys (drop (length xs) (over xs s)) ≡ over (xs ++ ys) s
unfolding over
over_over xs ys s =
    ap₂ (λ (a b : List ℕ). a ++ (ys ++ drop (length ys) b)) (take-append_seam xs (drop (length xs) s)) (drop-append_seam xs (drop (length xs) s))
    ∙ ap (λ (t : List ℕ). xs ++ (ys ++ t)) (drop-drop (length ys) (length xs) s ∙ ap (λ (k : ℕ). drop k s) (sym (length-append xs ys)))
    ∙ sym (append_assoc xs ys (drop (length (xs ++ ys)) s))

over_front : (xs s : List ℕ) → take (length xs) (over xs s) ≡ xs
unfolding over
over_front xs s = take-append_seam xs (drop (length xs) s)

-- what a walk has written, told as the words in use
pub laid : (old s tab : List ℕ) (r : ℕ) → r ≡ length tab → s ≡ over tab old → length tab ≤ length old → Laid old s r tab
laid old s tab r er es h = record {
  count = er;
  whole = es;
  holds = record {
    is = ap₂ take er es ∙ over_front tab old;
    fits = omega (arith, er, ap length es, over_length tab old h);
    same = ap length es ∙ over_length tab old h;
  };
}

-- a part lent from at on has come back with xs over its front
pub put_over : (at : ℕ) (s xs ys : List ℕ) → at ≤ length s → ys ≡ over xs (take (length s - at) (drop at s))
    → take at s ++ (ys ++ drop (length s - at) (drop at s)) ≡ take at s ++ over xs (drop at s)
put_over at s xs ys h e =
    let k : length (drop at s) ≡ length s - at = length-drop at s in
    rw (e, take_all (length s - at) (drop at s) (omega arith), drop_of_length-le (drop at s) {i = length s - at} (omega arith), append-nil)

pub nothing_over : (xs s : List ℕ) → 0 ≡ length xs → (0 ≡ length xs) × (s ≡ over xs s)
unfolding over
nothing_over [] s e = (refl, refl)
nothing_over (x ∷ xs) s e = absurd (omega (arith, e))
