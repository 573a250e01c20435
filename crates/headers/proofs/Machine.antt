-- The machine of `judge_lines` as `Passing` sees it, and the verdict on lines that pass, or of which one does not.
use Prim.Native.Nat.{ℕ, ◌+◌}
use mathlib.Core.Path.{◌≡◌, refl, ◌∙◌, ap}
use mathlib.Core.List.{List, [], ◌∷◌, ◌++◌}
use mathlib.Core.Bool.{Bool, true, false, ◌||◌}
use native.Mathlib.Omega.{arith}
use lib.ListN.{length}
use Rattle.lines.specs.Lines.{line_of, view_of}
use Rattle.headers.specs.Headers.{allowed_at, next_at, Point}
use Rattle.headers.specs.Verdicts.{finish_of, judge_lines}
use Rattle.headers.specs.Accepted.{rows_in}
use Rattle.headers.specs.Places.{is_end, end_in}
use Rattle.headers.specs.declared.Layout.{Layout}
use Rattle.std.specs.Prelude.{Err}
use Rattle.headers.proofs.Passing.{state_after, all_pass, pass_here, pass_more}
use Rattle.headers.proofs.Seeing.{next_goes}

-- all lines are allowed, from a point on
abbrev pub passes : Layout → List (List ℕ) → Point → ℕ → Bool
passes lay ls pt k = all_pass (allowed_at lay) next_at ls pt k

-- the point after them
abbrev pub after : List (List ℕ) → Point → ℕ → Point
after ls pt k = state_after next_at ls pt k

-- lines that all pass are judged at the end
pub judge_passing : (lay : Layout) (ls : List (List ℕ)) (pt : Point) (k : ℕ) → passes lay ls pt k ≡ true → judge_lines lay ls pt k ≡ finish_of (after ls pt k).state (length ls + k)
unfolding judge_lines state_after
judge_passing lay [] pt k h = ap (λ (n : ℕ). finish_of pt.state n) (omega arith)
judge_passing lay (l ∷ ls) pt k h =
    rw (pass_here (allowed_at lay) next_at l ls pt k h)
    (judge_passing lay ls (next_at pt l k) (k + 1) (pass_more (allowed_at lay) next_at l ls pt k h)
    ∙ ap (λ (n : ℕ). finish_of (after ls (next_at pt l k) (k + 1)).state n) (omega arith))

-- the first line that does not pass is the place
pub judge_stuck : (lay : Layout) (pre : List (List ℕ)) (l : List ℕ) (post : List (List ℕ)) (pt : Point) (k : ℕ) → passes lay pre pt k ≡ true
    → allowed_at lay (after pre pt k) l ≡ false → judge_lines lay (pre ++ l ∷ post) pt k ≡ Err (length pre + k)
unfolding judge_lines state_after
judge_stuck lay [] l post pt k h a = rw a (ap Err (omega arith))
judge_stuck lay (p ∷ pre) l post pt k h a =
    rw (pass_here (allowed_at lay) next_at p pre pt k h)
    (judge_stuck lay pre l post (next_at pt p k) (k + 1) (pass_more (allowed_at lay) next_at p pre pt k h) a ∙ ap Err (omega arith))

-- ---- what the state after lines says of them

pub after_rows : (ls : List (List ℕ)) (pt : Point) (k : ℕ) → (after ls pt k).state.rows ≡ pt.state.rows + rows_in ls
unfolding state_after next_at rows_in
after_rows [] pt k = omega arith
after_rows (l ∷ ls) pt k = omega (arith, after_rows ls (next_at pt l k) (k + 1), (next_goes pt.state (line_of l) k).rows)

pub after_ended : (ls : List (List ℕ)) (pt : Point) (k : ℕ) → (after ls pt k).state.ended ≡ (end_in ls || pt.state.ended)
unfolding state_after next_at end_in
after_ended [] pt k = refl
after_ended (l ∷ ls) pt k = after_ended ls (next_at pt l k) (k + 1) ∙ rw (next_goes pt.state (line_of l) k).ended (go (end_in ls) (is_end (view_of (line_of l))))
  where
    go : (a b : Bool) → (a || (b || pt.state.ended)) ≡ ((b || a) || pt.state.ended)
    go true true = refl
    go true false = refl
    go false true = refl
    go false false = refl
