-- The number after `.p` is compared exactly, whatever its length: the verdict on lines as the code keeps them, with that number cut
-- at 10^19, is the verdict on the lines themselves, since no text has so many rows.
use Prim.Native.Nat.{ℕ, ◌+◌, ◌<◌, min}
use mathlib.Core.Path.{◌≡◌, ap}
use mathlib.Core.List.{List, [], ◌∷◌}
use mathlib.Core.Bool.{cond}
use native.Mathlib.Omega.{arith}
use lib.ListN.{length}
use Rattle.fields.specs.Values.{most}
use Rattle.fields.proofs.ValueLaws.{kept_same}
use Rattle.names.specs.Names.{names_in}
use Rattle.lines.specs.Lines.{line_of, keep_line}
use Rattle.headers.specs.Headers.{Point, allowed_by, next_by, allowed_at, next_at}
use Rattle.headers.specs.Verdicts.{finish_of, judge_lines}
use Rattle.headers.specs.declared.Layout.{Layout}
use Rattle.headers.specs.declared.State.{State}
use Rattle.headers.specs.Verdicts.{Verdict}
use Rattle.std.specs.Prelude.{Err}
use Rattle.headers.proofs.Counts.{on_want, on_point, allowed_on_count, next_on_count}
use Rattle.headers.proofs.Seeing.{rows_next_le}

-- the verdict on lines as the code keeps them
unfoldable pub judge_kept : Layout → List (List ℕ) → Point → ℕ → Verdict
judge_kept lay [] pt k = finish_of pt.state k
judge_kept lay (l ∷ ls) pt k = cond (allowed_by lay pt (keep_line (line_of l)) (names_in l)) (judge_kept lay ls (next_by pt (keep_line (line_of l)) (names_in l) k) (k + 1)) (Err k)

abbrev cut : ℕ → ℕ
cut v = min v most

finish_cut : (st : State) (k : ℕ) → st.rows < most → finish_of (on_want cut st) k ≡ finish_of st k
unfolding finish_of
finish_cut st k h = rw (kept_same st.want st.rows h)

pub judge_kept_lem : (lay : Layout) (ls : List (List ℕ)) (pt : Point) (k : ℕ) → pt.state.rows + length ls < most → judge_kept lay ls (on_point cut pt) k ≡ judge_lines lay ls pt k
unfolding judge_kept judge_lines allowed_at next_at
judge_kept_lem lay [] pt k h = finish_cut pt.state k (omega arith)
judge_kept_lem lay (l ∷ ls) pt k h =
    rw (allowed_on_count cut lay pt (line_of l) (names_in l), next_on_count cut pt (line_of l) (names_in l) k)
    (ap (λ (v : Verdict). cond (allowed_by lay pt (line_of l) (names_in l)) v (Err k))
    (judge_kept_lem lay ls (next_by pt (line_of l) (names_in l) k) (k + 1) (omega (arith, rows_next_le pt.state (line_of l) k))))
