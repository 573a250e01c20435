-- The verdict on the lines left, after those read, is that on the text; the rows and the lines read are counted.
use Rattle.std.proofs.Common.{◌≡◌, ◌<◌, ◌+◌, ◌≤◌, ◌^◌, length}
use Rattle.headers.specs.Verdicts.{judge_of}
use Rattle.judging.proofs.Kept.{judge_kept}
use Rattle.judging.proofs.Turns.{point_of}
use Rattle.judging.proofs.judge.Given as goal

abbrev pub invariant-loop-line : goal.invariant-loop-line
invariant-loop-line l =
    (l.st.rows < l.k) × (l.k + length l.line-iterator ≤ length l.text + 1) × (judge_kept l.lay l.line-iterator (point_of l.st l.held) l.k ≡ judge_of l.lay l.text) × (length l.text < 2 ^ 63)
