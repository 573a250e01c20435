-- The words passed are not w.
use Rattle.std.proofs.Common.{◌≡◌, map, drop}
use Rattle.lines.specs.Lines.{meaning}
use Rattle.lines.proofs.meaning.Given as goal

abbrev pub invariant-loop-word : goal.invariant-loop-word
invariant-loop-word g l = meaning (map (λ e. (e.0.now, e.1)) (drop l.word-index l.table)) l.w ≡ meaning (map (λ e. (e.0.now, e.1)) l.table) l.w
