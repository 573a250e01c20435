-- The words so far and those of the lines left are the words of the text.
use Rattle.reading.specs.Rows.{lines_words, words_in}
use Rattle.reading.specs.Reading.{Adds}
use Rattle.std.proofs.Common.{Some, List, ℕ}
use mathlib.Core.List.{◌++◌}
use mathlib.Core.Path.{◌≡◌}
use Rattle.reading.proofs.fill.Given as goal

abbrev pub invariant-loop-line : goal.invariant-loop-line
invariant-loop-line l = (ws : List ℕ) × Adds l.initial.words ws l.words (Some tt) × (ws ++ lines_words l.kind l.line-iterator ≡ words_in l.kind l.text)
