-- `lines::meaning` meets its contract.
use Rattle.lines.proofs.LineLaws.{word_hit, word_miss}
use Rattle.lines.proofs.meaning.Goals as goal

pub returns-then-eq : goal.returns-then-eq
returns-then-eq g c = word_hit _ _ _ _ _ c.loop-word-test.true c.loop-word-item.is c.loop-word.invariant c.if-eq.ensures

pub loop-word-preserved : goal.loop-word-preserved
loop-word-preserved g c = word_miss _ _ _ _ _ c.loop-word-test.true c.loop-word-item.is c.loop-word.invariant c.if-eq.ensures
