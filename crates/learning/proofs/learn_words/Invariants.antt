-- The words before this one have been learned, and none was refused.
use Rattle.inner.specs.Inner.{answer_done}
use Rattle.learning.proofs.Lists.{Learning}
use Rattle.learning.proofs.learn_words.Given as goal

abbrev pub invariant-loop-k : goal.invariant-loop-k
invariant-loop-k l = Learning l.n l.words (answer_done l.initial.so) l.initial.book l.initial.sheet l.k (answer_done l.so) l.book l.sheet
