-- A word that is refused ends the walk, since a refusal stands; else the words up to it are learned.
use borrow.Author.Rules.{rules}
use Rattle.answers.proofs.Refusing.{code_not_none}
use Rattle.inner.proofs.Inner.{passed_on}
use Rattle.learning.proofs.Lists.{learning_more, learning_stop, learning_end}
use Rattle.learning.proofs.learn_words.Goals as goal

pub returns-in_err-so : goal.returns-in_err-so
returns-in_err-so c =
    rw (passed_on _ c.from_residual.ensures.1) (learning_stop _ _ _ _ _ _ _ _ _ c.loop-k.invariant c.loop-k-test.true _ _ _ c.in_err-so.ensures (code_not_none _) (search rules) (search rules))

pub loop-k-preserved : goal.loop-k-preserved
loop-k-preserved c = learning_more _ _ _ _ _ _ _ _ _ c.loop-k.invariant c.loop-k-test.true _ _ _ (search rules) (search rules) c.in_ok-so.ensures

pub returns : goal.returns
returns c = learning_end _ _ _ _ _ _ _ _ _ c.loop-k.invariant c.loop-k-test.false
