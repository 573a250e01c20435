-- A refusal at the start or at a word stands to the end; else the end decides.
use mathlib.Core.Path.{refl, sym}
use borrow.Author.Rules.{rules}
use Rattle.answers.proofs.Refusing.{code_not_none}
use Rattle.inner.proofs.Inner.{passed_on}
use Rattle.learning.proofs.Lists.{begun_refused, through_stands}
use Rattle.learning.proofs.Ends.{end_stands, learn_done}
use Rattle.learning.proofs.try_learn.Goals as goal

pub returns-in_err-n : goal.returns-in_err-n
returns-in_err-n c =
    let h = begun_refused _ _ _ c.in_err-n.ensures.code _ (code_not_none _) refl in
    let f = h.fit c.args.book.now in
    rw (passed_on _ c.from_residual.ensures.1) (learn_done _ _ _ _ _ _ _ _ _ _ _ _ refl refl refl h (through_stands _ _ _ _ _ f (code_not_none _)) (end_stands _ _ _ _ f (code_not_none _) _ _ refl refl))

pub learn_start-start-requires : goal.learn_start-start-requires
learn_start-start-requires c = let k = c.in_ok-n.ensures in rw k.size (sym k.code)

pub returns-in_err-so : goal.returns-in_err-so
returns-in_err-so c =
    let k = c.in_ok-n.ensures in
    let t = c.in_err-so.ensures in
    rw (passed_on _ c.from_residual-in_err-so.ensures.1, ← k.size) (learn_done _ _ _ _ _ _ _ _ _ _ _ _ (search rules) (search rules) (search rules) c.learn_start-start.ensures t (end_stands _ _ _ _ t.fit (code_not_none _) _ _ refl refl))

pub returns : goal.returns
returns c =
    rw (← c.in_ok-n.ensures.size) (learn_done _ _ _ _ _ _ _ _ _ _ _ _ (search rules) (search rules) (search rules) c.learn_start-start.ensures c.in_ok-so.ensures c.learn_end.ensures)
