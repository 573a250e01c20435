-- The self-check finds a word that is not reproduced, or all are and the words behind both tables are cleared.
use mathlib.Core.Path.{refl}
use Rattle.inner.specs.Inner.{answer_done}
use Rattle.learning.proofs.Ends.{end_asks, end_ten, end_done}
use Rattle.learning.proofs.learn_end.Goals as goal

pub first_unreproduced-requires : goal.first_unreproduced-requires
first_unreproduced-requires c = (end_asks _ (answer_done c.args.so) c.args.book.now _ c.requires refl).1

pub returns-in-Some : goal.returns-in-Some
returns-in-Some c = end_ten _ (answer_done c.args.so) _ _ c.requires refl _ c.in-Some.ensures.0 c.in-Some.ensures.1 _ refl _ _ refl refl

pub returns : goal.returns
returns c = end_done _ (answer_done c.args.so) _ _ c.requires refl c.in_default.ensures _ _ c.clear_from.ensures c.clear_from-2.ensures
