-- A repeat leaves all as it was, a refusal has the word's place, and else the sums grow by what the take struck and added.
use mathlib.Core.Path.{refl, ap}
use native.Mathlib.Omega.{arith}
use Rattle.answers.specs.declared.Refusal.TheVariants.{Known}
use Rattle.answers.specs.Refusals.{code_of}
use Rattle.answers.proofs.Refusing.{code_not_none, one_refusal}
use Rattle.inner.specs.Inner.{answer_done}
use Rattle.learning.proofs.Words.{word_asks, word_repeat, word_refused, word_next, next_ready, next_nine, next_struck, next_added, next_sums, next_done}
use Rattle.learning.proofs.learn_word.Goals as goal

pub check_word-requires : goal.check_word-requires
check_word-requires c = (word_asks _ c.args.k c.args.t (answer_done c.args.before) _ c.args.sheet.now refl c.requires).1

pub returns-in-Known : goal.returns-in-Known
returns-in-Known c =
    word_repeat _ _ _ (answer_done c.args.before) _ _ refl c.requires _ c.in-Err.ensures (ap code_of c.in-Known.is)

pub returns-in_default-why : goal.returns-in_default-why
returns-in_default-why c =
    word_refused _ _ _ (answer_done c.args.before) _ _ refl c.requires _ c.in-Err.ensures
    (λ e. c.in_default-why.not-Known (one_refusal _ Known e)) (code_not_none _) _ refl

pub take_in-requires : goal.take_in-requires
take_in-requires c = next_ready _ c.args.k _ (answer_done c.args.before) _ _ (word_next _ c.args.k _ _ _ _ refl c.requires _ c.in_default.ensures refl)

pub overflow_add-result : goal.overflow_add-result
overflow_add-result c =
    let x = word_next _ c.args.k _ (answer_done c.args.before) _ _ refl c.requires _ c.in_default.ensures refl in
    omega (arith, next_struck _ c.args.k _ _ _ _ x _ _ _ c.in-Ok.ensures refl, (next_sums _ c.args.k _ _ _ _ x _ _ _ c.in-Ok.ensures refl).0)

pub overflow_add-result-in-Ok : goal.overflow_add-result-in-Ok
overflow_add-result-in-Ok c =
    let x = word_next _ c.args.k _ (answer_done c.args.before) _ _ refl c.requires _ c.in_default.ensures refl in
    omega (arith, next_added _ c.args.k _ _ _ _ x _ _ _ c.in-Ok.ensures refl, (next_sums _ c.args.k _ _ _ _ x _ _ _ c.in-Ok.ensures refl).1)

pub returns-in-Ok : goal.returns-in-Ok
returns-in-Ok c =
    next_done _ _ _ (answer_done c.args.before) _ _ (word_next _ c.args.k _ _ _ _ refl c.requires _ c.in_default.ensures refl) _ _ _ c.in-Ok.ensures refl _ refl

pub returns-in-Err-take_in : goal.returns-in-Err-take_in
returns-in-Err-take_in c =
    next_nine _ _ _ (answer_done c.args.before) _ _ (word_next _ c.args.k _ _ _ _ refl c.requires _ c.in_default.ensures refl) _ _ _ c.in-Err-take_in.ensures (code_not_none _) _ refl
