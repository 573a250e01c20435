-- `fields::run_end` meets its contract: the first byte that does not belong to the stretch ends it.
use Rattle.std.proofs.Common.{not, rules, tests}
use Rattle.std.proofs.lemmas.Iterator.{YieldsList-from_slice}
use Rattle.std.proofs.lemmas.Iterator.Search.{position_from_yields_List}
use Rattle.fields.specs.Bytes.{mark_of, is_in}
use Rattle.fields.proofs.ByteLaws.{run_some, run_none}
use Rattle.fields.proofs.run_end.Goals as goal

pub returns-in-Some : goal.returns-in-Some
returns-in-Some c =
    run_some c.args.k c.args.s.now c.args.from c.position.result c.requires
    (position_from_yields_List (λ b. not (is_in c.args.k (mark_of b))) _ _ _ c.position.ensures.ran (YieldsList-from_slice _ c.iter.ensures.rest) (λ x b q k. search (rules, tests)))
    c.in-Some.n c.in-Some.is

pub returns-in-None : goal.returns-in-None
returns-in-None c =
    run_none c.args.k c.args.s.now c.args.from c.position.result c.requires
    (position_from_yields_List (λ b. not (is_in c.args.k (mark_of b))) _ _ _ c.position.ensures.ran (YieldsList-from_slice _ c.iter.ensures.rest) (λ x b q k. search (rules, tests)))
    c.in-None.is
