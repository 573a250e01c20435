-- `names::name_ok` meets its contract.
use Rattle.std.proofs.Common.{rules, tests, arith, ◌∙◌}
use Rattle.std.proofs.lemmas.Iterator.{YieldsList-from_slice}
use Rattle.std.proofs.lemmas.Iterator.Search.{all_from_yields_List}
use Rattle.std.proofs.lemmas.Grind.{common_steps}
use Rattle.names.specs.Names.{name_byte}
use Rattle.names.proofs.NameLaws.{name_ok_is, name_ok_short}
use Rattle.names.proofs.name_ok.Goals as goal

pub returns-then-contains : goal.returns-then-contains
returns-then-contains c =
    let w = c.args.w.now in
    all_from_yields_List name_byte _ _ _ c.all.ensures.ran (YieldsList-from_slice _ c.iter.ensures.rest) (λ x b q k. search (rules, tests))
    ∙ name_ok_is w (search (rules, tests)) (search (rules, tests))

pub returns-else-contains : goal.returns-else-contains
returns-else-contains c = c.if-contains.false ∙ name_ok_short c.args.w.now (λ h. grind (arith, common_steps))
