-- `names::has_field` meets its contract.
use Rattle.std.proofs.Common.{nat_eq, refl, sym, ◌∙◌, rules, tests}
use Rattle.std.specs.Cmp.Lexicographic.{pointwise}
use Rattle.std.proofs.lemmas.Iterator.Consumers.{YieldsList-from_first}
use Rattle.std.proofs.lemmas.Iterator.Search.{any_from_yields_List}
use Rattle.fields.specs.Fields.{fields_left}
use Rattle.names.proofs.NameLaws.{holds_is}
use Rattle.names.proofs.has_field.Goals as goal

pub returns : goal.returns
returns c =
    any_from_yields_List (pointwise nat_eq c.args.w.now) c.any.new.self _ _ c.any.ensures.ran (YieldsList-from_first (λ x. x.now) fields_left (fields_left c.args.others) refl) (λ x b q k. search (rules, tests))
    ∙ sym (holds_is c.args.w.now (fields_left c.args.others))
