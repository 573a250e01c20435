-- `naming::find` meets its contract: the name is a part of the line.
use mathlib.Core.Path.{sym, ◌∙◌}
use Rattle.naming.proofs.SourceLaws.{found}
use Rattle.naming.proofs.find.Goals as goal

pub returns-in-Some : goal.returns-in-Some
returns-in-Some c =
    let args = c.args in
    found args.panel.now args.maker.now args.column c.in-Some.s (sym c.source_of.ensures ∙ c.in-Some.is) c.name_span-name.result c.if-column-s.true
    (rw c.line.ensures at c.name_span-name.ensures.is)
