-- `lines::kind_of` meets its contract.
use Rattle.std.proofs.Common.{ap, ◌∙◌, unwrap_or, option_map}
use Rattle.lines.specs.declared.Line.TheVariants.{Typed, Fault}
use Rattle.lines.specs.Lines.{typed_of}
use Rattle.lines.proofs.LineLaws.{typed_by}
use Rattle.lines.proofs.kind_of.Goals as goal

pub returns : goal.returns
unfolding typed_of
returns c = ap (λ (k : _). unwrap_or (option_map Typed k) Fault) c.meaning.ensures ∙ typed_by c.args.v.now _ _
