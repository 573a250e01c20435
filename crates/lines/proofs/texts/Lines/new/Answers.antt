use Rattle.std.proofs.Common.{◌∙◌, ap, map, List, ℕ}
use Rattle.fields.specs.declared.Span.{Span}
use Rattle.lines.proofs.Taking.{places_gone}
use Rattle.lines.proofs.texts.Lines.new.Goals as goal

pub returns : goal.returns
returns c = ap (λ (ps : List (Span × List ℕ)). map (λ (p : Span × List ℕ). p.1) ps) c.new.ensures ∙ places_gone 0 _
