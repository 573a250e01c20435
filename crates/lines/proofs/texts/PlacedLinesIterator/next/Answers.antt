use Rattle.std.proofs.Common.{sym, ◌∙◌}
use Rattle.lines.proofs.Taking.{none_placed, first_placed, fewer}
use Rattle.lines.proofs.texts.PlacedLinesIterator.next.Goals as goal

pub returns-then-from-text-clause-steps : goal.returns-then-from-text-clause-steps
returns-then-from-text-clause-steps c =
    let none = sym c.self.view_is ∙ none_placed c.self.inside.at c.self.inside.text.now c.if-from-text.true in
    (none, none)

pub returns-clause-steps : goal.returns-clause-steps
returns-clause-steps c =
    sym c.self.view_is ∙ first_placed c.self.inside.at c.self.inside.text.now c.line_end-to.result c.past-self-inside.result c.self.invariant c.if-from-text.false c.line_end-to.ensures.0 c.line_end-to.ensures.1 c.past-self-inside.ensures

pub returns-clause-goes : goal.returns-clause-goes
returns-clause-goes c =
    fewer (λ p. (p.0, p.1.now)) _ _ _ (sym c.self.view_is ∙ first_placed c.self.inside.at c.self.inside.text.now c.line_end-to.result c.past-self-inside.result c.self.invariant c.if-from-text.false c.line_end-to.ensures.0 c.line_end-to.ensures.1 c.past-self-inside.ensures)
