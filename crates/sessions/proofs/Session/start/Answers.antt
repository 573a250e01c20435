-- A refused start gives five zeros; else n rules stand and nothing was taken.
use mathlib.Core.Path.{ap}
use Rattle.sessions.specs.declared.Session.{Session}
use Rattle.sessions.proofs.Outcomes.{zeros, start_refused, start_done}
use Rattle.sessions.proofs.Session.start.Goals as goal

pub returns-then-answer-ne0 : goal.returns-then-answer-ne0
returns-then-answer-ne0 c = start_refused _ _ _ _ c.fresh-answer.ensures c.if-answer-ne0.true _ (zeros _ c.default.ensures)

pub returns : goal.returns
returns c =
    start_done _ _ _ _ c.fresh-answer.ensures c.if-answer-ne0.false _
    (ap (λ (s : Session). record { n = c.args.n; book_count = s.book_count; sheet_count = c.args.n; struck = s.struck; added = s.added }) (zeros _ c.default-2.ensures))
