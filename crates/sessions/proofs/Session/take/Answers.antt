-- The totals stay small, and the outcome is that of a take with the counts of the session.
use Rattle.sessions.proofs.Outcomes.{take_summable, take_outcome}
use Rattle.sessions.proofs.Session.take.Goals as goal

pub after-requires : goal.after-requires
after-requires c =
    take_summable _ _ _ _ _ _ c.totals_fit-spoilt.ensures _ _ _ c.take_unless-answer.ensures

pub returns : goal.returns
returns c =
    take_outcome _ _ _ _ _ _ c.totals_fit-spoilt.ensures _ _ _ c.take_unless-answer.ensures _ c.after.ensures
