-- `exports::ntekuzino_session_take` meets its contract: the numbers stored are those of the take on the session that was read.
use Rattle.exports.proofs.Sessions.{take_handed}
use Rattle.exports.proofs.ntekuzino_session_take.Goals as goal

pub returns : goal.returns
returns c =
    let stored = c.put_answer in
    let kept = c.put_session in
    let taken = c.session_take_lent-o in
    let held = c.session_in-s in
    take_handed c.args.session.now _ _ _ _ _ taken.result _ _ _ _ _ held.ensures taken.ensures kept.ensures stored.ensures.0 stored.ensures.1
