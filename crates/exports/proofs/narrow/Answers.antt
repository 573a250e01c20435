-- what `try_from` and `unwrap_or` give is the number that the specification narrows to
use Rattle.exports.proofs.Sessions.{narrowed_tried}
use mathlib.Core.Path.{◌∙◌}
use Rattle.exports.proofs.narrow.Goals as goal

pub returns : goal.returns
returns c = c.unwrap_or.ensures ∙ narrowed_tried c.args.x _ c.try_from.ensures
