-- `reading::matches` meets its contract: one `&` for each mask.
use Rattle.reading.proofs.RowLaws.{matches_by_on, matches_by_off}
use Rattle.reading.proofs.matches.Goals as goal

pub returns-then-m-state : goal.returns-then-m-state
returns-then-m-state c = matches_by_off c.args.m c.args.state c.requires c.if-m-state.true

pub returns-else-m-state : goal.returns-else-m-state
returns-else-m-state c = matches_by_on c.args.m c.args.state c.requires c.if-m-state.false
