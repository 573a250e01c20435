-- `lines::key_of` meets its contract.
use Rattle.lines.specs.Lines.{key_of, other_key}
use Rattle.lines.proofs.key_of.Goals as goal

pub returns : goal.returns
unfolding key_of other_key
returns c = c.meaning.ensures
