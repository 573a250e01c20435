-- The number falls at each call: it is a tenth of what it was.
use Rattle.writing.proofs.Page.+number.Given as goal

abbrev pub decreases-number : goal.decreases-number
decreases-number l = l.v
