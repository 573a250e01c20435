-- The mask of the relays whose contact was seen, as two masks in one.
use Rattle.panel.proofs.Near.{against_bits_but}
use Rattle.panel.proofs.relays_against.Goals as goal

pub returns : goal.returns
returns c = against_bits_but _ _ _ _ c.ranges.i.fits c.must_on.ensures c.must_off.ensures
