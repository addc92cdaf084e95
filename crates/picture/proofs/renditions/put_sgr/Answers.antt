use Rattle.picture.specs.Writing.{written, digits}
use Rattle.picture.proofs.Tapes.{then}
use Rattle.picture.proofs.renditions.put_sgr.Goals as goal

pub returns : goal.returns
unfolding written digits
returns c = then c.put.ensures (then c.put-2.ensures (then c.put-3.ensures (then c.put_needs.ensures.lays c.put-4.ensures)))
