use Rattle.picture.proofs.Tapes.{then}
use Rattle.picture.proofs.pieces.CommandStringWritten.put.Goals as goal

pub returns : goal.returns
returns c = then c.put.ensures (then c.put-2.ensures (then c.put_all.ensures (then c.put-3.ensures c.put-4.ensures)))
