use Rattle.reader.specs.Functions.{reset}
use Rattle.picture.specs.Writing.{written}
use Rattle.picture.specs.Pictures.{drawing}
use Rattle.picture.proofs.Tapes.{then}
use Rattle.picture.proofs.Draws.{draws_one, draws_both}
use Rattle.picture.proofs.draw.DrawingWritten.put.Goals as goal

pub returns : goal.returns
unfolding written drawing
returns g c = (draws_both (draws_one reset (then c.put.ensures c.put-2.ensures)) (draws_both c.put_cells.ensures (draws_both c.put_all_stops.ensures c.put_ending.ensures))).lays
