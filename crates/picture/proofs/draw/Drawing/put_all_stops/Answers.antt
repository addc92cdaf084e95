use Rattle.picture.proofs.Draws.{draws_both}
use Rattle.picture.proofs.draw.Drawing.put_all_stops.Goals as goal

pub returns : goal.returns
returns g c = draws_both c.put_one.ensures (draws_both c.put_one-2.ensures (draws_both c.put_stops.ensures c.put_stops-2.ensures))
