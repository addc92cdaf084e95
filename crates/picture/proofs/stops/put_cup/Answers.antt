use Rattle.picture.specs.Pictures.{cup}
use Rattle.picture.proofs.Draws.{draws_one}
use Rattle.picture.proofs.stops.put_cup.Goals as goal

pub returns : goal.returns
returns c = draws_one (cup c.args.at.line c.args.at.column) c.put_sequence.ensures
