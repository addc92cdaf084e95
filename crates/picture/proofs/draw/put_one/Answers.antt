use Rattle.std.proofs.Common.{[], ◌∷◌}
use Rattle.picture.specs.Pictures.{numbered}
use Rattle.picture.proofs.Draws.{draws_one}
use Rattle.picture.proofs.draw.put_one.Goals as goal

pub returns : goal.returns
returns c = draws_one (numbered (c.args.n ∷ []) c.args.final_byte) c.put_sequence.ensures
