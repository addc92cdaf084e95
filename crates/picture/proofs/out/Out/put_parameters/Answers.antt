use Rattle.std.proofs.Common.{arith}
use Rattle.std.proofs.lemmas.Bool.{ltb-true, ltb-false, leb-true, leb-false}
use Rattle.picture.proofs.Askings.{listed_first, listed_none}
use Rattle.picture.proofs.Tapes.{lays_none, being, then}
use Rattle.picture.proofs.out.Out.put_parameters.Goals as goal

pub returns-in-empty : goal.returns-in-empty
returns-in-empty c = being lays_none (listed_none c.args.parameters.now (omega (arith, ltb-true, ltb-false, leb-true, leb-false)))

pub returns-in-len1-up : goal.returns-in-len1-up
returns-in-len1-up c = being (then c.put_parameter.ensures c.put_more.ensures) (listed_first c.args.parameters.now (omega (arith, ltb-true, ltb-false, leb-true, leb-false)))
