use Rattle.control.proofs.Sets.{sets_colour, past_black}
use Rattle.control.proofs.rendition.Colour.parameter.Goals as goal

pub returns-in-Default-clause-sets : goal.returns-in-Default-clause-sets
returns-in-Default-clause-sets c = sets_colour

pub returns-in_default : goal.returns-in_default
returns-in_default c = record { is = past_black _ _ c.args.self c.black.ensures c.in_default.not-Default; sets = sets_colour }
