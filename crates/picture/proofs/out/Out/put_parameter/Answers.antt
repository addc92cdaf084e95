use Rattle.std.proofs.Common.{sym, ap}
use Rattle.picture.specs.Writing.{parameter_bytes}
use Rattle.picture.proofs.Tapes.{lays_none, being}
use Rattle.picture.proofs.out.Out.put_parameter.Goals as goal

pub returns-in_default : goal.returns-in_default
returns-in_default c = being lays_none (sym (ap parameter_bytes c.in_default.is))
