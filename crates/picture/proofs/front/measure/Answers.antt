use Rattle.std.proofs.Common.{◌∙◌, subst}
use Rattle.picture.specs.Tape.{Lays, tape}
use Rattle.picture.proofs.Tapes.{measured}
use Rattle.picture.proofs.front.measure.Goals as goal

pub returns : goal.returns
returns g c =
    c.length.ensures ∙ measured (subst (λ t. Lays t (g.W.Written.bytes c.args.what.now) (tape c.put.new.out)) c.new-out.ensures c.put.ensures)
