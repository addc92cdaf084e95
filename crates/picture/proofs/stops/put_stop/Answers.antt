use Rattle.std.proofs.Common.{sym, ap}
use Rattle.reader.specs.Functions.{control}
use Rattle.picture.specs.Writing.{written}
use Rattle.picture.proofs.Tapes.{then}
use Rattle.picture.specs.Pens.{stop_at}
use Rattle.picture.proofs.Draws.{draws_one, draws_both, draws_as}
use Rattle.picture.proofs.stops.put_stop.Goals as goal

pub returns-in-Columns : goal.returns-in-Columns
unfolding written
returns-in-Columns c =
    draws_as (draws_both c.put_cup.ensures (draws_one (control 136) (then c.put.ensures c.put-in-Columns.ensures)))
    (sym (ap (λ a. stop_at a c.args.k) c.in-Columns.is))

pub returns-in-Lines : goal.returns-in-Lines
unfolding written
returns-in-Lines c =
    draws_as (draws_both c.put_cup-in-Lines.ensures (draws_one (control 138) (then c.put-in-Lines.ensures c.put-in-Lines-2.ensures)))
    (sym (ap (λ a. stop_at a c.args.k) c.in-Lines.is))
