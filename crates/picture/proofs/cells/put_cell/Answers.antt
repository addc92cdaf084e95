use Rattle.std.proofs.Common.{Bool, sym, ap}
use Rattle.std.proofs.lemmas.Bool.{cond-true, cond-false}
use Rattle.reader.specs.Functions.{graphic}
use Rattle.picture.specs.Writing.{written}
use Rattle.picture.specs.Tape.{tape}
use Rattle.picture.specs.Draws.{Draws}
use Rattle.picture.specs.Pictures.{when, cup}
use Rattle.picture.specs.Pens.{starts}
use Rattle.picture.proofs.Draws.{draws_none, draws_one, draws_both, draws_as, draws_by}
use Rattle.picture.proofs.cells.put_cell.Goals as goal
use Rattle.picture.proofs.cells.put_cell.Goals.{then-is_start, else-is_start}

pub returns-then-is_erased-clause-lays : goal.returns-then-is_erased-clause-lays
returns-then-is_erased-clause-lays c = draws_as draws_none (sym (cond-true _ _ _ (sym c.if-is_erased.ensures)))

pub returns-clause-lays : goal.returns-clause-lays
unfolding written
returns-clause-lays c =
    let place = λ (b : Bool). when b (cup c.args.at.line c.args.at.column) in
    let placed : Draws (tape c.args.out.now) (place (starts c.args.pen c.args.at.column)) (tape c.if-is_start.out) =
    elim c.if-is_start.branch [
      | then-is_start w ↦ draws_by place (sym w.if-is_start.ensures) (ap tape w.out-is) w.put_cup.ensures
      | else-is_start w ↦ draws_by place (sym w.if-is_start.ensures) (ap tape w.out-is) draws_none
    ]
    in
    draws_as (draws_both placed (draws_both c.put_rendition.ensures (draws_one (graphic c.args.cell.code) c.put.ensures))) (sym (cond-false _ _ _ (sym c.if-is_erased.ensures)))
