use Rattle.std.proofs.Common.{◌≡◌, ◌<◌, true, length, drop, sym, ap, ◌∙◌, subst}
use Rattle.panel.specs.Grids.{size_of}
use Rattle.panel.specs.Reading.{positions_left, positions_of}
use Rattle.picture.specs.Tape.{tape}
use Rattle.picture.specs.Draws.{Leaves}
use Rattle.picture.specs.Pictures.{cells_from}
use Rattle.picture.proofs.Draws.{draws_as, leaves_end}
use Rattle.picture.proofs.Placing.{came, all_came, one_more}
use Rattle.picture.proofs.Shown.{rest_of, cells_turn, cells_all}
use Rattle.picture.proofs.Foreigners.{none_foreign}
use Rattle.picture.proofs.draw.Drawing.put_cells.Goals as goal

pub cell_on-requires : goal.cell_on-requires
cell_on-requires g c =
    let p = c.args.self.now.panel.now in
    (came (g.P.Panel.shows p).grid (g.P.Panel.sound p) c.loop-at.at-iterator (length c.loop-at.yielded) c.loop-at.invariant.0 _ c.next.new.self c.in-Some.ensures.steps).lies

pub put_cell-pen-requires : goal.put_cell-pen-requires
put_cell-pen-requires g c =
    let p = c.args.self.now.panel.now in
    let s = (g.P.Panel.shows p).grid in
    let k = length c.loop-at.yielded in
    let m = came s (g.P.Panel.sound p) c.loop-at.at-iterator k c.loop-at.invariant.0 _ c.next.new.self c.in-Some.ensures.steps in
    subst (λ x. x.rendition < 34992) (sym (c.cell_on.ensures ∙ m.cell)) (none_foreign s.cells 0 k c.args.self.now.clean m.low)

pub loop-at-preserved : goal.loop-at-preserved
loop-at-preserved g c =
    let p = c.args.self.now.panel.now in
    let s = (g.P.Panel.shows p).grid in
    let k = length c.loop-at.yielded in
    let m = came s (g.P.Panel.sound p) c.loop-at.at-iterator k c.loop-at.invariant.0 _ c.next.new.self c.in-Some.ensures.steps in
    subst
    (λ n. (positions_left c.next.new.self ≡ drop n (positions_of (size_of s)))
    × Leaves (tape c.put_cell-pen.new.out) (rest_of s.columns n c.put_cell-pen.result (drop n s.cells)) (tape c.args.out.now) (cells_from s.columns 0 true 0 s.cells))
    (sym (one_more c.loop-at.yielded c.in-Some.at))
    (m.left, cells_turn s k c.loop-at.pen c.put_cell-pen.result c.cell_on.result c.in-Some.at m.low (c.cell_on.ensures ∙ m.cell) m.is c.put_cell-pen.ensures.pen c.loop-at.invariant.1 c.put_cell-pen.ensures.lays)

pub returns : goal.returns
returns g c =
    let p = c.args.self.now.panel.now in
    let s = (g.P.Panel.shows p).grid in
    let k = length c.loop-at.yielded in
    let all = all_came s (g.P.Panel.sound p) c.loop-at.at-iterator k c.loop-at.invariant.0 c.in-None.ensures.steps.0 in
    draws_as
    (leaves_end c.loop-at.invariant.1 (cells_all s.columns k c.loop-at.pen s.cells all))
    (ap (λ w. cells_from w 0 true 0 s.cells) (sym c.args.self.now.wide))
