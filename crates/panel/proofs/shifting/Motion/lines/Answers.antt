use Rattle.std.proofs.Common.{ap, ◌∙◌, arith}
use Rattle.panel.specs.Screens.{with_grid}
use Rattle.panel.specs.Shifts.{turn, line_shifted}
use Rattle.panel.proofs.Shifted.{turned_none, turned_next, turned_all}
use Rattle.panel.proofs.shifting.Motion.lines.Goals as goal

pub loop-i-init : goal.loop-i-init
loop-i-init g c =
    let s = g.P.Panel.shows c.args.panel.now in
    ap (with_grid s) (turned_none s.grid (g.P.Panel.sound c.args.panel.now) c.args.self.part c.requires.fit c.args.self.count c.args.self.direction)

pub loop-i-preserved : goal.loop-i-preserved
loop-i-preserved g c =
    let s = g.P.Panel.shows c.args.panel.now in
    let r = c.args.self.part in
    let d = c.args.self.direction in
    let n = c.args.self.count in
    let t = g.P.Panel.shows c.loop-i.panel in
    c.line.ensures
    ∙ ap (λ line. with_grid t (line_shifted r d n line t.grid)) c.turn.ensures
    ∙ ap (λ z. with_grid z (line_shifted r d n (turn r d c.loop-i.i) z.grid)) c.loop-i.invariant
    ∙ ap (with_grid s) (turned_next s.grid (g.P.Panel.sound c.args.panel.now) r c.requires.fit n d c.loop-i.i (omega arith))

pub returns : goal.returns
returns g c =
    let s = g.P.Panel.shows c.args.panel.now in
    c.loop-i.invariant ∙ ap (with_grid s) (turned_all s.grid (g.P.Panel.sound c.args.panel.now) c.args.self.part c.requires.fit c.args.self.count c.args.self.direction c.loop-i.i (omega arith))
