use Rattle.std.proofs.Common.{◌≡◌}
use Rattle.panel.specs.Screens.{with_grid}
use Rattle.panel.proofs.Shifted.{done_lines, turned}
use Rattle.panel.proofs.shifting.Motion.lines.Given as goal

abbrev pub invariant-loop-i : goal.invariant-loop-i
invariant-loop-i g l =
    let s = g.P.Panel.shows l.initial.panel in
    g.P.Panel.shows l.panel ≡ with_grid s (done_lines s.grid l.self.part l.self.direction l.self.count (turned l.self.part l.self.direction l.i))
