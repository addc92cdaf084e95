use Rattle.std.proofs.Common.{◌+◌, ◌*◌, ◌%◌, ◌≤◌, ap, ◌∙◌}
use Rattle.panel.specs.Windows.{windowed}
use Rattle.panel.proofs.Windowed.{windowed_erase}
use Rattle.panel.proofs.window.WindowLines.erase_in_line.Goals as goal

pub returns : goal.returns
returns g c =
    let w = c.args.self.now in
    let f = c.shown-f.result in
    let a : c.args.at % f.columns + c.args.count ≤ f.columns = rw c.shown-f.ensures c.requires.line in
    let b : c.args.at + c.args.count ≤ f.lines * f.columns = rw c.shown-f.ensures c.requires.low in
    ap (λ z. windowed z w.frame) c.erase.ensures.after
    ∙ windowed_erase (g.P.Panel.shows w.below) (g.P.Panel.sound w.below) w.frame f c.shown-f.ensures c.args.at c.args.count c.requires.some a b
