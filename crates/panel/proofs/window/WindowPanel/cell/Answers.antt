use Rattle.std.proofs.Common.{◌∙◌}
use Rattle.panel.proofs.Places.{goes_on}
use Rattle.panel.proofs.Windowed.{windowed_cell}
use Rattle.panel.proofs.window.WindowPanel.cell.Goals as goal

pub returns : goal.returns
returns g c =
    let w = c.args.self.now in
    c.cell.ensures ∙ windowed_cell (g.P.Panel.shows w.below) (g.P.Panel.sound w.below) w.frame _ _ (goes_on _ _ _ c.in_ok-place.was c.ok_or.ensures.ok_part ∙ c.cell_below.ensures)
