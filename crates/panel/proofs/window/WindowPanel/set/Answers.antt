use Rattle.std.proofs.Common.{ap, ◌∙◌}
use Rattle.panel.specs.Windows.{windowed}
use Rattle.panel.proofs.Places.{goes_on}
use Rattle.panel.proofs.Windowed.{windowed_set}
use Rattle.panel.proofs.window.WindowPanel.set.Goals as goal

pub returns-clause-after : goal.returns-clause-after
returns-clause-after g c =
    let w = c.args.self.now in
    let s = g.P.Panel.shows w.below in
    let h = g.P.Panel.sound w.below in
    ap (λ z. windowed z w.frame) c.set.ensures.after ∙ windowed_set s h w.frame _ _ (goes_on _ _ _ c.in_ok-place.was c.ok_or.ensures.ok_part ∙ c.cell_below.ensures) _
