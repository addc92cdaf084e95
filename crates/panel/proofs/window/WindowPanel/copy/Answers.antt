use Rattle.std.proofs.Common.{ap, ◌∙◌}
use Rattle.panel.specs.Windows.{windowed}
use Rattle.panel.proofs.Places.{goes_on}
use Rattle.panel.proofs.Carried.{both_says, both_after}
use Rattle.panel.proofs.window.WindowPanel.copy.Goals as goal

pub returns : goal.returns
returns g c =
    let w = c.args.self.now in
    let s = g.P.Panel.shows w.below in
    let h = g.P.Panel.sound w.below in
    let from = goes_on _ _ _ c.in_ok-source.was c.ok_or.ensures.ok_part ∙ c.part_below.ensures in
    let to = goes_on _ _ _ c.in_ok-target.was c.ok_or-2.ensures.ok_part ∙ c.part_below-2.ensures in
    record {
      says = c.copy.ensures.says ∙ both_says s h w.frame c.args.from c.args.to c.args.count c.in_ok-source.source c.in_ok-target.target from to;
      after = ap (λ z. windowed z w.frame) c.copy.ensures.after ∙ both_after s h w.frame c.args.from c.args.to c.args.count c.in_ok-source.source c.in_ok-target.target from to;
    }
