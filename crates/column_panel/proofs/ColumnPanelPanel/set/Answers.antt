use Rattle.std.proofs.Common.{refl, ◌∙◌}
use Rattle.panel.proofs.Places.{located_at, goes_on}
use Rattle.column_panel.specs.Columned.{column_shows}
use Rattle.column_panel.proofs.ColumnPanelPanel.set.Goals as goal

pub put-requires : goal.put-requires
put-requires c = (located_at (column_shows c.args.self.now).grid _ _ _ _ refl (goes_on _ _ _ c.in_ok-k.was c.ok_or.ensures.ok_part ∙ c.find.ensures)).low
