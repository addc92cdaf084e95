use Rattle.std.proofs.Common.{◌≡◌}
use Rattle.panel.specs.Screens.{wipe_on}
use Rattle.column_panel.specs.Columned.{column_shows}
use Rattle.column_panel.proofs.ColumnPanel.erase_from.Given as goal

abbrev pub invariant-loop-i : goal.invariant-loop-i
invariant-loop-i l = column_shows l.self ≡ wipe_on (column_shows l.initial.self) l.k l.i
