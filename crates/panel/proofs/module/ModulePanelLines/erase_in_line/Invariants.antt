use Rattle.std.proofs.Common.{◌≡◌}
use Rattle.panel.specs.Screens.{wipe_on}
use Rattle.panel.specs.Moduled.{module_shows}
use Rattle.panel.proofs.module.ModulePanelLines.erase_in_line.Given as goal

abbrev pub invariant-loop-i : goal.invariant-loop-i
invariant-loop-i l = module_shows l.self ≡ wipe_on (module_shows l.initial.self) l.at l.i
