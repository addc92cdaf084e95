use Rattle.std.proofs.Common.{arith}
use Rattle.panel.specs.Moduled.{module_shows, module_sound}
use Rattle.panel.proofs.Moduled.{wiped_next}
use Rattle.panel.proofs.module.ModulePanelLines.erase_in_line.Goals as goal

pub loop-i-preserved : goal.loop-i-preserved
loop-i-preserved c =
    let p = c.args.self.now in
    wiped_next (module_shows p) _ _ _ c.args.at c.args.count c.loop-i.i (module_sound p) c.columns-columns.ensures c.requires (omega arith) c.loop-i.invariant c.put.ensures
