use Rattle.std.proofs.Common.{ap, ◌∙◌}
use Rattle.panel.specs.Moduled.{scattered, laid_in_planes}
use Rattle.panel.proofs.Moduled.{module_put, module_room}
use Rattle.panel.proofs.module.ModulePanel.put.Goals as goal

pub scatter-requires : goal.scatter-requires
scatter-requires c =
    let p = c.args.self.now in
    rw c.cells.ensures (module_room p.bytes.ghost_name _ _ _ p.room _ _ _ (record { line_low = c.requires.0; column_low = c.requires.1; is = c.stored-at.ensures }))

pub returns : goal.returns
returns c =
    let p = c.args.self.now in
    ap (laid_in_planes p.bytes.ghost_name p.size.lines p.size.columns) (c.scatter.ensures ∙ ap (λ n. scattered n p.bytes.now c.stored-at.result c.args.cell) c.cells.ensures)
    ∙ module_put p.bytes.ghost_name _ _ _ p.room _ _ _ (record { line_low = c.requires.0; column_low = c.requires.1; is = c.stored-at.ensures }) c.args.cell
