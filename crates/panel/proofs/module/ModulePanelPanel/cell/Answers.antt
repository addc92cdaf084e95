use Rattle.std.proofs.Common.{refl, ap, ◌∙◌}
use Rattle.refusal.specs.Table.{accepted}
use Rattle.panel.specs.Moduled.{gathered, module_shows}
use Rattle.panel.proofs.Moduled.{module_cell, module_room, counted_low}
use Rattle.panel.proofs.module.ModulePanelPanel.cell.Goals as goal

pub gather-requires : goal.gather-requires
gather-requires c =
    let p = c.args.self.now in
    let low = counted_low (module_shows p).grid _ _ _ refl c.if-has.ensures in
    rw c.cells.ensures (module_room p.bytes.ghost_name _ _ _ p.room _ _ _ (record { line_low = low.line_low; column_low = low.column_low; is = c.stored-k.ensures }))

pub returns-then-has : goal.returns-then-has
returns-then-has c =
    let p = c.args.self.now in
    let low = counted_low (module_shows p).grid _ _ _ refl c.if-has.ensures in
    ap accepted (c.gather.ensures ∙ ap (λ n. gathered n p.bytes.now c.stored-k.result) c.cells.ensures)
    ∙ module_cell p.bytes.ghost_name _ _ _ p.room _ _ _ low.test (record { line_low = low.line_low; column_low = low.column_low; is = c.stored-k.ensures })
