use Rattle.column_panel.proofs.Columned.{column_room}
use Rattle.column_panel.proofs.ColumnPanel.stored.Goals as goal

pub returns-clause-low : goal.returns-clause-low
returns-clause-low c =
    let p = c.args.self.now in
    column_room p.cells.ghost_name _ _ p.cells.now c.args.k c.requires p.room
