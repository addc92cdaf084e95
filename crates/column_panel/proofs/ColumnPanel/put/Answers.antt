use Rattle.std.proofs.Common.{set, ap, ◌∙◌}
use Rattle.column_panel.specs.Columned.{laid_in_columns}
use Rattle.column_panel.proofs.Columned.{column_put}
use Rattle.column_panel.proofs.ColumnPanel.put.Goals as goal

pub returns : goal.returns
returns c =
    let p = c.args.self.now in
    ap (λ at. laid_in_columns p.cells.ghost_name p.size.lines p.size.columns (set p.cells.now at c.args.cell)) c.stored-at.ensures.is
    ∙ column_put p.cells.ghost_name _ _ p.cells.now c.args.k c.requires p.room c.args.cell
