use Rattle.std.proofs.Common.{◌+◌, ap, ◌∙◌, arith}
use Rattle.panel.specs.Grids.{erased, with_cells}
use Rattle.panel.specs.Screens.{with_grid, put_on}
use Rattle.panel.proofs.Wiped.{wiped_more}
use Rattle.column_panel.specs.Columned.{column_shows, column_sound}
use Rattle.column_panel.proofs.ColumnPanel.erase_from.Goals as goal

pub loop-i-preserved : goal.loop-i-preserved
loop-i-preserved c =
    let s = column_shows c.args.self.now in
    let count = (column_sound c.args.self.now).count in
    c.put.ensures ∙ ap (λ z. put_on z (c.args.k + c.loop-i.i) erased) c.loop-i.invariant
    ∙ ap (λ ys. with_grid s (with_cells s.grid ys)) (wiped_more s.grid.cells c.args.k c.loop-i.i (omega arith))
