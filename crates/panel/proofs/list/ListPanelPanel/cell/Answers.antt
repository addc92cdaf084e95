use Rattle.std.proofs.Common.{sym, refl, ◌∙◌}
use Rattle.panel.specs.Listed.{list_shows}
use Rattle.panel.proofs.Places.{indexed_at}
use Rattle.panel.proofs.Listed.{list_index, list_cell}
use Rattle.panel.proofs.list.ListPanelPanel.cell.Goals as goal

pub bounds-self-index : goal.bounds-self-index
bounds-self-index c =
    let p = c.args.self.now in
    list_index p.cells.ghost_name _ _ _ p.room _ _ _ (indexed_at (list_shows p).grid _ _ _ _ refl (sym c.if-has.true ∙ c.has.ensures) c.index.ensures)

pub returns-then-has : goal.returns-then-has
returns-then-has c =
    let p = c.args.self.now in
    list_cell p.cells.ghost_name _ _ _ p.room _ _ _ (indexed_at (list_shows p).grid _ _ _ _ refl (sym c.if-has.true ∙ c.has.ensures) c.index.ensures)
