use Rattle.std.proofs.Common.{get_or, sym, refl, ap, ◌∙◌}
use Rattle.std.proofs.lemmas.Bool.{cond-true}
use Rattle.refusal.specs.Table.{accepted}
use Rattle.panel.specs.Grids.{erased}
use Rattle.panel.proofs.Places.{located_at, goes_on}
use Rattle.column_panel.specs.Columned.{column_shows}
use Rattle.column_panel.proofs.Columned.{column_cell}
use Rattle.column_panel.proofs.ColumnPanelPanel.cell.Goals as goal

pub stored-requires : goal.stored-requires
stored-requires c = (located_at (column_shows c.args.self.now).grid _ _ _ _ refl (goes_on _ _ _ c.in_ok-k.was c.ok_or.ensures.ok_part ∙ c.find.ensures)).low

pub returns : goal.returns
returns c =
    let p = c.args.self.now in
    let g = (column_shows p).grid in
    let a = located_at g _ _ _ _ refl (goes_on _ _ _ c.in_ok-k.was c.ok_or.ensures.ok_part ∙ c.find.ensures) in
    ap accepted (ap (λ at. get_or p.cells.now at erased) c.stored.ensures.is ∙ column_cell p.cells.ghost_name _ _ p.cells.now _ a.low ∙ ap (λ k. get_or g.cells k erased) (sym a.is))
    ∙ sym (cond-true _ _ _ a.test)
