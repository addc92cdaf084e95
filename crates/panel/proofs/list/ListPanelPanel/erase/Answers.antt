use Rattle.std.proofs.Common.{refl, ap, ◌∙◌}
use Rattle.panel.specs.Listed.{laid_out, list_shows}
use Rattle.panel.proofs.Places.{located_run, goes_on}
use Rattle.panel.proofs.Listed.{list_room, list_wiped}
use Rattle.panel.proofs.list.ListPanelPanel.erase.Goals as goal

pub fill_run-requires : goal.fill_run-requires
fill_run-requires c =
    let p = c.args.self.now in
    list_room p.cells.ghost_name _ _ _ p.room _ _ _ _ (located_run (list_shows p).grid _ _ _ _ _ refl (goes_on _ _ _ c.in_ok-k.was c.ok_or.ensures.ok_part ∙ c.find_run.ensures))

pub returns-clause-after : goal.returns-clause-after
returns-clause-after c =
    let p = c.args.self.now in
    let a = located_run (list_shows p).grid _ _ _ _ _ refl (goes_on _ _ _ c.in_ok-k.was c.ok_or.ensures.ok_part ∙ c.find_run.ensures) in
    ap (laid_out p.cells.ghost_name p.size.lines p.size.columns) c.fill_run.ensures ∙ list_wiped p.cells.ghost_name _ _ _ p.room _ _ _ _ a
