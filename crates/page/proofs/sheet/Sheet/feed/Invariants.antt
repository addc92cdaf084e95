use Rattle.std.specs.Prelude.{◌≡◌}
use Rattle.page.specs.Sheets.{placed}
use Rattle.page.proofs.Deliveries.{Going}
use Rattle.page.proofs.sheet.Sheet.feed.Given as goal

abbrev pub invariant-loop-i : goal.invariant-loop-i
invariant-loop-i g l =
    let shows = g.P.Panel.shows in
    Going (placed l.initial.self.state.now (shows l.initial.self.panel)) (placed l.self.state.now (shows l.self.panel)) l.bytes l.i
    × (l.self.state.ghost_name ≡ l.initial.self.state.ghost_name)
