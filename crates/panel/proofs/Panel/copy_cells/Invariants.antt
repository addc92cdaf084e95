use Rattle.std.proofs.Common.{◌≡◌}
use Rattle.panel.specs.Grids.{index, replaced}
use Rattle.panel.specs.Screens.{with_grid}
use Rattle.panel.specs.Copies.{copied, copy_of}
use Rattle.panel.proofs.Copied.{tail_run}
use Rattle.panel.proofs.Panel.copy_cells.Given as goal

-- the first cells are copied
abbrev pub invariant-loop-i : goal.invariant-loop-i
invariant-loop-i g l =
    let s = g.Self.Panel.shows l.initial.self in
    g.Self.Panel.shows l.self ≡ with_grid s (copied (index s.grid l.from.line l.from.column) (index s.grid l.to.line l.to.column) l.i s.grid)

-- the last cells are copied
abbrev pub invariant-loop-i-else-to-from : goal.invariant-loop-i-else-to-from
invariant-loop-i-else-to-from g l =
    let s = g.Self.Panel.shows l.initial.self in
    let from = index s.grid l.from.line l.from.column in
    let to = index s.grid l.to.line l.to.column in
    g.Self.Panel.shows l.self ≡ with_grid s (replaced (tail_run to l.count l.i) (copy_of from to s.grid) s.grid)
