-- The positions of a size in reading order: the k-th one is that of the k-th cell of a grid.
use Rattle.std.specs.Prelude.{ℕ, ◌+◌, ◌*◌, ◌/◌, ◌%◌, cond, List, [], map, drop}
use Rattle.std.specs.List.{range_with_len}
use Rattle.panel.specs.declared.cell.Position.{Position}
use Rattle.panel.specs.declared.positions.Positions.{Positions}
use Rattle.panel.specs.declared.size.Size.{Size}
use Rattle.panel.specs.Grids.{within, index_in}

-- the position of a cell by its index, among so many columns
abbrev pub position_at : ℕ → ℕ → Position
position_at columns k = record { line = k / columns + 1; column = k % columns + 1 }

-- all positions of a size
abbrev pub positions_of : Size → List Position
positions_of z = map (position_at z.columns) (range_with_len 0 (z.lines * z.columns))

-- those from a line and column on, if that is within the size
abbrev pub positions_from : Size → Position → List Position
positions_from z at = cond (within z.lines z.columns at.line at.column) (drop (index_in z.columns at.line at.column) (positions_of z)) []

-- those that are still to come
abbrev pub positions_left : Positions → List Position
positions_left p = positions_from p.size p.next
