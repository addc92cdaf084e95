-- Cells of a line copied to a place in this or another line.
use Rattle.std.specs.Prelude.{ℕ, ◌+◌, ◌-◌, Bool, cond, ◌&&◌, nat_le, nat_lt, slice_index_or}
use Rattle.refusal.specs.Table.{Answer}
use Rattle.panel.specs.declared.cell.Cell.{Cell}
use Rattle.panel.specs.declared.cell.Position.{Position}
use Rattle.panel.specs.Grids.{Grid, erased, within, index, replaced, outside, done_if}
use Rattle.panel.specs.Screens.{Screen, with_grid}

-- whether some cells of a line, and the place where they begin, are within so many lines and columns
abbrev pub part_within : ℕ → ℕ → Position → ℕ → Bool
part_within lines columns at count = within lines columns at.line at.column && nat_le (at.column + count) (columns + 1)

-- whether they are on a grid
abbrev pub part_on : Grid → Position → ℕ → Bool
part_on g at count = part_within g.lines g.columns at count

-- whether an index is in a run
abbrev pub in_run : ℕ → ℕ → ℕ → Bool
in_run at count k = nat_le at k && nat_lt k (at + count)

-- the cell that is copied to an index, where a run from one index is copied to another
abbrev pub copy_of : ℕ → ℕ → Grid → ℕ → Cell
copy_of from to g k = slice_index_or g.cells (from + (k - to)) erased

-- the grid with a run of cells copied
abbrev pub copied : ℕ → ℕ → ℕ → Grid → Grid
copied from to count g = replaced (in_run to count) (copy_of from to g) g

-- the grid after some cells of a line are copied; as it was, if they or their new places are not all on it
abbrev pub after_copy : Grid → Position → Position → ℕ → Grid
after_copy g from to count =
    cond (part_on g from count && part_on g to count) (copied (index g from.line from.column) (index g to.line to.column) count g) g

-- refused at the first place that is not on the grid: of the cells, then of their new places
abbrev pub copy_answer : Grid → Position → Position → ℕ → Answer (Unit {0})
copy_answer g from to count = cond (part_on g from count) (done_if (part_on g to count) to.line to.column) (outside from.line from.column)

-- a copy on a screen
abbrev pub copy_on : Screen → Position → Position → ℕ → Screen
copy_on s from to count = with_grid s (after_copy s.grid from to count)
