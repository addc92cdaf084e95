-- Every cell of a panel erased, and what the memory behind it then holds.
use Rattle.std.specs.Prelude.{ℕ, ◌*◌, ◌/◌, cond, List, ◌++◌, length, drop, replicate}
use Rattle.panel.specs.declared.cell.Cell.{Cell}
use Rattle.panel.specs.Grids.{Grid, erased, with_cells}
use Rattle.panel.specs.Screens.{Screen, with_grid}
use Rattle.panel.specs.Memories.{fitting}

-- the grid with all its cells erased
abbrev pub cleared : Grid → Grid
cleared g = with_cells g (replicate (g.lines * g.columns) erased)

-- a screen with all its cells erased
abbrev pub clear_on : Screen → Screen
clear_on s = with_grid s (cleared s.grid)

-- a list of cells: its front is erased and the rest stays, if it has room for so many lines and columns; else all stays
abbrev pub cells_cleared : ℕ → ℕ → List Cell → List Cell
cells_cleared lines columns xs = cond (fitting lines columns (length xs)) (replicate (lines * columns) erased ++ drop (lines * columns) xs) xs

-- the same of bytes in three planes
abbrev pub bytes_cleared : ℕ → ℕ → List ℕ → List ℕ
bytes_cleared lines columns bytes = cond (fitting lines columns (length bytes / 3)) (replicate (3 * (lines * columns)) 0 ++ drop (3 * (lines * columns)) bytes) bytes
