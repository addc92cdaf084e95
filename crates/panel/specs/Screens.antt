-- What a panel shows: a grid of cells, and what lies beyond them.
use Rattle.std.specs.Prelude.{ℕ, List, slice_set}
use Rattle.panel.specs.declared.cell.Cell.{Cell}
use Rattle.panel.specs.Grids.{Grid, Whole, with_cells, wiped, after_set, after_erase}

-- what no call changes. Of memory that was lent: the loan, by its ghost name, and what lies past the cells.
-- Of a window: where it begins, the grid below with the window's own cells erased, and what lies beyond below.
pub data Beyond : Type 0 where
  nothing : Beyond
  cells_past : ℕ → List Cell → Beyond
  bytes_past : ℕ → List ℕ → Beyond
  around : ℕ → ℕ → Grid → Beyond → Beyond
  lent : ℕ → Beyond → Beyond

-- a grid, and what lies beyond it
pub record Screen : Type 0 where
  pub grid : Grid
  pub beyond : Beyond

-- what every panel has to show
abbrev pub Sound : Screen → Type 0
Sound s = Whole s.grid

-- the screen with another grid: what lies beyond stays
abbrev pub with_grid : Screen → Grid → Screen
with_grid s g = record { grid = g; beyond = s.beyond }

-- a cell set
abbrev pub set_on : Screen → ℕ → ℕ → Cell → Screen
set_on s line column x = with_grid s (after_set s.grid line column x)

-- a run of cells erased
abbrev pub erase_on : Screen → ℕ → ℕ → ℕ → Screen
erase_on s line column count = with_grid s (after_erase s.grid line column count)

-- a cell set at an index
abbrev pub put_on : Screen → ℕ → Cell → Screen
put_on s k x = with_grid s (with_cells s.grid (slice_set s.grid.cells k x))

-- a run erased from an index on
abbrev pub wipe_on : Screen → ℕ → ℕ → Screen
wipe_on s k count = with_grid s (with_cells s.grid (wiped s.grid.cells k count))
