-- What a column panel shows of its memory: from the front, the cells column by column; what is left lies beyond.
use Rattle.std.specs.Prelude.{ℕ, ◌+◌, ◌*◌, ◌/◌, ◌%◌, Bool, cond, List, length, drop}
use Rattle.std.proofs.lemmas.List.FromFn.{length-map-range_with_len}
use Rattle.panel.specs.declared.cell.Cell.{Cell}
use Rattle.panel.specs.Grids.{no_grid}
use Rattle.panel.specs.Memories.{roomy}
use Rattle.panel.specs.Screens.{Screen, Sound, cells_past}
use Rattle.panel.specs.Windows.{seen}
use Rattle.column_panel.specs.declared.ColumnPanel.{ColumnPanel}

-- where the cell at an index in reading order is stored
abbrev pub stored_at : ℕ → ℕ → ℕ → ℕ
stored_at lines columns k = k % columns * lines + k / columns

-- the cells of so many lines and columns
abbrev pub laid_in_columns : ℕ → ℕ → ℕ → List Cell → Screen
laid_in_columns loan lines columns xs = record {
  grid = record { lines = lines; columns = columns; cells = seen (stored_at lines columns) (lines * columns) xs };
  beyond = cells_past loan (drop (lines * columns) xs);
}

-- the same if there is room; else a panel without lines, and all memory lies beyond
abbrev pub columned_if : Bool → ℕ → ℕ → ℕ → List Cell → Screen
columned_if room loan lines columns xs = cond room (laid_in_columns loan lines columns xs) (record { grid = no_grid; beyond = cells_past loan xs })

-- a panel made on memory that is lent
abbrev pub columned : ℕ → ℕ → ℕ → List Cell → Screen
columned loan lines columns xs = columned_if (roomy (record { lines = lines; columns = columns }) (length xs)) loan lines columns xs

-- a column panel
abbrev pub column_shows : ColumnPanel → Screen
column_shows p = laid_in_columns p.cells.ghost_name p.size.lines p.size.columns p.cells.now

-- what it shows is sound
pub column_sound : (p : ColumnPanel) → Sound (column_shows p)
column_sound p = record { count = length-map-range_with_len _ 0 _; tall = p.tall; wide = p.wide }
