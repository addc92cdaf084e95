-- What a list panel shows of its memory: from the front, the cells line by line; what is left lies beyond.
use Rattle.std.specs.Prelude.{ℕ, ◌*◌, Bool, cond, List, length, take, drop}
use Rattle.std.proofs.Common.{arith}
use Rattle.std.proofs.lemmas.List.{length-take-le}
use Rattle.panel.specs.declared.cell.Cell.{Cell}
use Rattle.panel.specs.declared.list.ListPanel.{ListPanel}
use Rattle.panel.specs.Grids.{no_grid}
use Rattle.panel.specs.Screens.{Screen, Sound, cells_past}
use Rattle.panel.specs.Memories.{fitting}

-- the cells of so many lines and columns
abbrev pub laid_out : ℕ → ℕ → ℕ → List Cell → Screen
laid_out loan lines columns xs = record {
  grid = record { lines = lines; columns = columns; cells = take (lines * columns) xs };
  beyond = cells_past loan (drop (lines * columns) xs);
}

-- the same if there is room; else a panel without lines, and all memory lies beyond
abbrev pub listed_if : Bool → ℕ → ℕ → ℕ → List Cell → Screen
listed_if room loan lines columns xs = cond room (laid_out loan lines columns xs) (record { grid = no_grid; beyond = cells_past loan xs })

-- a panel made on memory that is lent
abbrev pub listed : ℕ → ℕ → ℕ → List Cell → Screen
listed loan lines columns xs = listed_if (fitting lines columns (length xs)) loan lines columns xs

-- a list panel
abbrev pub list_shows : ListPanel → Screen
list_shows p = laid_out p.cells.ghost_name p.size.lines p.size.columns p.cells.now

-- what it shows is sound
pub list_sound : (p : ListPanel) → Sound (list_shows p)
list_sound p =
    let l = p.few_lines in
    let c = p.few_columns in
    record { count = length-take-le (p.size.lines * p.size.columns) p.cells.now p.room; tall = omega arith; wide = omega arith }
