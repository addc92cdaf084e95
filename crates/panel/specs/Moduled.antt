-- What a module panel shows of its memory: from the front three planes of bytes, the codes, the low and the high bytes of
-- the renditions; what is left lies beyond. In each plane the odd lines come first, then the even ones, each ascending.
use Rattle.std.specs.Prelude.{ℕ, ◌+◌, ◌*◌, ◌/◌, ◌%◌, Bool, cond, List, map, length, drop, ◌==◌, slice_index, slice_set}
use Rattle.std.proofs.Common.{arith}
use Rattle.std.specs.List.{range_with_len}
use Rattle.std.proofs.lemmas.List.FromFn.{length-map-range_with_len}
use Rattle.panel.specs.declared.cell.Cell.{Cell}
use Rattle.panel.specs.declared.module.ModulePanel.{ModulePanel}
use Rattle.panel.specs.Grids.{no_grid}
use Rattle.panel.specs.Screens.{Screen, Sound, bytes_past}
use Rattle.panel.specs.Memories.{fitting}

-- the row in a plane of a line, both counted from 0
abbrev pub row_of : ℕ → ℕ → ℕ
row_of lines line = cond (line % 2 == 0) (line / 2) ((lines + 1) / 2 + line / 2)

-- the place in a plane of the cell at an index in reading order
abbrev pub stored_at : ℕ → ℕ → ℕ → ℕ
stored_at lines columns k = row_of lines (k / columns) * columns + k % columns

-- the cell of which the bytes stand at a place of each of the planes, which have n bytes
abbrev pub gathered : ℕ → List ℕ → ℕ → Cell
gathered n bytes at = record { code = slice_index bytes at; rendition = slice_index bytes (n + at) + 256 * slice_index bytes (2 * n + at) }

-- the bytes after a cell is put there
abbrev pub scattered : ℕ → List ℕ → ℕ → Cell → List ℕ
scattered n bytes at x = slice_set (slice_set (slice_set bytes at x.code) (n + at) (x.rendition % 256)) (2 * n + at) (x.rendition / 256)

-- the cells of so many lines and columns
abbrev pub module_cells : ℕ → ℕ → List ℕ → List Cell
module_cells lines columns bytes = map (λ k. gathered (lines * columns) bytes (stored_at lines columns k)) (range_with_len 0 (lines * columns))

-- the cells of so many lines and columns, and what lies past their planes
abbrev pub laid_in_planes : ℕ → ℕ → ℕ → List ℕ → Screen
laid_in_planes loan lines columns bytes = record {
  grid = record { lines = lines; columns = columns; cells = module_cells lines columns bytes };
  beyond = bytes_past loan (drop (3 * (lines * columns)) bytes);
}

-- the same if there is room; else a panel without lines, and all memory lies beyond
abbrev pub moduled_if : Bool → ℕ → ℕ → ℕ → List ℕ → Screen
moduled_if room loan lines columns bytes = cond room (laid_in_planes loan lines columns bytes) (record { grid = no_grid; beyond = bytes_past loan bytes })

-- a panel made on memory that is lent
abbrev pub moduled : ℕ → ℕ → ℕ → List ℕ → Screen
moduled loan lines columns bytes = moduled_if (fitting lines columns (length bytes / 3)) loan lines columns bytes

-- a module panel
abbrev pub module_shows : ModulePanel → Screen
module_shows p = laid_in_planes p.bytes.ghost_name p.size.lines p.size.columns p.bytes.now

-- what it shows is sound
pub module_sound : (p : ModulePanel) → Sound (module_shows p)
module_sound p =
    let l = p.few_lines in
    let c = p.few_columns in
    record { count = length-map-range_with_len _ 0 _; tall = omega arith; wide = omega arith }
