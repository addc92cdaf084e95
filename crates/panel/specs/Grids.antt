-- A grid of cells: so many lines and columns, counted from 1, and a cell for each.
use Rattle.std.specs.Prelude.{◌≡◌, ℕ, ◌+◌, ◌-◌, ◌*◌, ◌%◌, ◌^◌, ◌<◌, ◌≤◌, Bool, cond, ◌&&◌, List, [], ◌++◌, map, length, take, drop, replicate, nat_le, slice_index_or, slice_set}
use Rattle.std.specs.List.{range_with_len}
use Rattle.refusal.specs.declared.Layer.TheVariants.{Panel}
use Rattle.refusal.specs.declared.Place.TheVariants.{At}
use Rattle.refusal.specs.Table.{Answer, accepted, refused}
use Rattle.panel.specs.declared.cell.Cell.{Cell}
use Rattle.panel.specs.declared.size.Size.{Size}

-- the erased cell
abbrev pub erased : Cell
erased = record { code = 0; rendition = 0 }

-- the cells stand in reading order: line by line, each from its first column
pub record Grid : Type 0 where
  pub lines : ℕ
  pub columns : ℕ
  pub cells : List Cell

-- a grid has a cell for each line and column, and both numbers have 16 bits
pub record Whole (g : Grid) : Type 0 where
  pub count : length g.cells ≡ g.lines * g.columns
  pub tall : g.lines < 2 ^ 16
  pub wide : g.columns < 2 ^ 16

-- the grid without lines and columns
abbrev pub no_grid : Grid
no_grid = record { lines = 0; columns = 0; cells = [] }

-- its size
abbrev pub size_of : Grid → Size
size_of g = record { lines = g.lines; columns = g.columns }

-- whether a line and column are within so many lines and columns
abbrev pub within : ℕ → ℕ → ℕ → ℕ → Bool
within lines columns line column = (nat_le 1 line && nat_le line lines) && (nat_le 1 column && nat_le column columns)

-- the index of a line and column: how many cells come before it in reading order
abbrev pub index_in : ℕ → ℕ → ℕ → ℕ
index_in columns line column = (line - 1) * columns + (column - 1)

-- whether all of a run of cells, and the place where it begins, are within
abbrev pub run_within : ℕ → ℕ → ℕ → ℕ → ℕ → Bool
run_within lines columns line column count = within lines columns line column && nat_le (index_in columns line column + count) (lines * columns)

-- whether a line and column are on a grid
abbrev pub on : Grid → ℕ → ℕ → Bool
on g line column = within g.lines g.columns line column

-- the index of a line and column of a grid
abbrev pub index : Grid → ℕ → ℕ → ℕ
index g line column = index_in g.columns line column

-- whether a run of cells is on a grid
abbrev pub run_on : Grid → ℕ → ℕ → ℕ → Bool
run_on g line column count = run_within g.lines g.columns line column count

-- a run of cells in one line, from the index at
pub record InLine (g : Grid) (at count : ℕ) : Type 0 where
  pub some : 0 < count
  pub line : at % g.columns + count ≤ g.columns
  pub low : at + count ≤ g.lines * g.columns

-- the cell at a line and column
abbrev pub cell_at : Grid → ℕ → ℕ → Cell
cell_at g line column = slice_index_or g.cells (index g line column) erased

-- the grid with other cells
abbrev pub with_cells : Grid → List Cell → Grid
with_cells g xs = record { lines = g.lines; columns = g.columns; cells = xs }

-- the grid with the cells at some indices replaced by new ones
abbrev pub replaced : (ℕ → Bool) → (ℕ → Cell) → Grid → Grid
replaced here new g = with_cells g (map (λ k. cond (here k) (new k) (slice_index_or g.cells k erased)) (range_with_len 0 (g.lines * g.columns)))

-- cells with a run of them erased
abbrev pub wiped : List Cell → ℕ → ℕ → List Cell
wiped xs at count = take at xs ++ (replicate count erased ++ drop (at + count) xs)

-- the answer to a call that names a cell off the panel: number 10, found by the panel, at the line and column asked
abbrev pub outside : {A : Type 0} → ℕ → ℕ → Answer A
outside line column = refused 10 Panel (At line column)

-- what is answered to a call of a cell
abbrev pub cell_answer : Grid → ℕ → ℕ → Answer Cell
cell_answer g line column = cond (on g line column) (accepted (cell_at g line column)) (outside line column)

-- what is answered to a call that changes something, if it may
abbrev pub done_if : Bool → ℕ → ℕ → Answer (Unit {0})
done_if may line column = cond may (accepted tt) (outside line column)

-- the grid after a cell is set; as it was, if that is refused
abbrev pub after_set : Grid → ℕ → ℕ → Cell → Grid
after_set g line column x = cond (on g line column) (with_cells g (slice_set g.cells (index g line column) x)) g

-- the grid after a run of cells is erased; as it was, if that is refused
abbrev pub after_erase : Grid → ℕ → ℕ → ℕ → Grid
after_erase g line column count = cond (run_on g line column count) (with_cells g (wiped g.cells (index g line column) count)) g
