-- Cells of a rectangle moved up, down, left or right within it.
use Rattle.std.specs.Prelude.{ℕ, ◌+◌, ◌-◌, ◌/◌, ◌%◌, ◌<◌, ◌≤◌, Bool, true, false, cond, ◌&&◌, ◌==◌}
use Rattle.panel.specs.declared.cell.Cell.{Cell}
use Rattle.panel.specs.declared.rectangle.Rectangle.{Rectangle}
use Rattle.panel.specs.declared.shifting.Direction.{Direction}
use Rattle.panel.specs.declared.shifting.Direction.TheVariants.{Up, Down, Left, Right}
use Rattle.panel.specs.Grids.{Grid, erased, cell_at, replaced}
use Rattle.panel.specs.Screens.{Screen, with_grid}
use Rattle.panel.specs.Rectangles.{Fit, inside, in_rectangle, covers}

-- the line and column from which a cell comes
abbrev pub source : Direction → ℕ → ℕ → ℕ → ℕ × ℕ
source Up count line column = (line + count, column)
source Down count line column = (line - count, column)
source Left count line column = (line, column + count)
source Right count line column = (line, column - count)

-- the cell that comes from a place: the one there, if the place is in the rectangle, else the erased cell
abbrev pub from_source : Rectangle → Grid → ℕ × ℕ → Cell
from_source r g p = cond (in_rectangle r p.0 p.1) (cell_at g p.0 p.1) erased

-- the cell that comes to a line and column
abbrev pub incoming : Rectangle → Direction → ℕ → Grid → ℕ → ℕ → Cell
incoming r direction count g line column = from_source r g (source direction count line column)

-- the same at an index
abbrev pub incoming_at : Rectangle → Direction → ℕ → Grid → ℕ → Cell
incoming_at r direction count g k = incoming r direction count g (k / g.columns + 1) (k % g.columns + 1)

-- a rectangle shifted: each of its cells is replaced by the one that comes, and all others stay
abbrev pub shifted : Rectangle → Direction → ℕ → Grid → Grid
shifted r direction count g = replaced (covers g.columns r) (incoming_at r direction count g) g

-- the grid after a shift; as it was, if the rectangle is not inside
abbrev pub after_shift : Grid → Rectangle → Direction → ℕ → Grid
after_shift g r direction count = cond (inside g.lines g.columns r) (shifted r direction count g) g

-- a shift on a screen
abbrev pub shift_on : Screen → Rectangle → Direction → ℕ → Screen
shift_on s r direction count = with_grid s (after_shift s.grid r direction count)

-- one line of the rectangle shifted
abbrev pub line_shifted : Rectangle → Direction → ℕ → ℕ → Grid → Grid
line_shifted r direction count line g = replaced (λ k. (k / g.columns + 1 == line) && covers g.columns r k) (incoming_at r direction count g) g

-- a line of a rectangle that is to be shifted
pub record Line (g : Grid) (r : Rectangle) (count line : ℕ) : Type 0 where
  pub fit : Fit g.lines g.columns r
  pub some : 1 ≤ count
  pub wide : 1 ≤ r.columns
  pub from : r.top ≤ line
  pub to : line < r.top + r.lines

-- whether the first lines are to be shifted first
abbrev pub is_forward : Direction → Bool
is_forward Up = true
is_forward Down = false
is_forward Left = true
is_forward Right = false

-- the line of a rectangle that is shifted after i others
abbrev pub turn : Rectangle → Direction → ℕ → ℕ
turn r direction i = cond (is_forward direction) (r.top + i) (r.top + (r.lines - 1 - i))

-- a rectangle that is to be shifted
pub record Block (g : Grid) (r : Rectangle) (count : ℕ) : Type 0 where
  pub fit : Fit g.lines g.columns r
  pub some : 1 ≤ count
  pub wide : 1 ≤ r.columns

-- a part of a line: some cells from a column on
pub record Part (g : Grid) (line column count : ℕ) : Type 0 where
  pub line_low : 1 ≤ line
  pub line_high : line ≤ g.lines
  pub column_low : 1 ≤ column
  pub column_end : column + count ≤ g.columns + 1
