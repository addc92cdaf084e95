-- Rectangles of a grid.
use Rattle.std.specs.Prelude.{ℕ, ◌+◌, ◌/◌, ◌%◌, ◌≤◌, Bool, cond, ◌&&◌, nat_le, nat_lt}
use Rattle.panel.specs.declared.rectangle.Rectangle.{Rectangle}

-- whether some lines (or columns) from a first one on are at least one, and end inside
abbrev pub part_of : ℕ → ℕ → ℕ → Bool
part_of all first count = nat_le 1 first && (nat_le 1 count && nat_le (first + count) (all + 1))

-- whether the four numbers are at least 1 and end inside
abbrev pub inside : ℕ → ℕ → Rectangle → Bool
inside lines columns r = part_of lines r.top r.lines && part_of columns r.left r.columns

-- the rectangle that is all of a grid
abbrev pub all_of : ℕ → ℕ → Rectangle
all_of lines columns = record { top = 1; left = 1; lines = lines; columns = columns }

-- the rectangle that a window shows: that given if it is inside, else all
abbrev pub framed : ℕ → ℕ → Rectangle → Rectangle
framed lines columns r = cond (inside lines columns r) r (all_of lines columns)

-- whether a line and column are in it
abbrev pub in_rectangle : Rectangle → ℕ → ℕ → Bool
in_rectangle r line column = (nat_le r.top line && nat_lt line (r.top + r.lines)) && (nat_le r.left column && nat_lt column (r.left + r.columns))

-- whether the cell at an index of a grid with so many columns is in it
abbrev pub covers : ℕ → Rectangle → ℕ → Bool
covers columns r k = in_rectangle r (k / columns + 1) (k % columns + 1)

-- a rectangle that does not pass the ends of a grid
pub record Fit (lines columns : ℕ) (r : Rectangle) : Type 0 where
  pub top_low : 1 ≤ r.top
  pub left_low : 1 ≤ r.left
  pub line_end : r.top + r.lines ≤ lines + 1
  pub column_end : r.left + r.columns ≤ columns + 1
