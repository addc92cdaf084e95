-- One cell of a picture, and its place.
use Rattle.std.specs.Prelude.{ℕ, ◌+◌, ◌/◌, ◌%◌, Bool, true, false, cond, not, ◌||◌, List, [], ◌∷◌, ◌++◌, ◌==◌}
use Rattle.reader.specs.Functions.{Function, graphic}
use Rattle.control.specs.Renditions.{rendition_of}
use Rattle.panel.specs.declared.cell.Cell.{Cell}
use Rattle.panel.specs.Grids.{Grid}
use Rattle.panel.specs.Reading.{position_at}
use Rattle.picture.specs.declared.cells.Pen.{Pen}
use Rattle.panel.specs.declared.cell.Position.{Position}
use Rattle.picture.specs.declared.stops.Along.{Along}
use Rattle.picture.specs.declared.stops.Along.TheVariants.{Columns, Lines}
use Rattle.picture.specs.Pictures.{when, cup, sgr, is_erased, column_stop, line_stop}

-- the line and column of an index in reading order
abbrev pub position_of : Grid → ℕ → Position
position_of g k = position_at g.columns k

abbrev pub starts : Pen → ℕ → Bool
starts p c = p.gap || c == 1

-- the functions for a cell that is not erased, and for any
abbrev pub shown_functions : Pen → Cell → ℕ → ℕ → List Function
shown_functions p x l c = when (starts p c) (cup l c) ++ (when (not (x.rendition == p.rendition)) (sgr (rendition_of x.rendition)) ++ (graphic x.code ∷ []))

abbrev pub cell_functions : Pen → Cell → ℕ → ℕ → List Function
cell_functions p x l c = cond (is_erased x) [] (shown_functions p x l c)

abbrev pub pen_after : Pen → Cell → Pen
pen_after p x = cond (is_erased x) (record { gap = true; rendition = p.rendition }) (record { gap = false; rendition = x.rendition })

-- the functions that set a stop along a line or down the lines
abbrev pub stop_at : Along → ℕ → List Function
stop_at Columns k = column_stop k
stop_at Lines k = line_stop k
