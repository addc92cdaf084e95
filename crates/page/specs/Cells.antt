-- Erasures and movements of cells, and graphic characters.
use Rattle.std.specs.Prelude.{ℕ, ◌+◌, ◌-◌, ◌*◌, min, cond, nat_lt}
use Rattle.panel.specs.declared.rectangle.Rectangle.{Rectangle}
use Rattle.panel.specs.declared.shifting.Direction.{Direction}
use Rattle.panel.specs.declared.shifting.Direction.TheVariants.{Up, Down, Left, Right}
use Rattle.panel.specs.Grids.{after_set, after_erase}
use Rattle.panel.specs.Shifts.{after_shift}
use Rattle.control.specs.declared.function.Extent.{Extent}
use Rattle.control.specs.declared.function.Extent.TheVariants.{ToEnd, FromStart, All}
use Rattle.control.specs.Renditions.{number}
use Rattle.page.specs.Sheets.{State, Sheet, on_state, showing}
use Rattle.page.specs.Moves.{up, down, right, to_first_column}

-- the active position in reading order, counted from 0, and the number of cells
abbrev pub here : State → ℕ
here s = (s.line - 1) * s.columns + (s.column - 1)

abbrev pub cells_in : State → ℕ
cells_in s = s.lines * s.columns

-- the columns from the active one to the edge
abbrev pub to_edge : State → ℕ
to_edge s = s.columns + 1 - s.column

-- a run of cells erased, from a line and column
abbrev pub erased_run : ℕ → ℕ → ℕ → Sheet → Sheet
erased_run l c n x = showing (after_erase x.grid l c n) x

-- ED
abbrev pub erase_in_page : Extent → Sheet → Sheet
erase_in_page ToEnd x = erased_run x.state.line x.state.column (cells_in x.state - here x.state) x
erase_in_page FromStart x = erased_run 1 1 (here x.state + 1) x
erase_in_page All x = erased_run 1 1 (cells_in x.state) x

-- EL
abbrev pub erase_in_line : Extent → Sheet → Sheet
erase_in_line ToEnd x = erased_run x.state.line x.state.column (to_edge x.state) x
erase_in_line FromStart x = erased_run x.state.line 1 x.state.column x
erase_in_line All x = erased_run x.state.line 1 x.state.columns x

-- ECH
abbrev pub erase_characters : ℕ → Sheet → Sheet
erase_characters n x = erased_run x.state.line x.state.column (min n (to_edge x.state)) x

-- the whole page, the active line from the active column on, and the active line and all below it
abbrev pub all_of : State → Rectangle
all_of s = record { top = 1; left = 1; lines = s.lines; columns = s.columns }

abbrev pub line_rest : State → Rectangle
line_rest s = record { top = s.line; left = s.column; lines = 1; columns = to_edge s }

abbrev pub page_rest : State → Rectangle
page_rest s = record { top = s.line; left = 1; lines = s.lines + 1 - s.line; columns = s.columns }

-- the cells of a part of the page moved within it
abbrev pub moved : (State → Rectangle) → Direction → ℕ → Sheet → Sheet
moved part way n x = showing (after_shift x.grid (part x.state) way n) x

-- ICH and DCH, IL and DL
abbrev pub insert_characters : ℕ → Sheet → Sheet
insert_characters n x = on_state to_first_column (moved line_rest Right n x)

abbrev pub delete_characters : ℕ → Sheet → Sheet
delete_characters n x = moved line_rest Left n x

abbrev pub insert_lines : ℕ → Sheet → Sheet
insert_lines n x = on_state to_first_column (moved page_rest Down n x)

abbrev pub delete_lines : ℕ → Sheet → Sheet
delete_lines n x = on_state to_first_column (moved page_rest Up n x)

-- SU, SD, SL and SR
abbrev pub scroll : Direction → ℕ → Sheet → Sheet
scroll way n x = moved all_of way n x

-- LF, RI and NEL: past the last or first line, the page scrolls
abbrev pub line_feed : Sheet → Sheet
line_feed x = cond (nat_lt x.state.line x.state.lines) (on_state (down 1) x) (scroll Up 1 x)

abbrev pub reverse_line_feed : Sheet → Sheet
reverse_line_feed x = cond (nat_lt 1 x.state.line) (on_state (up 1) x) (scroll Down 1 x)

abbrev pub next_line : Sheet → Sheet
next_line x = line_feed (on_state to_first_column x)

-- a graphic character at the active position, which grows by one column
abbrev pub set_character : ℕ → Sheet → Sheet
set_character b x =
    on_state (right 1) (showing (after_set x.grid x.state.line x.state.column (record { code = b; rendition = number x.state.rendition })) x)

-- with insertion, the rest of the line moves one right first
abbrev pub character : ℕ → Sheet → Sheet
character b x = set_character b (cond x.state.modes.insertion (moved line_rest Right 1 x) x)
