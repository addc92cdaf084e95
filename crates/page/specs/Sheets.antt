-- What a page holds, as values: its state, and the grid of cells that its panel shows.
use Rattle.std.specs.Prelude.{ℕ, Bool, List, take, Option}
use Rattle.panel.specs.Grids.{Grid}
use Rattle.panel.specs.Screens.{Screen, with_grid}
use Rattle.reader.specs.Steps.{Standing}
use Rattle.reader.specs.Meaning.{standing_of}
use Rattle.control.specs.declared.function.Report.{Report}
use Rattle.control.specs.declared.modes.Modes.{Modes}
use Rattle.control.specs.declared.rendition.Rendition.{Rendition}
use Rattle.page.specs.declared.state.State as code

-- lines and columns count from 1; a stop is a flag for its column or line
pub record State : Type 0 where
  pub lines : ℕ
  pub columns : ℕ
  pub line : ℕ
  pub column : ℕ
  pub rendition : Rendition
  pub column_stops : List Bool
  pub line_stops : List Bool
  pub modes : Modes
  pub standing : Standing
  pub owed : Option Report

-- the state and the cells
pub record Sheet : Type 0 where
  pub state : State
  pub grid : Grid

-- the state beside the whole of what a panel shows
pub record Placed : Type 0 where
  pub state : State
  pub screen : Screen

-- what the code's state means
abbrev pub state_of : code.State → State
state_of p = record {
  lines = p.size.lines;
  columns = p.size.columns;
  line = p.position.line;
  column = p.position.column;
  rendition = p.rendition;
  column_stops = take p.size.columns p.column_stops.flags;
  line_stops = take p.size.lines p.line_stops.flags;
  modes = p.modes;
  standing = standing_of p.reader.standing;
  owed = p.owed;
}

abbrev pub placed : code.State → Screen → Placed
placed p s = record { state = state_of p; screen = s }

abbrev pub sheet_of : Placed → Sheet
sheet_of x = record { state = x.state; grid = x.screen.grid }

-- an effect on state and cells; what lies beyond the cells stays
abbrev pub upon : (Sheet → Sheet) → Placed → Placed
upon f x = record { state = (f (sheet_of x)).state; screen = with_grid x.screen (f (sheet_of x)).grid }

-- one part put in place, the others kept
abbrev pub at : ℕ → ℕ → State → State
at l c s = record { lines = s.lines; columns = s.columns; line = l; column = c; rendition = s.rendition; column_stops = s.column_stops; line_stops = s.line_stops; modes = s.modes; standing = s.standing; owed = s.owed }

abbrev pub rendered : Rendition → State → State
rendered r s = record { lines = s.lines; columns = s.columns; line = s.line; column = s.column; rendition = r; column_stops = s.column_stops; line_stops = s.line_stops; modes = s.modes; standing = s.standing; owed = s.owed }

abbrev pub with_stops : List Bool → List Bool → State → State
with_stops c l s = record { lines = s.lines; columns = s.columns; line = s.line; column = s.column; rendition = s.rendition; column_stops = c; line_stops = l; modes = s.modes; standing = s.standing; owed = s.owed }

abbrev pub in_modes : Modes → State → State
in_modes m s = record { lines = s.lines; columns = s.columns; line = s.line; column = s.column; rendition = s.rendition; column_stops = s.column_stops; line_stops = s.line_stops; modes = m; standing = s.standing; owed = s.owed }

abbrev pub reading : Standing → State → State
reading a s = record { lines = s.lines; columns = s.columns; line = s.line; column = s.column; rendition = s.rendition; column_stops = s.column_stops; line_stops = s.line_stops; modes = s.modes; standing = a; owed = s.owed }

abbrev pub owing : Option Report → State → State
owing o s = record { lines = s.lines; columns = s.columns; line = s.line; column = s.column; rendition = s.rendition; column_stops = s.column_stops; line_stops = s.line_stops; modes = s.modes; standing = s.standing; owed = o }

-- an effect on the state alone, and on the cells alone
abbrev pub on_state : (State → State) → Sheet → Sheet
on_state f x = record { state = f x.state; grid = x.grid }

abbrev pub showing : Grid → Sheet → Sheet
showing g x = record { state = x.state; grid = g }
