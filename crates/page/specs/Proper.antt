-- What holds of the state of every page.
use Rattle.std.specs.Prelude.{◌≡◌, ◌≤◌, length}
use Rattle.page.specs.Sheets.{State}

pub record Proper (s : State) : Type 0 where
  pub few_lines : s.lines ≤ 64
  pub few_columns : s.columns ≤ 132
  pub line_from : 1 ≤ s.line
  pub line_to : s.line ≤ s.lines
  pub column_from : 1 ≤ s.column
  pub column_to : s.column ≤ s.columns
  pub all_column_stops : length s.column_stops ≡ s.columns
  pub all_line_stops : length s.line_stops ≡ s.lines
