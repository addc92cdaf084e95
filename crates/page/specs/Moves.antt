-- Moves of the active position.
use Rattle.std.specs.Prelude.{ℕ, ◌+◌, ◌-◌, min, max}
use Rattle.page.specs.Sheets.{State, at}

-- a number not below the first and not above the last
abbrev pub inside : ℕ → ℕ → ℕ → ℕ
inside first last n = max first (min n last)

-- the columns between which the position moves
abbrev pub first_column : State → ℕ
first_column s = 1

abbrev pub last_column : State → ℕ
last_column s = s.columns

-- a move past an edge stops there
abbrev pub go_to : ℕ → ℕ → State → State
go_to l c s = at (inside 1 s.lines l) (inside (first_column s) (last_column s) c) s

abbrev pub up : ℕ → State → State
up n s = go_to (s.line - n) s.column s

abbrev pub down : ℕ → State → State
down n s = go_to (s.line + n) s.column s

abbrev pub right : ℕ → State → State
right n s = go_to s.line (s.column + n) s

abbrev pub left : ℕ → State → State
left n s = go_to s.line (s.column - n) s

abbrev pub to_column : ℕ → State → State
to_column n s = go_to s.line n s

abbrev pub to_line : ℕ → State → State
to_line n s = go_to n s.column s

abbrev pub to_first_column : State → State
to_first_column s = to_column (first_column s) s
