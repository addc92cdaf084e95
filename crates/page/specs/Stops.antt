-- Character and line stops, as flags for columns and lines.
use Rattle.std.specs.Prelude.{ℕ, zero, suc, ◌+◌, ◌-◌, ◌%◌, Bool, false, cond, ◌&&◌, List, [], ◌∷◌, drop, replicate, ◌==◌, nat_le, slice_index_or, slice_set}
use Rattle.control.specs.declared.function.Clearing.{Clearing}
use Rattle.control.specs.declared.function.Clearing.TheVariants.{ColumnStop, LineStop, AllColumnStops, AllLineStops, AllStops}
use Rattle.page.specs.Sheets.{State, with_stops}
use Rattle.page.specs.Moves.{first_column, last_column, to_column, to_line}

-- the place of the n-th stop among flags for the places from k on, else the last argument
abbrev pub next_stop : ℕ → ℕ → List Bool → ℕ → ℕ
next_stop n k [] d = d
next_stop n k (f ∷ fs) d = cond f (cond (nat_le n 1) k (next_stop (n - 1) (k + 1) fs d)) (next_stop n (k + 1) fs d)

-- the place of the n-th stop among the first k, from the last back, else the last argument
abbrev pub previous_stop : ℕ → List Bool → ℕ → ℕ → ℕ
previous_stop n fs zero d = d
previous_stop n fs (suc k) d = cond (slice_index_or fs k false) (cond (nat_le n 1) (k + 1) (previous_stop (n - 1) fs k d)) (previous_stop n fs k d)

-- CHT, CBT and CVT
abbrev pub tab : ℕ → State → State
tab n s = to_column (next_stop n (s.column + 1) (drop s.column s.column_stops) (last_column s)) s

abbrev pub back_tab : ℕ → State → State
back_tab n s = to_column (previous_stop n s.column_stops (s.column - 1) (first_column s)) s

abbrev pub line_tab : ℕ → State → State
line_tab n s = to_line (next_stop n (s.line + 1) (drop s.line s.line_stops) s.lines) s

-- the stop at the active column or line set or cleared
abbrev pub mark_column : Bool → State → State
mark_column b s = with_stops (slice_set s.column_stops (s.column - 1) b) s.line_stops s

abbrev pub mark_line : Bool → State → State
mark_line b s = with_stops s.column_stops (slice_set s.line_stops (s.line - 1) b) s

abbrev pub clear_columns : State → State
clear_columns s = with_stops (replicate s.columns false) s.line_stops s

abbrev pub clear_lines : State → State
clear_lines s = with_stops s.column_stops (replicate s.lines false) s

-- TBC
abbrev pub cleared : Clearing → State → State
cleared ColumnStop s = mark_column false s
cleared LineStop s = mark_line false s
cleared AllColumnStops s = clear_columns s
cleared AllLineStops s = clear_lines s
cleared AllStops s = clear_lines (clear_columns s)

-- the stops of a page as it begins, counted from 0: every eighth column after the first
abbrev pub first_stop : ℕ → Bool
first_stop k = nat_le 1 k && k % 8 == 0
