-- What each control function does to a page.
use Rattle.std.specs.Prelude.{ℕ, ◌*◌, Bool, true, false, List, [], ◌∷◌, map, replicate, Some, None}
use Rattle.std.specs.List.{range_with_len}
use Rattle.panel.specs.declared.shifting.Direction.TheVariants as way
use Rattle.panel.specs.Grids.{Grid, after_erase}
use Rattle.reader.specs.Functions.{Parameter, Function}
use Rattle.reader.specs.Steps.{Outcome, step, rest}
use Rattle.control.specs.declared.function.Control.{Control}
use Rattle.control.specs.declared.function.Control.TheVariants as c
use Rattle.control.specs.Renditions.{standard}
use Rattle.control.specs.Selecting.{selected, set_all}
use Rattle.control.specs.Decoding.{decoded, values}
use Rattle.page.specs.Sheets.{State, Sheet, on_state, rendered, in_modes, reading, owing}
use Rattle.page.specs.Moves.{go_to, up, down, right, left, to_column, to_line, to_first_column}
use Rattle.page.specs.Stops.{tab, back_tab, line_tab, mark_column, mark_line, cleared, first_stop}
use Rattle.page.specs.Cells.{character, erase_in_page, erase_in_line, erase_characters, insert_characters, delete_characters, insert_lines, delete_lines, scroll, line_feed, reverse_line_feed, next_line}

-- the state of a page as it begins
abbrev pub fresh : ℕ → ℕ → State
fresh h w = record {
  lines = h;
  columns = w;
  line = 1;
  column = 1;
  rendition = standard;
  column_stops = map first_stop (range_with_len 0 w);
  line_stops = replicate h false;
  modes = record { insertion = false; combination = false };
  standing = rest;
  owed = None;
}

-- a page begun on a grid: every cell is erased
abbrev pub begun : Grid → Sheet
begun g = record { state = fresh g.lines g.columns; grid = after_erase g 1 1 (g.lines * g.columns) }

-- SGR, and SM and RM
abbrev pub select_rendition : List Parameter → State → State
select_rendition ps s = rendered (selected ps s.modes.combination s.rendition) s

abbrev pub set_modes : Bool → List Parameter → State → State
set_modes b ps s = in_modes (set_all b ps s.modes) s

-- a control function, with the values of the sequence that selects it
abbrev pub effect : Control → List Parameter → Sheet → Sheet
effect c.Nothing ps x = x
effect (c.Character b) ps x = character b x
effect c.Reset ps x = begun x.grid
effect (c.Up n) ps x = on_state (up n) x
effect (c.Down n) ps x = on_state (down n) x
effect (c.Right n) ps x = on_state (right n) x
effect (c.Left n) ps x = on_state (left n) x
effect (c.ToColumn n) ps x = on_state (to_column n) x
effect (c.ToLine n) ps x = on_state (to_line n) x
effect (c.GoTo l n) ps x = on_state (go_to l n) x
effect c.ToFirstColumn ps x = on_state to_first_column x
effect (c.EraseInPage e) ps x = erase_in_page e x
effect (c.EraseInLine e) ps x = erase_in_line e x
effect (c.EraseCharacters n) ps x = erase_characters n x
effect (c.InsertCharacters n) ps x = insert_characters n x
effect (c.DeleteCharacters n) ps x = delete_characters n x
effect (c.InsertLines n) ps x = insert_lines n x
effect (c.DeleteLines n) ps x = delete_lines n x
effect (c.ScrollUp n) ps x = scroll way.Up n x
effect (c.ScrollDown n) ps x = scroll way.Down n x
effect (c.ScrollLeft n) ps x = scroll way.Left n x
effect (c.ScrollRight n) ps x = scroll way.Right n x
effect (c.Tab n) ps x = on_state (tab n) x
effect (c.BackTab n) ps x = on_state (back_tab n) x
effect (c.LineTab n) ps x = on_state (line_tab n) x
effect c.SetColumnStop ps x = on_state (mark_column true) x
effect c.SetLineStop ps x = on_state (mark_line true) x
effect (c.Clear which) ps x = on_state (cleared which) x
effect c.SetModes ps x = on_state (set_modes true ps) x
effect c.ResetModes ps x = on_state (set_modes false ps) x
effect c.SelectRendition ps x = on_state (select_rendition ps) x
effect (c.Request r) ps x = on_state (owing (Some r)) x
effect c.LineFeed ps x = line_feed x
effect c.ReverseLineFeed ps x = reverse_line_feed x
effect c.NextLine ps x = next_line x

-- what a function does
abbrev pub does : Function → Sheet → Sheet
does f x = effect (decoded f) (values f) x

-- functions, one after the other
abbrev pub does_all : List Function → Sheet → Sheet
does_all [] x = x
does_all (f ∷ fs) x = does_all fs (does f x)

-- what one byte does: it moves the reader, and then the functions that it completes act
abbrev pub acts : Outcome → Sheet → Sheet
acts o x = does_all o.performs (on_state (reading o.standing) x)

unfoldable pub stepped : Sheet → ℕ → Sheet
stepped x b = acts (step x.state.standing b) x

-- bytes in order
unfoldable pub run : Sheet → List ℕ → Sheet
run x [] = x
run x (b ∷ bs) = run (stepped x b) bs
