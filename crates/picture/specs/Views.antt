-- What a page hands out, as the values of the plain page.
use Rattle.std.specs.Prelude.{◌≡◌, ℕ, Bool, true, cond, ◌&&◌, List, [], ◌∷◌, length, take, is_some, Result, ◌==◌}
use Rattle.refusal.specs.Table.{answer}
use Rattle.refusal.specs.declared.Refusal.{Refusal}
use Rattle.panel.specs.Grids.{Grid}
use Rattle.control.specs.declared.function.Report.{Report}
use Rattle.control.specs.declared.function.Report.TheVariants.{Status, Position}
use Rattle.reader.specs.Meaning.{standing_of}
use Rattle.page.specs.declared.view.View.{View}
use Rattle.page.specs.Sheets.{State, Sheet}
use Rattle.page.specs.Plain.{Plain, page_refuses}
use Rattle.picture.specs.Tape.{over}
use Rattle.picture.specs.Writing.{written}
use Rattle.picture.specs.Pictures.{numbered, reply_bytes}
use Rattle.picture.specs.Calls.{front_answer, front_bytes}

-- the state that it shows: stops past the page's edge mean nothing
abbrev pub state_seen : View → State
state_seen v = record {
  lines = v.size.lines;
  columns = v.size.columns;
  line = v.position.line;
  column = v.position.column;
  rendition = v.rendition;
  column_stops = take v.size.columns v.column_stops;
  line_stops = take v.size.lines v.line_stops;
  modes = v.modes;
  standing = standing_of v.standing;
  owed = v.owed;
}

abbrev pub sheet_seen : View → Grid → Sheet
sheet_seen v g = record { state = state_seen v; grid = g }

-- a page is seen only where it was started
abbrev pub seen : View → Grid → Plain
seen v g = record { started = true; sheet = sheet_seen v g }

-- whether a panel is of the page's size
abbrev pub is_of_size : View → Grid → Bool
is_of_size v g = v.size.lines == g.lines && v.size.columns == g.columns

-- the bytes of a reply, from a line and column
abbrev pub report_bytes : Report → ℕ → ℕ → List ℕ
report_bytes Status l c = written (numbered (0 ∷ []) 0x6E)
report_bytes Position l c = written (numbered (l ∷ c ∷ []) 0x52)

-- the reply of a state is written, if one is owed
pub record Replies (s : State) (r : Result ℕ Refusal) (before after : List ℕ) : Type 0 where
  pub says : answer r ≡ cond (is_some s.owed) (front_answer (reply_bytes s) (length before)) (page_refuses 5)
  pub wrote : after ≡ over (cond (is_some s.owed) (front_bytes (reply_bytes s) (length before)) []) before
