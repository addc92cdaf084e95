-- The plain page: what a page and its panel hold, as values; what start and deliver answer, and leave.
use Rattle.std.specs.Prelude.{ℕ, Bool, true, false, cond, ◌&&◌, List, length, take, is_some, Some, None, Option, ◌==◌, nat_le}
use Rattle.std.specs.Option.{option_map}
use Rattle.refusal.specs.Table.{Answer, accepted, refused}
use Rattle.refusal.specs.declared.Layer.TheVariants as layer
use Rattle.refusal.specs.declared.Place.TheVariants.{Nowhere}
use Rattle.panel.specs.Grids.{Grid, within}
use Rattle.panel.specs.Screens.{Screen, Beyond}
use Rattle.reader.specs.Steps.{Standing}
use Rattle.reader.specs.Requests.{until_request}
use Rattle.page.specs.declared.page.Page.{Page}
use Rattle.page.specs.declared.state.State as code
use Rattle.page.specs.declared.view.View.{View}
use Rattle.page.specs.declared.view.Delivered.{Delivered}
use Rattle.page.specs.Sheets.{State, Sheet, state_of, on_state, owing}
use Rattle.page.specs.Effects.{fresh, begun, run}

-- whether it was started, and its state and cells
pub record Plain : Type 0 where
  pub started : Bool
  pub sheet : Sheet

-- a page beside the whole of what its panel shows
pub record OnPanel : Type 0 where
  pub plain : Plain
  pub beyond : Beyond

-- the state of a page: of one that is not started, that with which a page of one cell begins
abbrev pub state_in : Option code.State → State
state_in None = fresh 1 1
state_in (Some s) = state_of s

abbrev pub plain : Page → Grid → Plain
plain p g = record { started = is_some p.state; sheet = record { state = state_in p.state; grid = g } }

abbrev pub on_panel : Page → Screen → OnPanel
on_panel p s = record { plain = plain p s.grid; beyond = s.beyond }

-- what a call leaves of the plain page; what lies beyond the cells stays
abbrev pub leaves : (Plain → Plain) → OnPanel → OnPanel
leaves f x = record { plain = f x.plain; beyond = x.beyond }

-- the page was started, and on a panel of this size
abbrev pub known : Plain → Bool
known x = x.started && (x.sheet.state.lines == x.sheet.grid.lines && x.sheet.state.columns == x.sheet.grid.columns)

abbrev pub owes : Plain → Bool
owes x = is_some x.sheet.state.owed

-- the bytes that a delivery takes: through the first that requests a reply, else all. The reader's standing alone tells.
abbrev pub taken_at : Standing → List ℕ → List ℕ
taken_at s bs = take (until_request s bs) bs

abbrev pub taken : Plain → List ℕ → List ℕ
taken x bs = taken_at x.sheet.state.standing bs

-- the page after bytes
abbrev pub after_bytes : Plain → List ℕ → Plain
after_bytes x bs = record { started = x.started; sheet = run x.sheet bs }

-- a refusal of the page, which has no place
abbrev pub page_refuses : {A : Type 0} → ℕ → Answer A
page_refuses n = refused n layer.Page Nowhere

-- a delivery is accepted, or refused: page not known, more than 4,096 bytes, a reply owed
abbrev pub by_delivery : {A : Type 0} → Plain → List ℕ → (ℕ → A) → A → A
by_delivery x bs refuse go = cond (known x) (cond (nat_le (length bs) 4096) (cond (owes x) (refuse 4) go) (refuse 3)) (refuse 2)

abbrev pub deliver_answer : Plain → List ℕ → Answer Delivered
deliver_answer x bs = by_delivery x bs page_refuses (accepted (record { taken = length (taken x bs) }))

abbrev pub delivered : List ℕ → Plain → Plain
delivered bs x = by_delivery x bs (λ n. x) (after_bytes x (taken x bs))

-- start is accepted on 1 to 64 lines and 1 to 132 columns
abbrev pub startable : Grid → Bool
startable g = within 64 132 g.lines g.columns

abbrev pub start_answer : Grid → Answer (Unit {0})
start_answer g = cond (startable g) (accepted tt) (page_refuses 1)

abbrev pub started_page : Grid → Plain
started_page g = record { started = true; sheet = begun g }

abbrev pub after_start : Plain → Plain
after_start x = cond (startable x.sheet.grid) (started_page x.sheet.grid) x

-- a page that was never started
abbrev pub unstarted : Grid → Plain
unstarted g = record { started = false; sheet = record { state = fresh 1 1; grid = g } }

-- nothing is owed any more
abbrev pub settled : Plain → Plain
settled x = record { started = x.started; sheet = on_state (owing None) x.sheet }

-- what a page hands out of what it holds
abbrev pub view_of_state : code.State → View
view_of_state s = record {
  size = s.size;
  position = s.position;
  rendition = s.rendition;
  column_stops = s.column_stops.flags;
  line_stops = s.line_stops.flags;
  modes = s.modes;
  standing = s.reader.standing;
  owed = s.owed;
}

abbrev pub view_of : Page → Option View
view_of p = option_map view_of_state p.state
