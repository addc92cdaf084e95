-- The control functions that finals, single controls and values select.
use Rattle.std.specs.Prelude.{ℕ, cond, List, [], ◌∷◌, length, Option, Some, None, nat_le, slice_index_or}
use Rattle.reader.specs.Functions.{Parameter, Function, graphic, control, reset, sequence}
use Rattle.control.specs.declared.function.Control.{Control}
use Rattle.control.specs.declared.function.Control.TheVariants as c
use Rattle.control.specs.declared.function.Extent.{Extent}
use Rattle.control.specs.declared.function.Extent.TheVariants.{ToEnd, FromStart, All}
use Rattle.control.specs.declared.function.Clearing.TheVariants.{ColumnStop, LineStop, AllColumnStops, AllLineStops, AllStops}
use Rattle.control.specs.declared.function.Report.TheVariants.{Status, Position}
use Rattle.control.specs.Selecting.{numeric, selective}
use Rattle.control.specs.Tables.{pick}

-- the parameter at a place, and what it counts as
abbrev pub parameter_at : List Parameter → ℕ → Parameter
parameter_at ps i = slice_index_or ps i None

abbrev pub number_at : List Parameter → ℕ → ℕ
number_at ps i = numeric (parameter_at ps i)

abbrev pub choice_at : List Parameter → ℕ → ℕ
choice_at ps i = selective (parameter_at ps i)

abbrev pub no_effect : Control
no_effect = c.Nothing

-- with more parameters than a function takes, a sequence has no effect
abbrev pub at_most : ℕ → List Parameter → Control → Control
at_most n ps f = cond (nat_le (length ps) n) f no_effect

-- a function of one numeric parameter, and of one selective parameter
abbrev pub counted : List Parameter → (ℕ → Control) → Control
counted ps f = at_most 1 ps (f (number_at ps 0))

abbrev pub chosen : List Parameter → List (ℕ × Control) → Control
chosen ps t = at_most 1 ps (pick (choice_at ps 0) t no_effect)

-- how much ED and EL erase
abbrev pub extent_of : ℕ → Option Extent
extent_of n = pick n ((0, Some ToEnd) ∷ (1, Some FromStart) ∷ (2, Some All) ∷ []) None

-- ED and EL
abbrev pub page_extents : List (ℕ × Control)
page_extents = (0, c.EraseInPage ToEnd) ∷ (1, c.EraseInPage FromStart) ∷ (2, c.EraseInPage All) ∷ []

abbrev pub line_extents : List (ℕ × Control)
line_extents = (0, c.EraseInLine ToEnd) ∷ (1, c.EraseInLine FromStart) ∷ (2, c.EraseInLine All) ∷ []

-- TBC
abbrev pub clearings : List (ℕ × Control)
clearings =
    (0, c.Clear ColumnStop) ∷ (1, c.Clear LineStop) ∷ (2, c.Clear AllColumnStops) ∷ (3, c.Clear AllColumnStops) ∷ (4, c.Clear AllLineStops) ∷ (5, c.Clear AllStops) ∷ []

-- DSR
abbrev pub reports : List (ℕ × Control)
reports = (5, c.Request Status) ∷ (6, c.Request Position) ∷ []

-- sequences by their final bytes
abbrev pub plain_finals : List Parameter → List (ℕ × Control)
plain_finals ps =
    (0x40, counted ps c.InsertCharacters) ∷ (0x41, counted ps c.Up) ∷ (0x6B, counted ps c.Up) ∷ (0x42, counted ps c.Down) ∷ (0x65, counted ps c.Down)
    ∷ (0x43, counted ps c.Right) ∷ (0x61, counted ps c.Right) ∷ (0x44, counted ps c.Left) ∷ (0x6A, counted ps c.Left)
    ∷ (0x47, counted ps c.ToColumn) ∷ (0x60, counted ps c.ToColumn) ∷ (0x64, counted ps c.ToLine)
    ∷ (0x48, at_most 2 ps (c.GoTo (number_at ps 0) (number_at ps 1))) ∷ (0x66, at_most 2 ps (c.GoTo (number_at ps 0) (number_at ps 1)))
    ∷ (0x4A, chosen ps page_extents) ∷ (0x4B, chosen ps line_extents) ∷ (0x58, counted ps c.EraseCharacters) ∷ (0x50, counted ps c.DeleteCharacters)
    ∷ (0x4C, counted ps c.InsertLines) ∷ (0x4D, counted ps c.DeleteLines) ∷ (0x53, counted ps c.ScrollUp) ∷ (0x54, counted ps c.ScrollDown)
    ∷ (0x49, counted ps c.Tab) ∷ (0x5A, counted ps c.BackTab) ∷ (0x59, counted ps c.LineTab) ∷ (0x67, chosen ps clearings)
    ∷ (0x68, c.SetModes) ∷ (0x6C, c.ResetModes) ∷ (0x6D, c.SelectRendition) ∷ (0x6E, chosen ps reports) ∷ []

-- those with one 20 before the final byte
abbrev pub spaced_finals : List Parameter → List (ℕ × Control)
spaced_finals ps = (0x40, counted ps c.ScrollLeft) ∷ (0x41, counted ps c.ScrollRight) ∷ []

-- C0 and C1 controls
abbrev pub singles : List (ℕ × Control)
singles =
    (0x08, c.Left 1) ∷ (0x09, c.Tab 1) ∷ (0x0A, c.LineFeed) ∷ (0x0B, c.LineTab 1) ∷ (0x0D, c.ToFirstColumn)
    ∷ (0x85, c.NextLine) ∷ (0x88, c.SetColumnStop) ∷ (0x8A, c.SetLineStop) ∷ (0x8D, c.ReverseLineFeed) ∷ []

-- the control function that a function selects
abbrev pub decoded : Function → Control
decoded (graphic b) = c.Character b
decoded (control b) = pick b singles no_effect
decoded reset = c.Reset
decoded (sequence ps space f) = cond space (pick f (spaced_finals ps) no_effect) (pick f (plain_finals ps) no_effect)

-- the values that SM, RM and SGR take
abbrev pub values : Function → List Parameter
values (graphic b) = []
values (control b) = []
values reset = []
values (sequence ps space f) = ps
