-- The table of refusals: the number of each, the layer that finds it and its place.
use Rattle.std.specs.Prelude.{ℕ, Bool, true, false, Ok, Err, Result}
use Rattle.refusal.specs.declared.Layer.{Layer}
use Rattle.refusal.specs.declared.Layer.TheVariants.{Panel, Writer, Page}
use Rattle.refusal.specs.declared.Place.{Place}
use Rattle.refusal.specs.declared.Place.TheVariants.{Nowhere, Length, At}
use Rattle.refusal.specs.declared.Refusal.{Refusal}
use Rattle.refusal.specs.declared.Refusal.TheVariants.{PanelSize, OtherPanel, TooLong, ReplyOwed, NothingOwed, Unfinished, ForeignCell, ShortBuffer, OutOfRange, OutsidePanel}

-- its number
abbrev pub number : Refusal → ℕ
number PanelSize = 1
number OtherPanel = 2
number TooLong = 3
number ReplyOwed = 4
number NothingOwed = 5
number Unfinished = 6
number (ForeignCell line column) = 7
number (ShortBuffer needed) = 8
number OutOfRange = 9
number (OutsidePanel line column) = 10

-- the layer that finds it
abbrev pub layer : Refusal → Layer
layer PanelSize = Page
layer OtherPanel = Page
layer TooLong = Page
layer ReplyOwed = Page
layer NothingOwed = Page
layer Unfinished = Page
layer (ForeignCell line column) = Page
layer (ShortBuffer needed) = Writer
layer OutOfRange = Writer
layer (OutsidePanel line column) = Panel

-- what it points at: nothing, the length needed, or a line and column
abbrev pub place : Refusal → Place
place PanelSize = Nowhere
place OtherPanel = Nowhere
place TooLong = Nowhere
place ReplyOwed = Nowhere
place NothingOwed = Nowhere
place Unfinished = Nowhere
place (ForeignCell line column) = At line column
place (ShortBuffer needed) = Length needed
place OutOfRange = Nowhere
place (OutsidePanel line column) = At line column

-- what a call says: it is accepted with a value, or refused by a number, a layer and a place
pub data Answer (A : Type 0) : Type 0 where
  accepted : A → Answer A
  refused : ℕ → Layer → Place → Answer A

-- whether it is accepted
abbrev pub is_accepted : {A : Type 0} → Answer A → Bool
is_accepted (accepted x) = true
is_accepted (refused n l p) = false

-- what a result says
abbrev pub answer : {A : Type 0} → Result A Refusal → Answer A
answer (Ok x) = accepted x
answer (Err e) = refused (number e) (layer e) (place e)
