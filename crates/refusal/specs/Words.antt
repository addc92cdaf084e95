-- What is printed of a refusal: its number, its word, its layer and its place, parted by spaces.
use Rattle.std.specs.Prelude.{ℕ, List, ◌++◌, codes, decimal}
use Rattle.refusal.specs.declared.Layer.{Layer}
use Rattle.refusal.specs.declared.Layer.TheVariants.{Panel, Writer, Page}
use Rattle.refusal.specs.declared.Place.{Place}
use Rattle.refusal.specs.declared.Place.TheVariants.{Nowhere, Length, At}
use Rattle.refusal.specs.declared.Refusal.{Refusal}
use Rattle.refusal.specs.declared.Refusal.TheVariants.{PanelSize, OtherPanel, TooLong, ReplyOwed, NothingOwed, Unfinished, ForeignCell, ShortBuffer, OutOfRange, OutsidePanel}
use Rattle.refusal.specs.Table.{number, layer, place}

-- its word
abbrev pub word : Refusal → List ℕ
word PanelSize = codes "Size"
word OtherPanel = codes "Stranger"
word TooLong = codes "Long"
word ReplyOwed = codes "Owing"
word NothingOwed = codes "Quits"
word Unfinished = codes "Midway"
word (ForeignCell line column) = codes "Foreign"
word (ShortBuffer needed) = codes "Short"
word OutOfRange = codes "Misfit"
word (OutsidePanel line column) = codes "Outside"

-- the word of a layer
abbrev pub layer_word : Layer → List ℕ
layer_word Panel = codes "panel"
layer_word Writer = codes "writer"
layer_word Page = codes "page"

-- a place in figures: 0, a length, or a line and column with a comma between
abbrev pub place_text : Place → List ℕ
place_text Nowhere = codes "0"
place_text (Length n) = decimal n
place_text (At line column) = decimal line ++ (codes "," ++ decimal column)

-- the whole text
abbrev pub text : Refusal → List ℕ
text r = decimal (number r) ++ (codes " " ++ (word r ++ (codes " " ++ (layer_word (layer r) ++ (codes " " ++ place_text (place r))))))
