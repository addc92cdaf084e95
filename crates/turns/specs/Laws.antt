-- The laws over runs.
use Rattle.std.specs.Prelude.{◌≡◌, ℕ, ◌+◌, true, false, cond, ◌↔◌, List, [], ◌∷◌, length, ◌≢◌}
use Rattle.refusal.specs.Table.{accepted, refused}
use Rattle.refusal.specs.declared.Layer.{Layer}
use Rattle.refusal.specs.declared.Place.{Place}
use Rattle.panel.specs.Grids.{Grid, Whole}
use Rattle.reader.specs.Functions.{Function}
use Rattle.reader.specs.Requests.{requests}
use Rattle.reader.specs.Steps.{rest, standing_after}
use Rattle.reader.specs.Laws.{is_in_sos}
use Rattle.reader.specs.Performs.{Part, Cut, cut_performs}
use Rattle.page.specs.Sheets.{on_state, reading}
use Rattle.page.specs.Effects.{begun, does_all}
use Rattle.page.specs.Proper.{Proper}
use Rattle.page.specs.Plain.{Plain, known, owes, settled, startable, started_page}
use Rattle.turns.specs.Turns.{Turn, picture, turn, after, taken_in, sent_in}

-- what every page that the types admit has: its position and stops lie on it, and its panel has every cell
pub record Admitted (x : Plain) : Type 0 where
  pub proper : Proper x.sheet.state
  pub whole : Whole x.sheet.grid

-- how many functions request a reply
abbrev pub requested : List Function → ℕ
requested [] = 0
requested (f ∷ fs) = cond (requests f) 1 0 + requested fs

-- the page that the items of bytes make of one that has begun: the effects of their functions, in order, and the reader
-- where the bytes lead it
abbrev pub shown_by : (g : Grid) (ps : List Part) (bs : List ℕ) → Cut 0 ps bs → Plain
shown_by g ps bs c = record { started = true; sheet = on_state (reading (standing_after rest bs)) (does_all (cut_performs 0 ps bs c) (begun g)) }

-- a page after turns is what the items of all bytes taken make of it. A request is owed until a reply is sent:
-- the replies sent, and the one still owed, are as many as the requests
pub record Shows (g : Grid) (ts : List Turn) (ps : List Part) (c : Cut 0 ps (taken_in (started_page g) ts)) : Type 0 where
  pub same : settled (after (started_page g) ts) ≡ settled (shown_by g ps (taken_in (started_page g) ts) c)
  pub owing : owes (after (started_page g) ts) ≡ true → after (started_page g) ts ≡ shown_by g ps (taken_in (started_page g) ts) c
  pub count : length (sent_in (started_page g) ts) + cond (owes (after (started_page g) ts)) 1 0 ≡ requested (cut_performs 0 ps (taken_in (started_page g) ts) c)

abbrev pub RunsShowItems : Type 0
RunsShowItems = (g : Grid) → startable g ≡ true → (ts : List Turn) (ps : List Part) (c : Cut 0 ps (taken_in (started_page g) ts)) → Shows g ts ps c

-- two lists from one page that took the same bytes in all and sent equally many replies leave equal pages, and sent the same
abbrev pub SameBytesSamePage : Type 0
SameBytesSamePage =
    (x : Plain) (ts us : List Turn) → taken_in x ts ≡ taken_in x us → length (sent_in x ts) ≡ length (sent_in x us)
    → (after x ts ≡ after x us) × (sent_in x ts ≡ sent_in x us)

-- two pages of one size
pub record SameSize (x y : Plain) : Type 0 where
  pub lines : x.sheet.state.lines ≡ y.sheet.state.lines
  pub columns : x.sheet.state.columns ≡ y.sheet.state.columns

-- a picture of a was accepted, with this outcome
abbrev pub Pictured : Plain → ℕ → Type 0
Pictured a room = (n : ℕ) × ((turn a (picture room)).says ≡ accepted n)

-- an accepted picture, delivered entire to a page of its size that owes nothing and is in no SOS string, makes it equal: turns
-- that take exactly the picture's bytes in order, in deliveries of any lengths, and send no reply
abbrev pub PictureRestores : Type 0
PictureRestores =
    (a b : Plain) → Admitted a → Admitted b → SameSize a b → (room : ℕ) → Pictured a room
    → known b ≡ true → owes b ≡ false → is_in_sos b.sheet.state.standing ≡ false
    → (ts : List Turn) → taken_in b ts ≡ (turn a (picture room)).writes → sent_in b ts ≡ [] → after b ts ≡ a

-- pages of one size with accepted pictures are equal exactly where the pictures are the same bytes
abbrev pub PicturesTellPages : Type 0
PicturesTellPages =
    (a b : Plain) → Admitted a → Admitted b → SameSize a b → (j k : ℕ) → Pictured a j → Pictured b k
    → (a ≡ b) ↔ ((turn a (picture j)).writes ≡ (turn b (picture k)).writes)

-- no picture of a page that only turns have touched is refused for a foreign cell
abbrev pub NeverForeign : Type 0
NeverForeign =
    (g : Grid) → startable g ≡ true → Whole g → (ts : List Turn) (room : ℕ) (l : Layer) (p : Place)
    → (turn (after (started_page g) ts) (picture room)).says ≢ refused 7 l p
