-- What was written reads back.
use Rattle.std.specs.Prelude.{◌≡◌, ℕ, ◌-◌, ◌<◌, Bool, true, false, List, [], ◌∷◌, ◌++◌, map, length, Some, nat_le}
use Rattle.reader.specs.declared.item.Kind.TheVariants.{Text, Control, Escape, Sequence}
use Rattle.reader.specs.Bytes.{is_graphic, is_opener, is_body, AllOf, Stops}
use Rattle.reader.specs.Functions.{Parameter, Function, graphic, control, sequence}
use Rattle.reader.specs.Steps.{rest, standing_after, performed}
use Rattle.reader.specs.Numbers.{numbers, sequence_performs}
use Rattle.reader.specs.Performs.{control_performs}
use Rattle.reader.specs.Items.{Form, Sequenced, Enclosed}
use Rattle.picture.specs.Writing.{written, space_bytes}
use Rattle.picture.specs.Writes.{is_text, is_control, is_sequence, is_string, string_bytes}

-- from rest the bytes perform these functions, and lead back to rest
pub record Performs (bs : List ℕ) (fs : List Function) : Type 0 where
  pub functions : performed rest bs ≡ fs
  pub rests : standing_after rest bs ≡ rest

-- things written one after the other perform their functions one after the other
abbrev pub ReadsInARow : Type 0
ReadsInARow = (xs ys : List ℕ) (fs gs : List Function) → Performs xs fs → Performs ys gs → Performs (xs ++ ys) (fs ++ gs)

-- a text is one item, where no graphic character follows
abbrev pub TextReads : Type 0
TextReads =
    (bs : List ℕ) → is_text bs ≡ true
    → Performs bs (map graphic bs) × ((after : List ℕ) → 0 < length bs → Stops is_graphic after → Form Text bs after)

-- a C0 control is one item, of that byte, and a C1 control is one escape, with the final byte 64 lower
abbrev pub ControlReads : Type 0
ControlReads =
    (b : ℕ) → is_control b ≡ true
    → Performs (written (control b)) (control_performs b)
    × ((after : List ℕ) → nat_le 0x80 b ≡ false → (i : Form Control (written (control b)) after) × (i.0 ≡ b))
    × ((after : List ℕ) → nat_le 0x80 b ≡ true → (i : Form Escape (written (control b)) after) × (i.between ≡ []) × (i.final ≡ b - 64))

-- a sequence is one item, of these parameters, space and final byte
abbrev pub SequenceReads : Type 0
SequenceReads =
    (ps : List Parameter) (space : Bool) (f : ℕ) → is_sequence ps f ≡ true
    → Performs (written (sequence ps space f)) (sequence ps space f ∷ [])
    × ((after : List ℕ) → (i : Form Sequence (written (sequence ps space f)) after) × (numbers i.parameters ≡ Some ps) × (i.between ≡ space_bytes space) × (i.final ≡ f))

-- a command string is one item, of this opener and body, and performs nothing
abbrev pub StringReads : Type 0
StringReads =
    (k : ℕ) (body : List ℕ) → is_string k body ≡ true
    → Performs (string_bytes k body) []
    × ((i : Enclosed is_opener (AllOf is_body) (string_bytes k body)) × (i.by ≡ k) × (i.body ≡ body))

-- a sequence that was read within the bounds is in range, so that it can be written again
abbrev pub SequenceRewrites : Type 0
SequenceRewrites =
    (x : List ℕ) (i : Sequenced x) (ps : List Parameter) (space : Bool) (f : ℕ)
    → sequence_performs (numbers i.parameters) i.between i.final ≡ sequence ps space f ∷ []
    → is_sequence ps f ≡ true
