-- What can be written, so that it is read back.
use Rattle.std.specs.Prelude.{◌≡◌, ℕ, ◌≤◌, Bool, true, not, ◌&&◌, ◌||◌, List, [], ◌∷◌, length, Some, None, ◌==◌, nat_lt}
use Rattle.reader.specs.Bytes.{among, is_graphic, is_opener, ends_sequence}
use Rattle.reader.specs.Functions.{Parameter, Function, graphic, control, reset, sequence}
use Rattle.reader.specs.Steps.{rest, standing_after, performed}
use Rattle.picture.specs.Writing.{all_written}

-- a C0 control but ESC, or a C1 control but those that open, CSI, SOS and ST
abbrev pub is_single : ℕ → Bool
is_single b = (nat_lt b 0x20 && not (b == 0x1B)) || (among 0x80 0x9F b && not (is_opener b || (b == 0x98 || (b == 0x9B || b == 0x9C))))

-- numbers up to 9,999
abbrev pub Small : List Parameter → Type 0
Small [] = Unit {0}
Small (None ∷ ps) = Small ps
Small (Some n ∷ ps) = (n ≤ 9999) × Small ps

-- a lone parameter is not empty: its string would be that of none
abbrev pub Told : List Parameter → Type 0
Told [] = Unit {0}
Told (None ∷ []) = ⊥
Told (None ∷ p ∷ ps) = Unit {0}
Told (Some n ∷ ps) = Unit {0}

pub record Fits (ps : List Parameter) : Type 0 where
  pub small : Small ps
  pub told : Told ps
  pub few : length ps ≤ 16

abbrev pub Writable : Function → Type 0
Writable (graphic b) = is_graphic b ≡ true
Writable (control b) = is_single b ≡ true
Writable reset = Unit {0}
Writable (sequence ps space f) = Fits ps × (ends_sequence f ≡ true)

abbrev pub Each : (Function → Type 0) → List Function → Type 0
Each P [] = Unit {0}
Each P (f ∷ fs) = P f × Each P fs

-- functions written one after the other are read back, from rest and to rest
abbrev pub ReadsBack : Type 0
ReadsBack = (fs : List Function) → Each Writable fs → (performed rest (all_written fs) ≡ fs) × (standing_after rest (all_written fs) ≡ rest)
