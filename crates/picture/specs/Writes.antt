-- What the writer can be asked for, the bytes of it, and what a call answers and writes.
use Rattle.std.specs.Prelude.{◌≡◌, ℕ, ◌-◌, Bool, true, false, cond, not, ◌&&◌, ◌||◌, List, [], ◌∷◌, ◌++◌, length, Some, None, Result, ◌==◌, nat_le, nat_lt}
use Rattle.std.specs.List.{list_all}
use Rattle.refusal.specs.Table.{Answer, refused, answer}
use Rattle.refusal.specs.declared.Refusal.{Refusal}
use Rattle.refusal.specs.declared.Layer.TheVariants as layer
use Rattle.refusal.specs.declared.Place.TheVariants.{Nowhere}
use Rattle.reader.specs.Bytes.{among, is_graphic, is_opener, is_body, ends_sequence}
use Rattle.reader.specs.Functions.{Parameter, Function, graphic, control, reset, sequence}
use Rattle.reader.specs.Items.{is_beginning}
use Rattle.picture.specs.Writing.{written}
use Rattle.picture.specs.Calls.{front_answer, front_bytes}
use Rattle.picture.specs.Tape.{over}

-- graphic characters
abbrev pub is_text : List ℕ → Bool
is_text bs = list_all is_graphic bs

-- a C0 control but ESC, or a C1 control but CSI, SOS and the openers
abbrev pub is_control : ℕ → Bool
is_control b = (nat_lt b 0x20 && not (b == 0x1B)) || (among 0x80 0x9F b && not (is_beginning b))

-- an empty parameter, or a number up to 9,999
abbrev pub is_small : Parameter → Bool
is_small None = true
is_small (Some n) = nat_le n 9999

abbrev pub has_value : Parameter → Bool
has_value None = false
has_value (Some n) = true

-- a lone parameter is not empty: it could not be told from none
abbrev pub is_told : List Parameter → Bool
is_told [] = true
is_told (p ∷ []) = has_value p
is_told (p ∷ q ∷ ps) = true

-- at most sixteen parameters, and a final byte of a sequence
abbrev pub is_sequence : List Parameter → ℕ → Bool
is_sequence ps f = nat_le (length ps) 16 && (list_all is_small ps && (is_told ps && ends_sequence f))

-- an opener by its 8-bit code, and a body
abbrev pub is_string : ℕ → List ℕ → Bool
is_string k body = is_opener k && list_all is_body body

-- a string: its opener as ESC and the byte 64 lower, its body, and ST as ESC \
abbrev pub string_bytes : ℕ → List ℕ → List ℕ
string_bytes k body = 0x1B ∷ (k - 64) ∷ (body ++ (0x1B ∷ 0x5C ∷ []))

-- what a call answers: out of range, buffer too short, or the length
abbrev pub write_answer : Bool → List ℕ → ℕ → Answer ℕ
write_answer may bs room = cond may (front_answer bs room) (refused 9 layer.Writer Nowhere)

-- what it writes at the buffer's front: nothing where it is refused
abbrev pub write_bytes : Bool → List ℕ → ℕ → List ℕ
write_bytes may bs room = cond may (front_bytes bs room) []

-- a call of the writer with these bytes, where it may, by its result and the buffer before and after
pub record Writes (may : Bool) (bs : List ℕ) (r : Result ℕ Refusal) (before after : List ℕ) : Type 0 where
  pub says : answer r ≡ write_answer may bs (length before)
  pub wrote : after ≡ over (write_bytes may bs (length before)) before

-- a sequence that was read is written again if it is in range; anything else is out of range
abbrev pub is_rewritable : List Function → Bool
is_rewritable [] = false
is_rewritable (graphic b ∷ fs) = false
is_rewritable (control b ∷ fs) = false
is_rewritable (reset ∷ fs) = false
is_rewritable (sequence ps space f ∷ fs) = is_sequence ps f

abbrev pub rewritten : List Function → List ℕ
rewritten [] = []
rewritten (f ∷ fs) = written f
