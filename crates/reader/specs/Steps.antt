-- How bytes are read, one by one: where the reader stands, and what a byte does there.
use Rattle.std.specs.Prelude.{ℕ, ◌+◌, ◌-◌, ◌*◌, min, Bool, true, false, cond, ◌&&◌, ◌||◌, List, [], ◌∷◌, ◌++◌, length, Some, None, ◌==◌, nat_le}
use Rattle.reader.specs.Bytes.{among, is_graphic, is_intermediate, is_parameter, is_digit, is_separator, ends_escape, ends_sequence, is_opener, is_body}
use Rattle.reader.specs.Functions.{Parameter, Parameters, Function, graphic, control, reset, sequence}

-- where the reader stands between two bytes
pub data Standing : Type 0 where
  rest : Standing
  -- after ESC, and whether intermediates were read
  escape : Bool → Standing
  -- in a sequence, by the parameters so far
  in_parameters : Parameters → Standing
  -- in a sequence after intermediates, by its parameters; None where the intermediates are not a single 20
  in_intermediates : Parameters → Standing
  in_string : Standing
  -- in an SOS string, and whether ESC came last
  in_sos : Bool → Standing

abbrev pub is_at_rest : Standing → Bool
is_at_rest rest = true
is_at_rest (escape between) = false
is_at_rest (in_parameters ps) = false
is_at_rest (in_intermediates ps) = false
is_at_rest in_string = false
is_at_rest (in_sos escaped) = false

-- what a byte leads to, and the functions that it completes
pub record Outcome : Type 0 where
  pub standing : Standing
  pub performs : List Function

abbrev pub to : Standing → Outcome
to s = record { standing = s; performs = [] }

abbrev pub ends : Function → Outcome
ends f = record { standing = rest; performs = f ∷ [] }

-- one more digit; a number above 9,999 counts as 9,999
abbrev pub grown : Parameter → ℕ → ℕ
grown None d = d
grown (Some n) d = min 9999 (n * 10 + d)

-- a digit belongs to the last parameter, or begins the first
abbrev pub with_digit : List Parameter → ℕ → List Parameter
with_digit [] d = Some d ∷ []
with_digit (p ∷ []) d = Some (grown p d) ∷ []
with_digit (p ∷ q ∷ ps) d = p ∷ with_digit (q ∷ ps) d

-- a separator stands after a parameter, and begins one more
abbrev pub with_separator : List Parameter → List Parameter
with_separator [] = None ∷ None ∷ []
with_separator (p ∷ ps) = (p ∷ ps) ++ None ∷ []

-- parameters that are within the bounds, or not
abbrev pub only_if : Bool → List Parameter → Parameters
only_if within ps = cond within (Some ps) None

-- at most sixteen parameters
abbrev pub bounded : List Parameter → Parameters
bounded ps = cond (nat_le (length ps) 16) (Some ps) None

-- one more parameter byte
abbrev pub with_byte : Parameters → ℕ → Parameters
with_byte None b = None
with_byte (Some ps) b = cond (is_digit b) (Some (with_digit ps (b - 0x30))) (cond (is_separator b) (bounded (with_separator ps)) None)

-- at rest; DEL and ST perform nothing
abbrev pub resting : ℕ → Outcome
resting b =
    cond (is_graphic b) (ends (graphic b))
    (cond (b == 0x7F || b == 0x9C) (to rest)
    (cond (b == 0x1B) (to (escape false))
    (cond (b == 0x9B) (to (in_parameters (Some [])))
    (cond (is_opener b) (to in_string)
    (cond (b == 0x98) (to (in_sos false)) (ends (control b)))))))

-- the same, kept shut, so that a proof about another standing does not look into it
unfoldable pub at_rest : ℕ → Outcome
at_rest b = resting b

-- the final byte of an escape: with nothing between, 40-5F is the C1 control 64 higher, and 63 is RIS
abbrev pub escape_final : Bool → ℕ → Outcome
escape_final true b = to rest
escape_final false b = cond (among 0x40 0x5F b) (at_rest (b + 64)) (cond (b == 0x63) (ends reset) (to rest))

-- the final byte of a sequence
abbrev pub sequence_final : Parameters → Bool → ℕ → Outcome
sequence_final None space b = to rest
sequence_final (Some ps) space b = ends (sequence ps space b)

-- one byte; what does not fit is read as at rest
abbrev pub step : Standing → ℕ → Outcome
step rest b = at_rest b
step (escape between) b = cond (is_intermediate b) (to (escape true)) (cond (ends_escape b) (escape_final between b) (at_rest b))
step (in_parameters ps) b =
    cond (is_parameter b) (to (in_parameters (with_byte ps b)))
    (cond (is_intermediate b) (to (in_intermediates (cond (b == 0x20) ps None)))
    (cond (ends_sequence b) (sequence_final ps false b) (at_rest b)))
step (in_intermediates ps) b = cond (is_intermediate b) (to (in_intermediates None)) (cond (ends_sequence b) (sequence_final ps true b) (at_rest b))
step in_string b = cond (is_body b) (to in_string) (at_rest b)
step (in_sos escaped) b = cond (b == 0x9C || (escaped && b == 0x5C)) (to rest) (to (in_sos (b == 0x1B)))

-- where bytes lead, and the functions that they perform
abbrev pub standing_after : Standing → List ℕ → Standing
standing_after s [] = s
standing_after s (b ∷ bs) = standing_after (step s b).standing bs

abbrev pub performed : Standing → List ℕ → List Function
performed s [] = []
performed s (b ∷ bs) = (step s b).performs ++ performed (step s b).standing bs
