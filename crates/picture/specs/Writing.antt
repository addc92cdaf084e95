-- From functions to bytes.
use Rattle.std.specs.Prelude.{ℕ, ◌+◌, ◌-◌, ◌/◌, ◌%◌, Bool, true, false, cond, List, [], ◌∷◌, ◌++◌, Some, None, nat_le, nat_lt}
use Rattle.reader.specs.Functions.{Parameter, Function, graphic, control, reset, sequence}

-- a number below 10,000 in decimal digits, without leading zeros
unfoldable pub digits : ℕ → List ℕ
digits n =
    cond (nat_lt n 10) ((0x30 + n) ∷ [])
    (cond (nat_lt n 100) ((0x30 + n / 10) ∷ (0x30 + n % 10) ∷ [])
    (cond (nat_lt n 1000) ((0x30 + n / 100) ∷ (0x30 + n / 10 % 10) ∷ (0x30 + n % 10) ∷ [])
    ((0x30 + n / 1000) ∷ (0x30 + n / 100 % 10) ∷ (0x30 + n / 10 % 10) ∷ (0x30 + n % 10) ∷ [])))

-- a parameter: nothing where it is empty
abbrev pub parameter_bytes : Parameter → List ℕ
parameter_bytes None = []
parameter_bytes (Some n) = digits n

-- parameters, each after a separator
abbrev pub more_bytes : List Parameter → List ℕ
more_bytes [] = []
more_bytes (p ∷ ps) = 0x3B ∷ (parameter_bytes p ++ more_bytes ps)

-- a parameter string
abbrev pub parameters_bytes : List Parameter → List ℕ
parameters_bytes [] = []
parameters_bytes (p ∷ ps) = parameter_bytes p ++ more_bytes ps

abbrev pub space_bytes : Bool → List ℕ
space_bytes true = 0x20 ∷ []
space_bytes false = []

-- a C1 control is written as ESC and the byte 64 lower, a sequence behind ESC [
unfoldable pub written : Function → List ℕ
written (graphic b) = b ∷ []
written (control b) = cond (nat_le 0x80 b) (0x1B ∷ (b - 64) ∷ []) (b ∷ [])
written reset = 0x1B ∷ 0x63 ∷ []
written (sequence ps space f) = 0x1B ∷ 0x5B ∷ (parameters_bytes ps ++ (space_bytes space ++ (f ∷ [])))

-- functions one after the other
unfoldable pub all_written : List Function → List ℕ
all_written [] = []
all_written (f ∷ fs) = written f ++ all_written fs
