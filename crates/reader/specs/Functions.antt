-- The functions that bytes perform, and the parameters of a sequence.
use Rattle.std.specs.Prelude.{ℕ, Bool, List, Option}

-- a parameter as it was sent: empty, or a number
abbrev pub Parameter : Type 0
Parameter = Option ℕ

-- the parameters of a sequence in order; None where a bound is broken, so that the sequence can perform nothing
abbrev pub Parameters : Type 0
Parameters = Option (List Parameter)

pub data Function : Type 0 where
  -- a graphic character
  graphic : ℕ → Function
  -- a C0 control, or a C1 control by its 8-bit code
  control : ℕ → Function
  -- RIS
  reset : Function
  -- the parameters, whether one 20 stood before the final byte, and the final byte
  sequence : List Parameter → Bool → ℕ → Function
