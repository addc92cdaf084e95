-- What a whole parameter string says, and what a whole sequence performs.
use Rattle.std.specs.Prelude.{ℕ, ◌+◌, ◌-◌, ◌*◌, min, Bool, true, false, cond, ◌&&◌, ◌||◌, List, [], ◌∷◌, map, length, Some, None, ◌==◌, nat_le}
use Rattle.reader.specs.Bytes.{is_digit, is_separator}
use Rattle.reader.specs.Functions.{Parameter, Parameters, Function, sequence}

-- a byte in front of the first part
abbrev pub onto : ℕ → List (List ℕ) → List (List ℕ)
onto b [] = (b ∷ []) ∷ []
onto b (p ∷ ps) = (b ∷ p) ∷ ps

-- the parts between separators: one more than there are of these
abbrev pub parts : List ℕ → List (List ℕ)
parts [] = [] ∷ []
parts (b ∷ bs) = cond (is_separator b) ([] ∷ parts bs) (onto b (parts bs))

-- the number that digits make after n
abbrev pub decimal : ℕ → List ℕ → ℕ
decimal n [] = n
decimal n (d ∷ ds) = decimal (n * 10 + (d - 0x30)) ds

-- an empty part is an empty parameter; a number above 9,999 counts as 9,999
abbrev pub value : List ℕ → Parameter
value [] = None
value (d ∷ ds) = Some (min 9999 (decimal 0 (d ∷ ds)))

-- digits and separators alone
abbrev pub plain : List ℕ → Bool
plain [] = true
plain (b ∷ bs) = (is_digit b || is_separator b) && plain bs

-- the parameters of a parameter string: none where it is empty, and at most sixteen
abbrev pub numbers : List ℕ → Parameters
numbers [] = Some []
numbers (b ∷ bs) = cond (plain (b ∷ bs) && nat_le (length (parts (b ∷ bs))) 16) (Some (map value (parts (b ∷ bs)))) None

-- what a sequence performs, by its parameters, its intermediates and its final byte
abbrev pub sequence_performs : Parameters → List ℕ → ℕ → List Function
sequence_performs None is f = []
sequence_performs (Some ps) [] f = sequence ps false f ∷ []
sequence_performs (Some ps) (i ∷ []) f = cond (i == 0x20) (sequence ps true f ∷ []) []
sequence_performs (Some ps) (i ∷ j ∷ is) f = []
