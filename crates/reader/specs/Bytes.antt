-- The classes of bytes, by their codes.
use Rattle.std.specs.Prelude.{◌≡◌, ℕ, Bool, true, false, ◌&&◌, ◌||◌, List, [], ◌∷◌, ◌==◌, nat_le}

-- from one code to another, both included
abbrev pub among : ℕ → ℕ → ℕ → Bool
among low high b = nat_le low b && nat_le b high

-- graphic characters, SPACE and the last code too
abbrev pub is_graphic : ℕ → Bool
is_graphic b = among 0x20 0x7E b || nat_le 0xA0 b

-- the intermediate bytes of an escape or a sequence
abbrev pub is_intermediate : ℕ → Bool
is_intermediate b = among 0x20 0x2F b

-- the parameter bytes of a sequence: digits, the separator 3B, and others that no function has
abbrev pub is_parameter : ℕ → Bool
is_parameter b = among 0x30 0x3F b

abbrev pub is_digit : ℕ → Bool
is_digit b = among 0x30 0x39 b

abbrev pub is_separator : ℕ → Bool
is_separator b = b == 0x3B

-- the final byte of an escape, and that of a sequence
abbrev pub ends_escape : ℕ → Bool
ends_escape b = among 0x30 0x7E b

abbrev pub ends_sequence : ℕ → Bool
ends_sequence b = among 0x40 0x7E b

-- DCS, OSC, PM and APC, which open a command string
abbrev pub is_opener : ℕ → Bool
is_opener b = b == 0x90 || among 0x9D 0x9F b

-- the body of a command string
abbrev pub is_body : ℕ → Bool
is_body b = among 0x08 0x0D b || among 0x20 0x7E b

-- every byte is of the class
abbrev pub AllOf : (ℕ → Bool) → List ℕ → Type 0
AllOf P [] = Unit {0}
AllOf P (b ∷ bs) = (P b ≡ true) × AllOf P bs

-- the bytes do not begin with one of the class
abbrev pub Stops : (ℕ → Bool) → List ℕ → Type 0
Stops P [] = Unit {0}
Stops P (b ∷ bs) = P b ≡ false
