-- What items tell: a sequence its parameters and final byte, a string its opener and body.
use Rattle.std.specs.Prelude.{◌≡◌, ℕ, Bool, true, ◌||◌, List, [], ◌∷◌, ◌++◌, ◌==◌, nat_eq}
use Rattle.reader.specs.declared.item.Kind.{Kind}
use Rattle.reader.specs.declared.item.Kind.TheVariants.{Text, Control, Escape, Sequence, String, Broken, Rest}
use Rattle.reader.specs.Bytes.{AllOf, is_opener, is_body}
use Rattle.reader.specs.Functions.{Function, graphic, control, reset, sequence}
use Rattle.reader.specs.Steps.{rest, performed}
use Rattle.reader.specs.Numbers.{numbers, sequence_performs}
use Rattle.reader.specs.Items.{Spells, Free, Sequenced, Enclosed}

-- a single function that is a sequence; else none
abbrev pub only_sequence : List Function → List Function
only_sequence [] = []
only_sequence (graphic b ∷ []) = []
only_sequence (control b ∷ []) = []
only_sequence (reset ∷ []) = []
only_sequence (sequence ps space f ∷ []) = sequence ps space f ∷ []
only_sequence (f ∷ g ∷ fs) = []

-- an item of that kind tells the sequence that its bytes perform from rest, where they perform nothing else
abbrev pub tells_sequence : Kind → List ℕ → List Function
tells_sequence Text x = []
tells_sequence Control x = []
tells_sequence Escape x = []
tells_sequence Sequence x = only_sequence (performed rest x)
tells_sequence String x = []
tells_sequence Broken x = []
tells_sequence Rest x = []

-- of bytes of the grammar it is what the grammar says: none where a bound is broken
abbrev pub SequencesTell : Type 0
SequencesTell = (x : List ℕ) (f : Sequenced x) → tells_sequence Sequence x ≡ sequence_performs (numbers f.parameters) f.between f.final

-- DCS, SOS, OSC, PM and APC open a string
abbrev pub opens_string : ℕ → Bool
opens_string k = is_opener k || k == 0x98

-- x is such an opener, in either form, and then l
abbrev pub Opened : List ℕ → ℕ → List ℕ → Type 0
Opened x k l = (c : List ℕ) × (opens_string k ≡ true) × Spells k c × (x ≡ c ++ l)

-- l is the body and then ST, in either form
abbrev pub Closed : List ℕ → List ℕ → Type 0
Closed l body = (st : List ℕ) × Spells 0x9C st × (l ≡ body ++ st)

-- x is an opener, by its 8-bit code, a body and ST
abbrev pub StringParts : List ℕ → ℕ → List ℕ → Type 0
StringParts x k body = (l : List ℕ) × Opened x k l × Closed l body

-- an item of that kind tells the opener and the body of its bytes
abbrev pub TellsString : Kind → List ℕ → ℕ → List ℕ → Type 0
TellsString kind x k body = (kind ≡ String) × StringParts x k body

-- it tells one opener and one body
abbrev pub StringIsOnly : Type 0
StringIsOnly = (kind : Kind) (x : List ℕ) (j k : ℕ) (a b : List ℕ) → TellsString kind x j a → TellsString kind x k b → (j ≡ k) × (a ≡ b)

-- of bytes of the grammar these are the grammar's
abbrev pub StringsTell : Type 0
StringsTell =
    (x : List ℕ)
    → ((f : Enclosed is_opener (AllOf is_body) x) → TellsString String x f.by f.body)
    × ((f : Enclosed (λ k. nat_eq k 0x98) Free x) → TellsString String x f.by f.body)
