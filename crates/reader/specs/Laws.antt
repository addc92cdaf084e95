-- The laws of reading.
use Rattle.std.specs.Prelude.{◌≡◌, ℕ, Bool, true, false, List, [], ◌∷◌, ◌++◌, Some}
use Rattle.reader.specs.Bytes.{AllOf, is_parameter}
use Rattle.reader.specs.Functions.{reset}
use Rattle.reader.specs.Steps.{Standing, rest, escape, in_parameters, in_intermediates, in_string, in_sos, standing_after, performed}
use Rattle.reader.specs.Numbers.{numbers}
use Rattle.reader.specs.Requests.{until_request, FirstRequest}

-- bytes read in two parts are read as the whole, whatever the cut
abbrev pub ReadsInParts : Type 0
ReadsInParts =
    (s : Standing) (xs ys : List ℕ)
    → (standing_after s (xs ++ ys) ≡ standing_after (standing_after s xs) ys) × (performed s (xs ++ ys) ≡ performed s xs ++ performed (standing_after s xs) ys)

-- a parameter string, read byte by byte, is read as its numbers, and performs nothing
abbrev pub ReadsNumbers : Type 0
ReadsNumbers =
    (ps : List ℕ) → AllOf is_parameter ps
    → (standing_after (in_parameters (Some [])) ps ≡ in_parameters (numbers ps)) × (performed (in_parameters (Some [])) ps ≡ [])

abbrev pub is_in_sos : Standing → Bool
is_in_sos rest = false
is_in_sos (escape between) = false
is_in_sos (in_parameters ps) = false
is_in_sos (in_intermediates ps) = false
is_in_sos in_string = false
is_in_sos (in_sos escaped) = true

-- RIS is read from every standing but those in an SOS string
abbrev pub ReadsReset : Type 0
ReadsReset =
    (s : Standing) → is_in_sos s ≡ false
    → (standing_after s (0x1B ∷ 0x63 ∷ []) ≡ rest) × (performed s (0x1B ∷ 0x63 ∷ []) ≡ reset ∷ [])

-- standings that perform alike, whatever follows, are equal
abbrev pub StandingsDiffer : Type 0
StandingsDiffer = (s t : Standing) → ((bs : List ℕ) → performed s bs ≡ performed t bs) → s ≡ t

-- where a delivery stops is told by the standing and the bytes alone: it is the one place that FirstRequest describes
abbrev pub StopsAtRequest : Type 0
StopsAtRequest = (s : Standing) (bs : List ℕ) → FirstRequest s bs (until_request s bs) × ((n : ℕ) → FirstRequest s bs n → n ≡ until_request s bs)
