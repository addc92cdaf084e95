-- Standings that perform alike are equal, and RIS is read from every standing but those of an SOS string.
use Rattle.std.proofs.Common.{◌≡◌, Bool, true, false, List, [], ◌∷◌, Some, None, sym, refl, ap, ◌∙◌}
use Rattle.std.proofs.lemmas.Bool.{both_ways}
use Rattle.reader.specs.Functions.{Parameter, Function, graphic, control, reset, sequence}
use Rattle.reader.specs.Steps.{Standing, at_rest, rest, escape, in_parameters, in_intermediates, in_string, in_sos, performed}
use Rattle.reader.specs.Laws.{ReadsReset, StandingsDiffer}

pub reads_reset : ReadsReset
unfolding at_rest
reads_reset rest h = (refl, refl)
reads_reset (escape true) h = (refl, refl)
reads_reset (escape false) h = (refl, refl)
reads_reset (in_parameters ps) h = (refl, refl)
reads_reset (in_intermediates ps) h = (refl, refl)
reads_reset in_string h = (refl, refl)
reads_reset (in_sos e) h = absurd (both_ways true h refl)

-- what a standing performs on a few probes: @, then 0 A, then BEL, then A A, then \ A
record Probed : Type 0 where
  final : List Function
  after_digit : List Function
  bell : List Function
  two_finals : List Function
  after_end : List Function

probe : Standing → Probed
probe s =
    record {
      final = performed s (0x40 ∷ []);
      after_digit = performed s (0x30 ∷ 0x41 ∷ []);
      bell = performed s (0x07 ∷ []);
      two_finals = performed s (0x41 ∷ 0x41 ∷ []);
      after_end = performed s (0x5C ∷ 0x41 ∷ []);
    }

-- the standing is told by its probes
sos_by : List Function → Standing
sos_by [] = in_sos false
sos_by (f ∷ fs) = in_sos true

string_by : List Function → List Function → List Function → Standing
string_by [] two end = sos_by end
string_by (f ∷ fs) [] end = in_string
string_by (f ∷ fs) (g ∷ gs) end = in_parameters None

quiet_by : List Function → List Function → List Function → List Function → Standing
quiet_by [] bell two end = string_by bell two end
quiet_by (f ∷ []) bell two end = escape true
quiet_by (f ∷ g ∷ gs) bell two end = in_intermediates None

spaced_by : Bool → List Parameter → Standing
spaced_by false ps = in_parameters (Some ps)
spaced_by true ps = in_intermediates (Some ps)

function_by : Function → Standing
function_by (graphic b) = rest
function_by (control b) = escape false
function_by reset = rest
function_by (sequence ps space f) = spaced_by space ps

by_final : List Function → Probed → Standing
by_final [] p = quiet_by p.after_digit p.bell p.two_finals p.after_end
by_final (f ∷ fs) p = function_by f

told : Probed → Standing
told p = by_final p.final p

probe_tells : (s : Standing) → told (probe s) ≡ s
unfolding at_rest probe told by_final function_by spaced_by quiet_by string_by sos_by
probe_tells rest = refl
probe_tells (escape true) = refl
probe_tells (escape false) = refl
probe_tells (in_parameters None) = refl
probe_tells (in_parameters (Some ps)) = refl
probe_tells (in_intermediates None) = refl
probe_tells (in_intermediates (Some ps)) = refl
probe_tells in_string = refl
probe_tells (in_sos true) = refl
probe_tells (in_sos false) = refl

pub standings_differ : StandingsDiffer
unfolding probe
standings_differ s t h =
    let same : probe s ≡ probe t = λ i. record { final = h (0x40 ∷ []) i; after_digit = h (0x30 ∷ 0x41 ∷ []) i; bell = h (0x07 ∷ []) i; two_finals = h (0x41 ∷ 0x41 ∷ []) i; after_end = h (0x5C ∷ 0x41 ∷ []) i } in
    sym (probe_tells s) ∙ ap told same ∙ probe_tells t
