-- Parameters as a slice pattern parts them.
use Rattle.std.proofs.Common.{◌≡◌, ◌-◌, ◌<◌, ◌≤◌, List, [], ◌∷◌, ◌++◌, length, get_or, take, drop, None, refl, ap, arith}
use Rattle.std.proofs.lemmas.List.{take_rest}
use Rattle.reader.specs.Functions.{Parameter}
use Rattle.picture.specs.Writing.{parameter_bytes, more_bytes, parameters_bytes}

-- the parameters behind the first
abbrev pub behind : List Parameter → List Parameter
behind ps = take (length ps - 1) (drop 1 ps)

pub listed_first : (ps : List Parameter) → 1 ≤ length ps → parameter_bytes (get_or ps 0 None) ++ more_bytes (behind ps) ≡ parameters_bytes ps
listed_first [] l = absurd (omega arith)
listed_first (p ∷ ps) l = ap (λ qs. parameter_bytes p ++ more_bytes qs) (take_rest (p ∷ ps) 1)

pub listed_none : (ps : List Parameter) → length ps < 1 → [] ≡ parameters_bytes ps
listed_none [] l = refl
listed_none (p ∷ ps) l = absurd (omega arith)
