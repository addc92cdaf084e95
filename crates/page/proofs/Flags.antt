-- Flags of stops: a flag set, and the walk back from stop to stop.
use Rattle.std.proofs.Common.{◌≡◌, ℕ, zero, suc, ◌++◌, ◌+◌, ◌-◌, ◌<◌, ◌≤◌, Bool, false, cond, leb, List, [], ◌∷◌, length, get_or, take, set, refl, ap, ◌∙◌, le_of_suc-le-suc, not-suc-le-zero, arith}
use Rattle.std.proofs.lemmas.List.{get_or_append_left}
use Rattle.std.proofs.Math.Seq.{get_or-append_seam}
use Rattle.page.specs.Stops.{previous_stop}

pub take_set_in : (n : ℕ) (xs : List Bool) (i : ℕ) (b : Bool) → i < n → take n (set xs i b) ≡ set (take n xs) i b
take_set_in zero xs i b h = absurd (not-suc-le-zero h)
take_set_in (suc n) [] i b h = refl
take_set_in (suc n) (x ∷ xs) zero b h = refl
take_set_in (suc n) (x ∷ xs) (suc i) b h = ap (λ l. x ∷ l) (take_set_in n xs i b (le_of_suc-le-suc h))

-- backwards only the flags before the place count
pub among_first : (n k d : ℕ) (fs gs : List Bool) → k ≤ length fs → previous_stop n (fs ++ gs) k d ≡ previous_stop n fs k d
among_first n zero d fs gs h = refl
among_first n (suc k) d fs gs h =
    let here : get_or (fs ++ gs) k false ≡ get_or fs k false = get_or_append_left fs gs false k h in
    let low : k ≤ length fs = omega (arith, h) in
    let nearer = among_first (n - 1) k d fs gs low in
    let farther = among_first n k d fs gs low in
    λ i. cond (here i) (cond (leb n 1) (k + 1) (nearer i)) (farther i)

-- the walk from the last of the flags
pub from_last : (n d : ℕ) (xs fs : List Bool) (f : Bool) → xs ≡ fs ++ f ∷ [] → length fs + 1 ≡ length xs
    → previous_stop n xs (length xs) d ≡ cond f (cond (leb n 1) (length xs) (previous_stop (n - 1) fs (length fs) d)) (previous_stop n fs (length fs) d)
from_last n d xs fs f e l =
    let k = length fs in
    let here : get_or (fs ++ f ∷ []) k false ≡ f = get_or-append_seam fs f [] false in
    let low : k ≤ length fs = omega arith in
    let nearer = among_first (n - 1) k d fs (f ∷ []) low in
    let farther = among_first n k d fs (f ∷ []) low in
    let long : length xs ≡ suc k = omega (arith, l) in
    let end : k + 1 ≡ length xs = l in
    (λ i. previous_stop n (e i) (long i) d) ∙ (λ i. cond (here i) (cond (leb n 1) (end i) (nearer i)) (farther i))
