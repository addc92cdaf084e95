-- Parameters held in an array, as a list.
use Rattle.std.proofs.Common.{◌≡◌, ℕ, zero, suc, ◌+◌, ◌-◌, ◌<◌, ◌≤◌, max, List, [], ◌∷◌, ◌++◌, length, get_or, take, drop, set, replicate, Some, None, sym, refl, ap, ◌∙◌, le_of_suc-le-suc, not-suc-le-zero, add-one, arith, length-append, length-take-le}
use Rattle.std.proofs.lemmas.List.{take_more}
use Rattle.std.proofs.lemmas.Bool.{le-leb, cond-true}
use Rattle.reader.specs.Functions.{Parameter}
use Rattle.reader.specs.Steps.{grown, with_digit, with_separator, bounded}

-- of slots that are empty from one on, that one is, and so are those behind it
pub empty_from : (xs : List Parameter) (n k : ℕ) → drop n xs ≡ replicate (suc k) None → (get_or xs n None ≡ None) × (drop (suc n) xs ≡ replicate k None)
empty_from [] zero k e = grind (arith, e)
empty_from [] (suc n) k e = grind (arith, e)
empty_from (x ∷ xs) zero k e = (grind (arith, e), grind (arith, e))
empty_from (x ∷ xs) (suc n) k e = empty_from xs n k e

-- a digit goes to the last of n parameters, or begins the first; m is how many there are then
pub digit_last : (xs : List Parameter) (n m d : ℕ) → m ≡ max n 1 → n ≤ 16 → length xs ≡ 16 → drop n xs ≡ replicate (16 - n) None → take m (set xs (m - 1) (Some (grown (get_or xs (m - 1) None) d))) ≡ with_digit (take n xs) d
digit_last xs zero m d e h l u =
    let one : m ≡ 1 = omega (arith, e) in
    let none = (empty_from xs 0 15 u).0 in
    rw (one, none) (first xs d (omega (arith, l)))
  where
    first : (xs : List Parameter) (d : ℕ) → 0 < length xs → take 1 (set xs 0 (Some d)) ≡ Some d ∷ []
    first [] d h = absurd (not-suc-le-zero h)
    first (x ∷ xs) d h = refl
digit_last xs (suc n) m d e h l u =
    let all : m ≡ suc n = omega (arith, e) in
    let back : suc n - 1 ≡ n = omega arith in
    rw (all, back) (at xs n d (omega (arith, l)))
  where
    at : (xs : List Parameter) (n d : ℕ) → n < length xs → take (suc n) (set xs n (Some (grown (get_or xs n None) d))) ≡ with_digit (take (suc n) xs) d
    at [] n d h = absurd (not-suc-le-zero h)
    at (y ∷ ys) zero d h = refl
    at (y ∷ []) (suc n) d h = absurd (not-suc-le-zero (le_of_suc-le-suc h))
    at (y ∷ z ∷ zs) (suc n) d h = ap (λ (l : List Parameter). y ∷ l) (at (z ∷ zs) n d (le_of_suc-le-suc h))

-- a separator begins the next of n parameters, or the first two
pub separated : (xs : List Parameter) (n m : ℕ) → m ≡ max n 1 → n < 16 → length xs ≡ 16 → drop n xs ≡ replicate (16 - n) None → (Some (take (m + 1) xs) ≡ bounded (with_separator (take n xs))) × (drop (m + 1) xs ≡ replicate (16 - (m + 1)) None)
separated xs zero m e h l u =
    let one : m ≡ 1 = omega (arith, e) in
    let first = empty_from xs 0 15 u in
    let second = empty_from xs 1 14 first.1 in
    rw one (ap Some (two xs (omega (arith, l)) first.0 second.0), second.1)
  where
    two : (xs : List Parameter) → 1 < length xs → get_or xs 0 None ≡ None → get_or xs 1 None ≡ None → take 2 xs ≡ None ∷ None ∷ []
    two [] h a b = absurd (not-suc-le-zero h)
    two (x ∷ []) h a b = absurd (omega (arith, h))
    two (x ∷ y ∷ xs) h a b = ap (λ z. z ∷ y ∷ []) a ∙ ap (λ z. None ∷ z ∷ []) b
separated [] (suc n) m e h l u = absurd (omega (arith, l))
separated (x ∷ xs) (suc n) m e h l u =
    let all : m ≡ suc n = omega (arith, e) in
    let left : 16 - suc n ≡ suc (16 - suc (suc n)) = omega arith in
    let next = empty_from (x ∷ xs) (suc n) (16 - suc (suc n)) (u ∙ ap (λ k. replicate k None) left) in
    let long : length ((x ∷ take n xs) ++ None ∷ []) ≤ 16 = simp length-append (omega (arith, length-take-le n xs (omega (arith, l)))) in
    rw all (
      ap Some (take_more (x ∷ xs) (suc n) None (omega (arith, l)) ∙ ap (λ p. (x ∷ take n xs) ++ p ∷ []) next.0) ∙ sym (cond-true _ _ _ (le-leb _ 16 long)),
      rw add-one next.1,
    )
