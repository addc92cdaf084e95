-- A number by its digits, the leading zeros left out.
use Rattle.std.proofs.Common.{◌≡◌, ℕ, ◌+◌, ◌/◌, ◌%◌, Bool, true, false, cond, List, ltb, leb, [], ◌∷◌, ◌++◌, ⊎_elim, arith}
use Rattle.std.proofs.lemmas.Bool.{cases_lt, lt-leb, le-leb, lt-ltb, le-ltb}
use Rattle.picture.specs.Writing.{digits}

-- a digit that is written only where the number is so high
abbrev pub only_if : Bool → ℕ → List ℕ
only_if high d = cond high (d ∷ []) []

pub digits_laid : (n : ℕ) → only_if (leb 1000 n) (48 + n / 1000) ++ (only_if (leb 100 n) (48 + n / 100 % 10) ++ (only_if (leb 10 n) (48 + n / 10 % 10) ++ ((48 + n % 10) ∷ []))) ≡ digits n
unfolding digits
digits_laid n =
    ⊎_elim
    (λ a.
    let p : leb 1000 n ≡ false = lt-leb _ _ (omega arith) in
    let q : leb 100 n ≡ false = lt-leb _ _ (omega arith) in
    let r : leb 10 n ≡ false = lt-leb _ _ (omega arith) in
    let x : ltb n 10 ≡ true = lt-ltb _ _ a in
    let d : n % 10 ≡ n = omega arith in
    simp (p, q, r, x, d))
    (λ a. ⊎_elim
    (λ b.
    let p : leb 1000 n ≡ false = lt-leb _ _ (omega arith) in
    let q : leb 100 n ≡ false = lt-leb _ _ (omega arith) in
    let r : leb 10 n ≡ true = le-leb _ _ a in
    let x : ltb n 10 ≡ false = le-ltb _ _ a in
    let y : ltb n 100 ≡ true = lt-ltb _ _ b in
    let d : n / 10 % 10 ≡ n / 10 = omega arith in
    simp (p, q, r, x, y, d))
    (λ b. ⊎_elim
    (λ k.
    let p : leb 1000 n ≡ false = lt-leb _ _ (omega arith) in
    let q : leb 100 n ≡ true = le-leb _ _ b in
    let r : leb 10 n ≡ true = le-leb _ _ a in
    let x : ltb n 10 ≡ false = le-ltb _ _ a in
    let y : ltb n 100 ≡ false = le-ltb _ _ b in
    let z : ltb n 1000 ≡ true = lt-ltb _ _ k in
    let d : n / 100 % 10 ≡ n / 100 = omega arith in
    simp (p, q, r, x, y, z, d))
    (λ k.
    let p : leb 1000 n ≡ true = le-leb _ _ k in
    let q : leb 100 n ≡ true = le-leb _ _ b in
    let r : leb 10 n ≡ true = le-leb _ _ a in
    let x : ltb n 10 ≡ false = le-ltb _ _ a in
    let y : ltb n 100 ≡ false = le-ltb _ _ b in
    let z : ltb n 1000 ≡ false = le-ltb _ _ k in
    simp (p, q, r, x, y, z))
    (cases_lt n 1000))
    (cases_lt n 100))
    (cases_lt n 10)
