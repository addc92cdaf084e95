-- How long written things are at most.
use Rattle.std.proofs.Common.{◌≡◌, ℕ, ◌+◌, ◌-◌, ◌*◌, ◌^◌, ◌<◌, ◌≤◌, Bool, true, false, cond, ltb, leb, List, [], ◌∷◌, ◌++◌, length, Some, None, arith}
use Rattle.std.proofs.lemmas.List.{length-append}
use Rattle.std.proofs.lemmas.Bool.{and_parts, leb-true}
use Rattle.reader.specs.Functions.{Parameter, control, sequence}
use Rattle.picture.specs.Writing.{digits, parameter_bytes, more_bytes, parameters_bytes, space_bytes, written}
use Rattle.picture.specs.Writes.{is_sequence}

record Few (l : List ℕ) : Type 0 where
  at_most : length l ≤ 4

either : (b : Bool) {x y : List ℕ} → Few x → Few y → Few (cond b x y)
either true h k = h
either false h k = k

digits_length : (n : ℕ) → length (digits n) ≤ 4
unfolding digits
digits_length n =
    (either (ltb n 10) (record { at_most = omega arith }) (either (ltb n 100) (record { at_most = omega arith }) (either (ltb n 1000) (record { at_most = omega arith }) (record { at_most = omega arith })))).at_most

parameter_length : (p : Parameter) → length (parameter_bytes p) ≤ 4
parameter_length None = omega arith
parameter_length (Some n) = digits_length n

more_length : (ps : List Parameter) → length (more_bytes ps) ≤ 5 * length ps
more_length [] = omega arith
more_length (p ∷ ps) = let a = parameter_length p in let b = more_length ps in let e = length-append (parameter_bytes p) (more_bytes ps) in omega arith

parameters_length : (ps : List Parameter) → length (parameters_bytes ps) ≤ 5 * length ps
parameters_length [] = omega arith
parameters_length (p ∷ ps) = let a = parameter_length p in let b = more_length ps in let e = length-append (parameter_bytes p) (more_bytes ps) in omega arith

space_length : (b : Bool) → length (space_bytes b) ≤ 1
space_length true = omega arith
space_length false = omega arith

pub sequence_length : (ps : List Parameter) (space : Bool) (f : ℕ) → length (written (sequence ps space f)) ≤ 5 * length ps + 4
unfolding written
sequence_length ps space f =
    let a = parameters_length ps in
    let b = space_length space in
    let e = length-append (parameters_bytes ps) (space_bytes space ++ (f ∷ [])) in
    let g = length-append (space_bytes space) (f ∷ []) in
    omega arith

pub control_small : (b : ℕ) → length (written (control b)) < 2 ^ 64
unfolding written
control_small b = let h = (either (leb 0x80 b) {x = 0x1B ∷ (b - 64) ∷ []} {y = b ∷ []} (record { at_most = omega arith }) (record { at_most = omega arith })).at_most in omega arith

pub sequence_small : (ps : List Parameter) (space : Bool) (f : ℕ) → is_sequence ps f ≡ true → length (written (sequence ps space f)) < 2 ^ 64
sequence_small ps space f h =
    let few : length ps ≤ 16 = leb-true _ _ (and_parts (leb (length ps) 16) _ h).0 in
    let a = sequence_length ps space f in
    omega arith
