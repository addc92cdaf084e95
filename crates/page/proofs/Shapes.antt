-- A byte completes nothing, or one function and leaves the reader at rest.
use Rattle.std.proofs.Common.{◌≡◌, ℕ, ◌+◌, Bool, true, false, cond, ◌&&◌, ◌||◌, eqb, [], Some, None, refl}
use Rattle.std.proofs.lemmas.Bool.{cond_both}
use Rattle.reader.specs.Bytes.{among, is_graphic, is_opener, is_body, is_intermediate, is_parameter, ends_escape, ends_sequence}
use Rattle.reader.specs.Functions.{Function, Parameters, graphic, control, reset, sequence}
use Rattle.reader.specs.Steps.{Standing, Outcome, to, ends, at_rest, escape_final, sequence_final, step, rest, escape, in_parameters, in_intermediates, in_string, in_sos, with_byte}

-- what the reader hands out as a graphic character is one
abbrev pub Read : Function → Type 0
Read (graphic b) = is_graphic b ≡ true
Read (control b) = Unit {0}
Read reset = Unit {0}
Read (sequence ps space f) = Unit {0}

pub data Shape (o : Outcome) : Type 0 where
  quiet : (s : Standing) → o ≡ to s → Shape o
  whole : (f : Function) → Read f → o ≡ ends f → Shape o

leads : (s : Standing) → Shape (to s)
leads s = quiet s refl

completes : (f : Function) → Read f → Shape (ends f)
completes f d = whole f d refl

either : (b : Bool) (o q : Outcome) → Shape o → Shape q → Shape (cond b o q)
either true o q x y = x
either false o q x y = y

rest_shape : (b : ℕ) → Shape (at_rest b)
unfolding at_rest
rest_shape b =
    cond_both (is_graphic b) _ _ Shape (λ e. completes (graphic b) e)
    (λ _. either (eqb b 0x7F || eqb b 0x9C) _ _ (leads rest)
    (either (eqb b 0x1B) _ _ (leads (escape false))
    (either (eqb b 0x9B) _ _ (leads (in_parameters (Some [])))
    (either (is_opener b) _ _ (leads in_string)
    (either (eqb b 0x98) _ _ (leads (in_sos false)) (completes (control b) tt))))))

escape_shape : (between : Bool) (b : ℕ) → Shape (escape_final between b)
escape_shape true b = leads rest
escape_shape false b = either (among 0x40 0x5F b) _ _ (rest_shape (b + 64)) (either (eqb b 0x63) _ _ (completes reset tt) (leads rest))

sequence_shape : (ps : Parameters) (space : Bool) (b : ℕ) → Shape (sequence_final ps space b)
sequence_shape None space b = leads rest
sequence_shape (Some ps) space b = completes (sequence ps space b) tt

pub step_shape : (s : Standing) (b : ℕ) → Shape (step s b)
step_shape rest b = rest_shape b
step_shape (escape between) b = either (is_intermediate b) _ _ (leads (escape true)) (either (ends_escape b) _ _ (escape_shape between b) (rest_shape b))
step_shape (in_parameters ps) b =
    either (is_parameter b) _ _ (leads (in_parameters (with_byte ps b)))
    (either (is_intermediate b) _ _ (leads (in_intermediates (cond (eqb b 0x20) ps None)))
    (either (ends_sequence b) _ _ (sequence_shape ps false b) (rest_shape b)))
step_shape (in_intermediates ps) b =
    either (is_intermediate b) _ _ (leads (in_intermediates None)) (either (ends_sequence b) _ _ (sequence_shape ps true b) (rest_shape b))
step_shape in_string b = either (is_body b) _ _ (leads in_string) (rest_shape b)
step_shape (in_sos escaped) b = either (eqb b 0x9C || (escaped && eqb b 0x5C)) _ _ (leads rest) (leads (in_sos (eqb b 0x1B)))
