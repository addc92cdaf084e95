-- Parameters laid one after the other, and the renditions of numbers.
use Rattle.std.proofs.Common.{◌≡◌, ℕ, ◌<◌, Bool, true, false, cond, ltb, List, [], ◌∷◌, ◌++◌, map, is_some, Some, None, Option, sym, refl, ap, ◌∙◌}
use Rattle.std.proofs.lemmas.List.{append_assoc, map-append}
use Rattle.std.proofs.lemmas.Bool.{cond-true, lt-ltb, true≢false}
use Rattle.std.specs.Bool.{then_some}
use Rattle.std.specs.Option.{option_to_list}
use Rattle.control.specs.declared.rendition.Rendition.{Rendition}
use Rattle.control.specs.Renditions.{rendition_of}
use Rattle.reader.specs.Functions.{Parameter}
use Rattle.picture.specs.Writing.{parameter_bytes, more_bytes}
use Rattle.picture.specs.Renditions.{sets}
use Rattle.picture.specs.Tape.{Tape}
use Rattle.picture.specs.Draws.{Adds}
use Rattle.picture.proofs.Tapes.{then, being}

more_append : (ps qs : List Parameter) → more_bytes (ps ++ qs) ≡ more_bytes ps ++ more_bytes qs
more_append [] qs = refl
more_append (p ∷ ps) qs = ap (λ r. 0x3B ∷ r) (ap (λ r. parameter_bytes p ++ r) (more_append ps qs) ∙ sym (append_assoc (parameter_bytes p) (more_bytes ps) (more_bytes qs)))

pub adds_both : {t u v : Tape} {ms ns : List ℕ} → Adds t ms u → Adds u ns v → Adds t (ms ++ ns) v
adds_both {t} {u} {v} {ms} {ns} a b = record { lays = being (then a.lays b.lays) (sym (ap more_bytes (map-append Some ms ns) ∙ more_append (map Some ms) (map Some ns))) }

pub adds_as : {t u : Tape} {ms ns : List ℕ} → Adds t ms u → ms ≡ ns → Adds t ns u
adds_as a e = record { lays = being a.lays (ap (λ ns. more_bytes (map Some ns)) e) }

abbrev told : Rendition → Option Rendition → Rendition
told d None = d
told d (Some r) = r

-- a number below 34,992 has its rendition
numbered : (n : ℕ) → n < 34992 → cond (ltb n 34992) (Some (rendition_of n)) None ≡ Some (rendition_of n)
numbered n h = cond-true (ltb n 34992) _ _ (lt-ltb n 34992 h)

pub has_rendition : (n : ℕ) (r : Rendition) → n < 34992 → Some r ≡ cond (ltb n 34992) (Some (rendition_of n)) None → r ≡ rendition_of n
has_rendition n r h e = ap (told r) (e ∙ numbered n h)

pub lacks_rendition : (n : ℕ) → n < 34992 → None ≡ cond (ltb n 34992) (Some (rendition_of n)) None → ⊥
lacks_rendition n h e = true≢false (sym (ap is_some (e ∙ numbered n h)))

-- a parameter that a flag asks for
sets_if : (b : Bool) (n : ℕ) → option_to_list (then_some b n) ≡ sets n b
sets_if true n = refl
sets_if false n = refl

pub flag_sets : (b : Bool) (n : ℕ) {o : Option ℕ} → o ≡ then_some b n → option_to_list o ≡ sets n b
flag_sets b n e = ap option_to_list e ∙ sets_if b n
