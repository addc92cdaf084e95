-- What one byte does, by what it completes.
use Rattle.std.proofs.Common.{◌≡◌, ℕ, true, List, [], ◌∷◌, sym, refl, ap, ◌∙◌}
use Rattle.std.proofs.lemmas.Bool.{cond-true}
use Rattle.panel.specs.Screens.{Screen}
use Rattle.reader.specs.Bytes.{is_graphic, is_parameter}
use Rattle.reader.specs.Functions.{Parameters, Function, graphic}
use Rattle.reader.specs.Steps.{Standing, Outcome, rest, in_parameters, step, at_rest, ends, to, with_byte}
use Rattle.page.specs.Sheets.{State, upon, reading}
use Rattle.page.specs.Cells.{character}
use Rattle.page.specs.Effects.{does_all, acts, stepped}

-- the reader moved, and the functions done
pub comes_to : (s : State) (v : Screen) (o : Outcome) (fs : List Function) (a : Standing) → a ≡ o.standing → fs ≡ o.performs
    → upon (does_all fs) (record { state = reading a s; screen = v }) ≡ upon (acts o) (record { state = s; screen = v })
comes_to s v o fs a p q = λ i. upon (does_all (q i)) (record { state = reading (p i) s; screen = v })

-- a graphic character at rest
pub character_steps : (s : State) (v : Screen) (b : ℕ) → s.standing ≡ rest → is_graphic b ≡ true
    → upon (character b) (record { state = s; screen = v }) ≡ upon (λ x. stepped x b) (record { state = s; screen = v })
unfolding stepped at_rest
character_steps s v b e t =
    let o : step s.standing b ≡ ends (graphic b) = ap (λ a. step a b) e ∙ cond-true _ _ _ t in
    comes_to s v (step s.standing b) (graphic b ∷ []) s.standing (e ∙ sym (ap (λ z. z.standing) o)) (sym (ap (λ z. z.performs) o))

-- a parameter byte in a sequence
pub parameter_steps : (s : State) (v : Screen) (b : ℕ) (ps : Parameters) → s.standing ≡ in_parameters ps → is_parameter b ≡ true
    → record { state = reading (step s.standing b).standing s; screen = v } ≡ upon (λ x. stepped x b) (record { state = s; screen = v })
unfolding stepped
parameter_steps s v b ps e t =
    let o : step s.standing b ≡ to (in_parameters (with_byte ps b)) = ap (λ a. step a b) e ∙ cond-true _ _ _ t in
    comes_to s v (step s.standing b) [] _ refl (sym (ap (λ z. z.performs) o))
