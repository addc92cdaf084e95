use Rattle.std.proofs.Common.{not, [], ◌∷◌, refl, ap, rules}
use Rattle.std.proofs.lemmas.Bool.{eq-eqb, ne_eqb}
use Rattle.control.specs.Renditions.{rendition_of}
use Rattle.picture.specs.Pictures.{when, sgr}
use Rattle.picture.proofs.Draws.{draws_none, draws_one, draws_as, draws_by}
use Rattle.picture.proofs.Adding.{has_rendition, lacks_rendition}
use Rattle.picture.proofs.cells.put_rendition.Goals as goal
use Rattle.picture.proofs.cells.put_rendition.Goals.{else-number-pen-via-else-number-pen, else-number-pen-via-then-number-pen+in-None-1}

pub returns-in-Some : goal.returns-in-Some
returns-in-Some c =
    draws_by (λ b. when (not b) (sgr (rendition_of c.args.number))) (ne_eqb _ _ c.if-number-pen.true) refl
    (draws_as (draws_one (sgr c.in-Some.rendition) c.put_sgr.ensures) (ap (λ r. sgr r ∷ []) (has_rendition c.args.number c.in-Some.rendition c.requires c.in-Some.ensures.answer)))

pub returns-else-number-pen : goal.returns-else-number-pen
returns-else-number-pen c =
    elim c.else-number-pen.branch [
      | else-number-pen-via-else-number-pen w ↦ draws_by (λ b. when (not b) (sgr (rendition_of c.args.number))) (eq-eqb _ _ w.if-number-pen.false) refl draws_none
      | else-number-pen-via-then-number-pen+in-None-1 w ↦ absurd (lacks_rendition c.args.number c.requires (search rules))
    ]
