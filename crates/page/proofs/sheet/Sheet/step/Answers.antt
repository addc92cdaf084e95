use Rattle.std.proofs.Common.{◌≡◌, true, sym, refl, ap, ◌∙◌, arith}
use Rattle.std.proofs.lemmas.Bool.Decides.{nat_tests}
use Rattle.reader.specs.Bytes.{is_graphic, is_parameter}
use Rattle.reader.specs.Meaning.{standing_of}
use Rattle.page.specs.Sheets.{state_of}
use Rattle.page.proofs.Steps.{character_steps, parameter_steps}
use Rattle.page.proofs.sheet.Sheet.step.Goals as goal

pub returns-in-Rest-32-to-126 : goal.returns-in-Rest-32-to-126
returns-in-Rest-32-to-126 g c =
    let x = c.args.self.now in
    let t : is_graphic c.args.byte ≡ true = grind (arith, nat_tests) in
    (c.character.ensures.0 ∙ character_steps (state_of x.state.now) (g.P.Panel.shows x.panel) c.args.byte (ap standing_of (sym c.standing.ensures ∙ c.in-Rest-32-to-126.is-0)) t, c.character.ensures.1)

pub returns-in-Sequence-48-to-63 : goal.returns-in-Sequence-48-to-63
returns-in-Sequence-48-to-63 g c =
    let x = c.args.self.now in
    let t : is_parameter c.args.byte ≡ true = grind (arith, nat_tests) in (
      ap (λ s. record { state = s; screen = g.P.Panel.shows x.panel }) c.pass.ensures
          ∙ parameter_steps (state_of x.state.now) (g.P.Panel.shows x.panel) c.args.byte _ (ap standing_of (sym c.standing.ensures ∙ c.in-Sequence-48-to-63.is-0)) t,
      refl,
    )
