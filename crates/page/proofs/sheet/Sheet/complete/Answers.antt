use Rattle.std.proofs.Common.{sym, refl, ap, ◌∙◌}
use Rattle.std.specs.Option.{option_map, option_to_list}
use Rattle.reader.specs.Meaning.{function_of}
use Rattle.page.specs.Sheets.{state_of, upon}
use Rattle.page.specs.Effects.{does, stepped}
use Rattle.page.proofs.Steps.{comes_to}
use Rattle.page.proofs.sheet.Sheet.complete.Goals as goal

pub returns-in-Some : goal.returns-in-Some
unfolding stepped
returns-in-Some g c =
    let x = c.args.self.now in (
      c.perform.ensures.0
          ∙ ap (λ s. upon (does (function_of c.in-Some.function)) (record { state = s; screen = g.P.Panel.shows x.panel })) c.read.ensures.reads
          ∙ comes_to (state_of x.state.now) _ _ _ _ refl (sym (ap (λ o. option_to_list (option_map function_of o)) c.in-Some.is) ∙ c.read.ensures.completes),
      c.perform.ensures.1,
    )

pub returns-in_default : goal.returns-in_default
unfolding stepped
returns-in_default g c =
    let x = c.args.self.now in (
      ap (λ s. record { state = s; screen = g.P.Panel.shows x.panel }) c.read.ensures.reads
          ∙ comes_to (state_of x.state.now) _ _ _ _ refl (sym (ap (λ o. option_to_list (option_map function_of o)) c.in_default.is) ∙ c.read.ensures.completes),
      refl,
    )
