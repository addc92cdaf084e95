use Rattle.std.proofs.Common.{ap, ◌∙◌}
use Rattle.panel.specs.Copies.{copy_on}
use Rattle.panel.specs.Moduled.{module_shows}
use Rattle.panel.proofs.module.ModulePanelPanel.copy.Goals as goal

pub returns-clause-after : goal.returns-clause-after
returns-clause-after c = c.copy_cells-answer.ensures.after ∙ ap (λ p. copy_on (module_shows p) c.args.from c.args.to c.args.count) c.take-panel.ensures.value
