use Rattle.std.proofs.Common.{◌≡◌, ◌-◌}
use Rattle.panel.specs.Screens.{wipe_on}
use Rattle.panel.proofs.Runs.{up_to}
use Rattle.panel.proofs.lines.Lines.erase_from.Given as goal

abbrev pub invariant-loop-line : goal.invariant-loop-line
invariant-loop-line g l = g.Self.Lines.seen l.self ≡ wipe_on (g.Self.Lines.seen l.initial.self) l.at (up_to l.columns l.at l.count l.line - l.at)
