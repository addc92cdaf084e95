use Rattle.std.proofs.Common.{sym, ap, ◌∙◌, append-nil}
use Rattle.turns.specs.Turns.{counted, turn}
use Rattle.turns.proofs.Kept.{refused_as}
use Rattle.turns.proofs.running.delivered.Goals as goal

pub returns-in_err-deliver : goal.returns-in_err-deliver
unfolding turn
returns-in_err-deliver g c = λ w. record { says = refused_as _ _ c.from_residual.ensures.1 ∙ ap counted c.in_err-deliver.ensures.says; leaves = c.deliver.ensures.after; adds = sym (append-nil w) }

pub returns : goal.returns
unfolding turn
returns g c = λ w. record { says = ap counted c.in_ok-deliver.ensures.says; leaves = c.deliver.ensures.after; adds = sym (append-nil w) }
