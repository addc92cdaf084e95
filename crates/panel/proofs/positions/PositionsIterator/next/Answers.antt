use Rattle.std.proofs.Common.{length, sym, ap, ◌∙◌, ◌∷◌, arith}
use Rattle.panel.specs.Reading.{positions_from}
use Rattle.panel.proofs.Reading.{next_right, next_below}
use Rattle.panel.proofs.positions.PositionsIterator.next.Goals as goal
use Rattle.panel.proofs.positions.PositionsIterator.next.Goals.{then-at-size, else-at-size}

pub returns-clause-steps : goal.returns-clause-steps
returns-clause-steps c =
    let z = c.args.self.now.size in
    let at = c.args.self.now.next in
    elim c.if-at-size.branch [
      | then-at-size w ↦ next_right z at (sym c.if-not-has.ensures) w.if-at-size.true ∙ ap (λ p. at ∷ positions_from z p) (sym (w.self-is ∙ w.right_by-self.ensures))
      | else-at-size w ↦ next_below z at (sym c.if-not-has.ensures) w.if-at-size.false (omega arith) ∙ ap (λ p. at ∷ positions_from z p) (sym w.self-is)
    ]

pub returns-clause-goes : goal.returns-clause-goes
returns-clause-goes c = let n = ap length (returns-clause-steps c) in record { on = λ f. (tt, tt, omega arith); keeps = tt; rests = λ f. tt }
