use Rattle.std.proofs.Common.{false, take, ap, ◌∙◌, arith}
use Rattle.std.proofs.lemmas.List.{take-replicate}
use Rattle.page.specs.Sheets.{state_of, with_stops}
use Rattle.page.proofs.state.State.clear_columns.Goals as goal

pub returns : goal.returns
returns c =
    let p = c.args.self.now in
    let n = p.size.columns in
    ap (λ t. with_stops t (state_of p).line_stops (state_of p)) (ap (take n) c.none-self.ensures ∙ take-replicate n 132 false (omega arith))
