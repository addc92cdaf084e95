use Rattle.std.proofs.Common.{◌-◌, leb, sym, ap, ◌∙◌, arith}
use Rattle.std.specs.Bool.{then_some}
use Rattle.panel.proofs.Places.{run_found, found_low}
use Rattle.panel.proofs.size.Size.find_run.Goals as goal

pub overflow_sub-cells : goal.overflow_sub-cells
overflow_sub-cells c =
    let l = found_low c.args.self c.args.from.line c.args.from.column c.in_ok-k.k (sym c.in_ok-k.was ∙ c.find.ensures) in omega (arith, c.cells.ensures)

pub returns : goal.returns
returns c =
    let k = c.in_ok-k.k in
    c.then_some.ensures ∙ ap (λ n. then_some (leb c.args.count (n - k)) k) c.cells.ensures
    ∙ run_found c.args.self c.args.from.line c.args.from.column c.args.count k (sym c.in_ok-k.was ∙ c.find.ensures)
