use Rattle.std.proofs.Common.{◌≡◌, true, sym, ap, ◌∙◌, arith}
use Rattle.std.proofs.lemmas.Bool.{cond-true}
use Rattle.panel.specs.Screens.{with_grid}
use Rattle.panel.specs.Rectangles.{inside}
use Rattle.panel.specs.Shifts.{shifted}
use Rattle.panel.proofs.Framed.{inside_fit}
use Rattle.panel.proofs.Shifted.{shifted_none}
use Rattle.panel.proofs.shifting.shift.Goals as goal

pub returns-else-count-gt0-clause-after : goal.returns-else-count-gt0-clause-after
returns-else-count-gt0-clause-after g c =
    let s = g.P.Panel.shows c.args.panel.now in
    let r = c.args.r in
    let t : inside s.grid.lines s.grid.columns r ≡ true = sym (c.if-not-is_inside.ensures ∙ ap (λ z. inside z.lines z.columns r) c.size.ensures) in
    let none : c.args.count ≡ 0 = omega (arith, c.if-count-gt0.false) in
    ap (with_grid s) (shifted_none s.grid r c.args.direction (g.P.Panel.sound c.args.panel.now) (inside_fit _ _ r t) ∙ ap (λ n. shifted r c.args.direction n s.grid) (sym none) ∙ sym (cond-true _ _ _ t))
