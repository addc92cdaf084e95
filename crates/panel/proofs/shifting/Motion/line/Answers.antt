use Rattle.std.proofs.Common.{◌≡◌, ◌+◌, ◌-◌, sym, ap, ◌∙◌, arith}
use Rattle.panel.specs.Grids.{index, with_cells, wiped}
use Rattle.panel.specs.Screens.{with_grid, wipe_on}
use Rattle.panel.specs.Copies.{copied}
use Rattle.panel.specs.Shifts.{line_shifted}
use Rattle.panel.proofs.Shifted.{up_moved, up_cleared, down_moved, down_cleared, left_moved, left_cleared, right_moved, right_cleared}
use Rattle.panel.proofs.shifting.Motion.line.Goals as goal
use Rattle.panel.proofs.shifting.Motion.line.Goals.{in_default-via-in-Up+else-count-r, in_default-via-in-Down+else-count-line, in_default-via-in-Left+else-count-r-2, in_default-via-in-Right+else-count-r-3}

pub returns-in-Up : goal.returns-in-Up
returns-in-Up g c =
    let s = g.P.Panel.shows c.args.panel.now in
    let h = g.P.Panel.sound c.args.panel.now in
    let l = c.requires in
    let r = c.args.self.part in
    let n = c.args.self.count in
    let line = c.args.line in
    let from = l.from in
    let to = l.to in
    c.copy_part.ensures ∙ ap (with_grid s) (up_moved s.grid h r n line l (omega arith)) ∙ ap (λ d. with_grid s (line_shifted r d n line s.grid)) (sym c.in-Up.is)

pub returns-in-Down : goal.returns-in-Down
returns-in-Down g c =
    let s = g.P.Panel.shows c.args.panel.now in
    let h = g.P.Panel.sound c.args.panel.now in
    let l = c.requires in
    let r = c.args.self.part in
    let n = c.args.self.count in
    let line = c.args.line in
    let from = l.from in
    let to = l.to in
    c.copy_part-in-Down.ensures ∙ ap (with_grid s) (down_moved s.grid h r n line l (omega arith)) ∙ ap (λ d. with_grid s (line_shifted r d n line s.grid)) (sym c.in-Down.is)

pub returns-in-Left : goal.returns-in-Left
returns-in-Left g c =
    let s = g.P.Panel.shows c.args.panel.now in
    let h = g.P.Panel.sound c.args.panel.now in
    let l = c.requires in
    let r = c.args.self.part in
    let n = c.args.self.count in
    let line = c.args.line in
    let from = l.from in
    let to = l.to in
    let t = g.P.Panel.shows c.copy_part-in-Left.new.panel in
    let at = index s.grid line r.left in
    let rest = r.columns - n in
    c.erase_part.ensures
    ∙ ap (λ p. wipe_on t (index t.grid p.line p.column) n) c.right_by-in-Left.ensures
    ∙ ap (λ z. wipe_on z (index z.grid line (r.left + rest)) n) c.copy_part-in-Left.ensures
    ∙ ap (λ p. wipe_on (with_grid s (copied (index s.grid p.line p.column) at rest s.grid)) (index s.grid line (r.left + rest)) n) c.right_by.ensures
    ∙ ap (with_grid s) (left_moved s.grid h r n line l (omega arith)) ∙ ap (λ d. with_grid s (line_shifted r d n line s.grid)) (sym c.in-Left.is)

pub returns-in-Right : goal.returns-in-Right
returns-in-Right g c =
    let s = g.P.Panel.shows c.args.panel.now in
    let h = g.P.Panel.sound c.args.panel.now in
    let l = c.requires in
    let r = c.args.self.part in
    let n = c.args.self.count in
    let line = c.args.line in
    let from = l.from in
    let to = l.to in
    let at = index s.grid line r.left in
    c.erase_part-in-Right.ensures
    ∙ ap (λ z. wipe_on z (index z.grid line r.left) n) c.copy_part-in-Right.ensures
    ∙ ap (λ p. wipe_on (with_grid s (copied at (index s.grid p.line p.column) (r.columns - n) s.grid)) at n) c.right_by-in-Right.ensures
    ∙ ap (with_grid s) (right_moved s.grid h r n line l (omega arith)) ∙ ap (λ d. with_grid s (line_shifted r d n line s.grid)) (sym c.in-Right.is)

pub returns-in_default : goal.returns-in_default
returns-in_default g c =
    let s = g.P.Panel.shows c.args.panel.now in
    let h = g.P.Panel.sound c.args.panel.now in
    let l = c.requires in
    let r = c.args.self.part in
    let n = c.args.self.count in
    let line = c.args.line in
    let from = l.from in
    let to = l.to in
    let none : with_cells s.grid (wiped s.grid.cells (index s.grid line r.left) r.columns) ≡ line_shifted r c.args.self.direction n line s.grid =
    elim c.in_default.branch [
      | in_default-via-in-Up+else-count-r w ↦ up_cleared s.grid h r n line l (let q = w.if-count-r.false in omega arith) ∙ ap (λ d. line_shifted r d n line s.grid) (sym w.in-Up.is)
      | in_default-via-in-Down+else-count-line w ↦ down_cleared s.grid h r n line l (let q = w.if-count-line.false in omega arith) ∙ ap (λ d. line_shifted r d n line s.grid) (sym w.in-Down.is)
      | in_default-via-in-Left+else-count-r-2 w ↦ left_cleared s.grid h r n line l (let q = w.if-count-r-2.false in omega arith) ∙ ap (λ d. line_shifted r d n line s.grid) (sym w.in-Left.is)
      | in_default-via-in-Right+else-count-r-3 w ↦ right_cleared s.grid h r n line l (let q = w.if-count-r-3.false in omega arith) ∙ ap (λ d. line_shifted r d n line s.grid) (sym w.in-Right.is)
    ] in
    c.erase_part-in_default.ensures ∙ ap (with_grid s) none
