use Rattle.std.proofs.Common.{◌+◌, ◌-◌, ap, ◌∙◌, arith}
use Rattle.panel.specs.Grids.{index, cell_answer}
use Rattle.panel.specs.Screens.{set_on}
use Rattle.panel.specs.Copies.{in_run}
use Rattle.panel.proofs.Copied.{true_part, cell_put, copied_next, copied_on, copied_none, unread_ahead, unread_behind, run_none, run_last, run_more, tail_run, tail_none, tail_first, tail_more}
use Rattle.panel.proofs.Panel.copy_cells.Goals as goal

pub loop-i-init : goal.loop-i-init
loop-i-init g c =
    let s = g.Self.Panel.shows c.args.self.now in
    let from = c.args.from in
    let to = c.args.to in
    let n = c.args.count in
    let fp = true_part s.grid _ from n c.size-size.ensures c.if-not-has_part.ensures in
    let tp = true_part s.grid _ to n c.size-size.ensures c.if-not-has_part-2.ensures in
    let at = index s.grid to.line to.column in
    copied_none s (g.Self.Panel.sound c.args.self.now) from.line from.column to.line to.column n fp tp (in_run at 0) (run_none at)

pub loop-i-preserved : goal.loop-i-preserved
loop-i-preserved g c =
    let s = g.Self.Panel.shows c.args.self.now in
    let h = g.Self.Panel.sound c.args.self.now in
    let now = g.Self.Panel.shows c.loop-i.self in
    let from = c.args.from in
    let to = c.args.to in
    let n = c.args.count in
    let i = c.loop-i.i in
    let fp = true_part s.grid _ from n c.size-size.ensures c.if-not-has_part.ensures in
    let tp = true_part s.grid _ to n c.size-size.ensures c.if-not-has_part-2.ensures in
    let at = index s.grid to.line to.column in
    let both = copied_on s h from.line from.column to.line to.column n fp tp (in_run at i) i now (omega arith) c.loop-i.invariant in
    copied_next s h from.line from.column to.line to.column n fp tp (in_run at i) (in_run at (i + 1)) i now (g.Self.Panel.shows c.set.new.self) (omega arith)
    (unread_ahead s.grid from.line from.column to.line to.column n i fp tp c.if-to-from.either (omega arith)) (run_last at i) (run_more at i) c.loop-i.invariant
    (cell_put now _ from.line (from.column + i) to.line (to.column + i) c.in-Ok.cell both (c.in-Ok.ensures ∙ ap (λ p. cell_answer now.grid p.line p.column) c.right_by.ensures)
    (c.set.ensures.after ∙ ap (λ p. set_on now p.line p.column c.in-Ok.cell) c.right_by-in-loop-i.ensures))

pub loop-i-else-to-from-init : goal.loop-i-else-to-from-init
loop-i-else-to-from-init g c =
    let s = g.Self.Panel.shows c.args.self.now in
    let from = c.args.from in
    let to = c.args.to in
    let n = c.args.count in
    let fp = true_part s.grid _ from n c.size-size.ensures c.if-not-has_part.ensures in
    let tp = true_part s.grid _ to n c.size-size.ensures c.if-not-has_part-2.ensures in
    let at = index s.grid to.line to.column in
    copied_none s (g.Self.Panel.sound c.args.self.now) from.line from.column to.line to.column n fp tp (tail_run at n n) (tail_none at n)

pub loop-i-else-to-from-preserved : goal.loop-i-else-to-from-preserved
loop-i-else-to-from-preserved g c =
    let s = g.Self.Panel.shows c.args.self.now in
    let h = g.Self.Panel.sound c.args.self.now in
    let now = g.Self.Panel.shows c.loop-i-else-to-from.self in
    let from = c.args.from in
    let to = c.args.to in
    let n = c.args.count in
    let i = c.loop-i-else-to-from.i in
    let fp = true_part s.grid _ from n c.size-size.ensures c.if-not-has_part.ensures in
    let tp = true_part s.grid _ to n c.size-size.ensures c.if-not-has_part-2.ensures in
    let at = index s.grid to.line to.column in
    let both = copied_on s h from.line from.column to.line to.column n fp tp (tail_run at n i) (i - 1) now (omega arith) c.loop-i-else-to-from.invariant in
    copied_next s h from.line from.column to.line to.column n fp tp (tail_run at n i) (tail_run at n (i - 1)) (i - 1) now (g.Self.Panel.shows c.set-in-loop-i-else-to-from.new.self) (omega arith)
    (unread_behind s.grid from.line from.column to.line to.column n i c.if-to-from.false.0 c.if-to-from.false.1 fp.column_low (omega arith))
    (tail_first at n i (omega arith) (omega arith)) (λ j ne. tail_more at n i j (omega arith) (omega arith) ne) c.loop-i-else-to-from.invariant
    (cell_put now _ from.line (from.column + (i - 1)) to.line (to.column + (i - 1)) c.in-Ok-cell.cell both (c.in-Ok-cell.ensures ∙ ap (λ p. cell_answer now.grid p.line p.column) c.right_by-in-loop-i-else-to-from.ensures)
    (c.set-in-loop-i-else-to-from.ensures.after ∙ ap (λ p. set_on now p.line p.column c.in-Ok-cell.cell) c.right_by-in-loop-i-else-to-from-2.ensures))
