use Rattle.std.proofs.Common.{◌<◌, ap, ◌∙◌, arith}
use Rattle.panel.specs.Screens.{wipe_on}
use Rattle.panel.proofs.Runs.{turn, turn_last, turn_some, turn_in_line, turn_next}
use Rattle.panel.proofs.lines.Lines.erase_from.Goals as goal

pub overflow_mul-line : goal.overflow_mul-line
overflow_mul-line g c =
    let s = g.Self.Lines.seen c.args.self.now in
    let h = g.Self.Lines.seen_sound c.args.self.now in
    let w = c.columns-columns.ensures in
    let some : 0 < c.args.count = omega arith in
    let q = turn s h c.args.at c.args.count some c.requires _ w c.loop-line.line _ c.div_ceil-line-end.ensures (omega arith) (omega arith) in
    let n = q.next in omega arith

pub overflow_mul-line-in-loop-line : goal.overflow_mul-line-in-loop-line
overflow_mul-line-in-loop-line g c =
    let s = g.Self.Lines.seen c.args.self.now in
    let h = g.Self.Lines.seen_sound c.args.self.now in
    let w = c.columns-columns.ensures in
    let some : 0 < c.args.count = omega arith in
    let q = turn s h c.args.at c.args.count some c.requires _ w c.loop-line.line _ c.div_ceil-line-end.ensures (omega arith) (omega arith) in
    let n = q.next in omega arith

pub overflow_sub-to : goal.overflow_sub-to
overflow_sub-to g c =
    let s = g.Self.Lines.seen c.args.self.now in
    let h = g.Self.Lines.seen_sound c.args.self.now in
    let w = c.columns-columns.ensures in
    let some : 0 < c.args.count = omega arith in
    let q = turn s h c.args.at c.args.count some c.requires _ w c.loop-line.line _ c.div_ceil-line-end.ensures (omega arith) (omega arith) in
    let t = turn_some s h c.args.at c.args.count some c.requires _ w c.loop-line.line q _ _ c.max-from.ensures c.min-to.ensures in omega arith

pub erase_in_line-requires : goal.erase_in_line-requires
erase_in_line-requires g c =
    let s = g.Self.Lines.seen c.args.self.now in
    let h = g.Self.Lines.seen_sound c.args.self.now in
    let w = c.columns-columns.ensures in
    let some : 0 < c.args.count = omega arith in
    let q = turn s h c.args.at c.args.count some c.requires _ w c.loop-line.line _ c.div_ceil-line-end.ensures (omega arith) (omega arith) in
    turn_in_line s h c.args.at c.args.count some c.requires _ w c.loop-line.line q _ _ c.max-from.ensures c.min-to.ensures _ _ c.loop-line.invariant

pub loop-line-preserved : goal.loop-line-preserved
loop-line-preserved g c =
    let s = g.Self.Lines.seen c.args.self.now in
    let h = g.Self.Lines.seen_sound c.args.self.now in
    let w = c.columns-columns.ensures in
    let some : 0 < c.args.count = omega arith in
    let q = turn s h c.args.at c.args.count some c.requires _ w c.loop-line.line _ c.div_ceil-line-end.ensures (omega arith) (omega arith) in
    turn_next s h c.args.at c.args.count some c.requires _ w c.loop-line.line q _ _ c.max-from.ensures c.min-to.ensures _ _ c.loop-line.invariant c.erase_in_line.ensures

pub returns : goal.returns
returns g c =
    let s = g.Self.Lines.seen c.args.self.now in
    let h = g.Self.Lines.seen_sound c.args.self.now in
    let w = c.columns-columns.ensures in
    let some : 0 < c.args.count = omega arith in
    c.loop-line.invariant ∙ ap (wipe_on s c.args.at) (turn_last s h c.args.at c.args.count some c.requires _ w c.loop-line.line _ c.div_ceil-line-end.ensures (omega arith))
