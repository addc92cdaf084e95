use Rattle.std.proofs.Common.{◌≡◌, Some, length, drop, sym, ap, ◌∙◌, subst}
use Rattle.std.specs.Option.{option_map}
use Rattle.panel.specs.Grids.{size_of}
use Rattle.panel.specs.Reading.{positions_left, positions_of}
use Rattle.picture.specs.Pens.{position_of}
use Rattle.picture.specs.Pictures.{foreign, first_foreign}
use Rattle.picture.proofs.Placing.{came, all_came, one_more}
use Rattle.picture.proofs.Foreigners.{foreign_here, foreign_on, foreign_none}
use Rattle.picture.proofs.foreign.find_foreign.Goals as goal

pub cell_on-requires : goal.cell_on-requires
cell_on-requires g c =
    let s = (g.P.Panel.shows c.args.panel.now).grid in
    (came s (g.P.Panel.sound c.args.panel.now) c.loop-at.at-iterator (length c.loop-at.yielded) c.loop-at.invariant.0 _ c.next.new.self c.in-Some.ensures.steps).lies

pub returns-then-is_foreign : goal.returns-then-is_foreign
returns-then-is_foreign g c =
    let s = (g.P.Panel.shows c.args.panel.now).grid in
    let k = length c.loop-at.yielded in
    let m = came s (g.P.Panel.sound c.args.panel.now) c.loop-at.at-iterator k c.loop-at.invariant.0 _ c.next.new.self c.in-Some.ensures.steps in
    let f = ap foreign (sym (c.cell_on.ensures ∙ m.cell)) ∙ sym c.if-is_foreign.ensures in
    ap Some m.is ∙ ap (option_map (position_of s)) (sym (foreign_here s.cells k m.low f) ∙ c.loop-at.invariant.1)

pub loop-at-preserved : goal.loop-at-preserved
loop-at-preserved g c =
    let s = (g.P.Panel.shows c.args.panel.now).grid in
    let k = length c.loop-at.yielded in
    let m = came s (g.P.Panel.sound c.args.panel.now) c.loop-at.at-iterator k c.loop-at.invariant.0 _ c.next.new.self c.in-Some.ensures.steps in
    let f = ap foreign (sym (c.cell_on.ensures ∙ m.cell)) ∙ sym c.if-is_foreign.ensures in
    subst
    (λ n. (positions_left c.next.new.self ≡ drop n (positions_of (size_of s))) × (first_foreign n (drop n s.cells) ≡ first_foreign 0 s.cells))
    (sym (one_more c.loop-at.yielded c.in-Some.at))
    (m.left, sym (foreign_on s.cells k m.low f) ∙ c.loop-at.invariant.1)

pub returns : goal.returns
returns g c =
    let s = (g.P.Panel.shows c.args.panel.now).grid in
    let k = length c.loop-at.yielded in
    let all = all_came s (g.P.Panel.sound c.args.panel.now) c.loop-at.at-iterator k c.loop-at.invariant.0 c.in-None.ensures.steps.0 in
    ap (option_map (position_of s)) (sym (foreign_none s.cells k all) ∙ c.loop-at.invariant.1)
