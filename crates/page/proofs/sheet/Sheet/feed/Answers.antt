use Rattle.std.proofs.Common.{sym, refl, ◌∙◌}
use Rattle.page.proofs.Deliveries.{going_none, going_more, going_stop, going_all}
use Rattle.page.proofs.sheet.Sheet.feed.Goals as goal

pub loop-i-init : goal.loop-i-init
loop-i-init g c = (going_none _ c.args.bytes.now c.requires, refl)

pub returns-then-is_owing : goal.returns-then-is_owing
returns-then-is_owing g c =
    let s = going_stop c.loop-i.invariant.0 c.loop-i-test.true _ refl _ c.step.ensures.0 (sym c.if-is_owing.ensures) in
    record { count = s.1; after = (s.0, c.step.ensures.1 ∙ c.loop-i.invariant.1) }

pub loop-i-preserved : goal.loop-i-preserved
loop-i-preserved g c = (going_more c.loop-i.invariant.0 c.loop-i-test.true _ refl _ c.step.ensures.0 (sym c.if-is_owing.ensures), c.step.ensures.1 ∙ c.loop-i.invariant.1)

pub returns : goal.returns
returns g c =
    let s = going_all c.loop-i.invariant.0 c.loop-i-test.false c.loop-i.auto.i-end in
    record { count = s.1; after = (s.0, c.loop-i.invariant.1) }
