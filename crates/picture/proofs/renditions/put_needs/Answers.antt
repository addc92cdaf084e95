use Rattle.std.proofs.Common.{ap}
use Rattle.std.specs.Option.{option_to_list}
use Rattle.picture.proofs.Adding.{adds_both, adds_as, flag_sets}
use Rattle.picture.proofs.renditions.put_needs.Goals as goal

pub returns : goal.returns
returns c =
    adds_both (adds_as c.put_need.ensures (ap option_to_list c.parameter.ensures.is)) (adds_both (adds_as c.put_need-2.ensures (flag_sets _ _ c.then_some.ensures))
    (adds_both (adds_as c.put_need-3.ensures c.single_needs.ensures) (adds_both (adds_as c.put_need-4.ensures (ap option_to_list c.parameter-2.ensures.is))
    (adds_both (adds_as c.put_need-5.ensures (flag_sets _ _ c.then_some-2.ensures)) (adds_both (adds_as c.put_need-6.ensures (flag_sets _ _ c.then_some-3.ensures))
    (adds_both (adds_as c.put_need-7.ensures (flag_sets _ _ c.then_some-4.ensures)) (adds_both (adds_as c.put_need-8.ensures c.double_needs.ensures)
    (adds_both (adds_as c.put_need-9.ensures (ap option_to_list c.parameter-3.ensures.is)) (adds_as c.put_need-10.ensures (ap option_to_list c.parameter-4.ensures.is))))))))))
