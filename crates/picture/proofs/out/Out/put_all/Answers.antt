use Rattle.std.proofs.lemmas.List.{drop_more, drop_all}
use Rattle.picture.proofs.Tapes.{leads_on, leads_end}
use Rattle.picture.proofs.out.Out.put_all.Goals as goal

pub loop-b-preserved : goal.loop-b-preserved
loop-b-preserved c = leads_on c.loop-b.invariant (drop_more _ _ _ c.loop-b-test.true) c.put.ensures

pub returns : goal.returns
returns c = leads_end c.loop-b.invariant (drop_all _ _ c.loop-b-test.false)
