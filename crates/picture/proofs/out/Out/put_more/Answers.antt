use Rattle.std.proofs.Common.{ap}
use Rattle.std.proofs.lemmas.List.{drop_more, drop_all}
use Rattle.picture.specs.Writing.{more_bytes}
use Rattle.picture.proofs.Tapes.{leads_on, leads_end, then}
use Rattle.picture.proofs.out.Out.put_more.Goals as goal

pub loop-p-preserved : goal.loop-p-preserved
loop-p-preserved c = leads_on c.loop-p.invariant (ap more_bytes (drop_more _ _ _ c.loop-p-test.true)) (then c.put.ensures c.put_parameter.ensures)

pub returns : goal.returns
returns c = leads_end c.loop-p.invariant (ap more_bytes (drop_all _ _ c.loop-p-test.false))
