use Rattle.std.proofs.Common.{◌+◌, Bool, cond, [], refl, rules, arith}
use Rattle.std.proofs.lemmas.List.{length_push}
use Rattle.std.proofs.lemmas.Iterator.Consumers.{YieldsList-turn, YieldsList-end}
use Rattle.picture.specs.Pens.{stop_at}
use Rattle.picture.proofs.Draws.{draws_none, draws_by, leaves_end}
use Rattle.picture.proofs.Stopping.{zipped, comes, turn, none_left}
use Rattle.picture.proofs.stops.put_stops.Goals as goal

pub overflow_add-i : goal.overflow_add-i
overflow_add-i c =
    let all = zipped c.zip-i-items.result c.args.count c.args.flags.now c.into_iter-i-iterator.ensures.into_iter_gives c.zip-i-items.ensures.first c.zip-i-items.ensures.second.0 in
    let h = comes _ _ _ c.in-Some.i c.in-Some.flag.now (YieldsList-turn all c.loop-i.yielded c.loop-i.i-iterator c.loop-i.yielded_by c.next.result c.next.new.self (c.in-Some.i, c.in-Some.flag) c.in-Some.is c.next.ensures.steps) in
    omega (arith, h.below, h.index)

pub loop-i-preserved-then-flag : goal.loop-i-preserved-then-flag
loop-i-preserved-then-flag c =
    let all = zipped c.zip-i-items.result c.args.count c.args.flags.now c.into_iter-i-iterator.ensures.into_iter_gives c.zip-i-items.ensures.first c.zip-i-items.ensures.second.0 in
    let h = comes _ _ _ c.in-Some.i c.in-Some.flag.now (YieldsList-turn all c.loop-i.yielded c.loop-i.i-iterator c.loop-i.yielded_by c.next.result c.next.new.self (c.in-Some.i, c.in-Some.flag) c.in-Some.is c.next.ensures.steps) in
    let d = draws_by (λ (b : Bool). cond b (stop_at c.args.along (c.in-Some.i + 1)) []) c.if-flag.true refl c.put_stop.ensures in
    record { can = search rules; finite = search rules; left = turn c.args.along _ (length_push c.loop-i.yielded (c.in-Some.i, c.in-Some.flag)) h c.loop-i.invariant.left d }

pub loop-i-preserved : goal.loop-i-preserved
loop-i-preserved c =
    let all = zipped c.zip-i-items.result c.args.count c.args.flags.now c.into_iter-i-iterator.ensures.into_iter_gives c.zip-i-items.ensures.first c.zip-i-items.ensures.second.0 in
    let h = comes _ _ _ c.in-Some.i c.in-Some.flag.now (YieldsList-turn all c.loop-i.yielded c.loop-i.i-iterator c.loop-i.yielded_by c.next.result c.next.new.self (c.in-Some.i, c.in-Some.flag) c.in-Some.is c.next.ensures.steps) in
    let d = draws_by (λ (b : Bool). cond b (stop_at c.args.along (c.in-Some.i + 1)) []) c.if-flag.false refl draws_none in
    record { can = search rules; finite = search rules; left = turn c.args.along _ (length_push c.loop-i.yielded (c.in-Some.i, c.in-Some.flag)) h c.loop-i.invariant.left d }

pub returns : goal.returns
returns c =
    let all = zipped c.zip-i-items.result c.args.count c.args.flags.now c.into_iter-i-iterator.ensures.into_iter_gives c.zip-i-items.ensures.first c.zip-i-items.ensures.second.0 in
    let t = YieldsList-end all c.loop-i.yielded c.loop-i.i-iterator c.loop-i.yielded_by c.next.result c.next.new.self c.in-None.is c.next.ensures.steps in
    leaves_end c.loop-i.invariant.left (none_left c.args.along c.args.count c.args.flags.now _ t.1)
