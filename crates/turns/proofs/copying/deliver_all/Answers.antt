use Rattle.std.proofs.Common.{◌∙◌, arith}
use Rattle.turns.proofs.Quiet.{sent, sent_none}
use Rattle.turns.proofs.copying.deliver_all.Goals as goal

pub loop-piece-preserved : goal.loop-piece-preserved
loop-piece-preserved g c =
    let now = c.loop-piece.invariant in
    let next = c.in-Some.ensures.steps in
    record {
      can = omega (arith, now.size, next.0);
      finite = tt;
      size = next.0 ∙ now.size;
      sending = sent now.sending c.in-Some.piece.now _ _ next.1.0 (omega (arith, now.size, next.1.1)) c.deliver.ensures.after;
    }

pub returns : goal.returns
returns g c = sent_none _ c.loop-piece.invariant.sending c.in-None.ensures.steps.1.0
