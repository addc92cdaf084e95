use Rattle.reader.proofs.Forms.{sequence_ends}
use Rattle.reader.proofs.cutting.sequence.Goals as goal

pub returns : goal.returns
returns c =
    rw (c.ended.ensures.kind, c.ended.ensures.after)
    (sequence_ends _ _ _ _ _ c.run.ensures.whole c.run-2.ensures.whole c.run.ensures.all c.run-2.ensures.all c.run.ensures.stops c.run-2.ensures.stops)
