use Rattle.reader.proofs.Forms.{escape_ends}
use Rattle.reader.proofs.cutting.escape.Goals as goal

pub returns : goal.returns
returns c = rw (c.ended.ensures.kind, c.ended.ensures.after) (escape_ends _ _ _ c.run.ensures.whole c.run.ensures.all c.requires c.run.ensures.stops)
