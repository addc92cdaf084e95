use Rattle.std.proofs.Common.{length}
use Rattle.reader.proofs.Forms.{Sofar}
use Rattle.reader.proofs.cutting.sos.Given as goal

abbrev pub invariant-loop-tail : goal.invariant-loop-tail
invariant-loop-tail l = Sofar l.rest l.tail

abbrev pub decreases-loop-tail : goal.decreases-loop-tail
decreases-loop-tail l = length l.tail
