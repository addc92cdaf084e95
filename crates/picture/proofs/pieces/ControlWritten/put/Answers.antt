use Rattle.std.proofs.Common.{sym}
use Rattle.std.proofs.lemmas.Bool.{cond-true, cond-false, le-leb, lt-leb}
use Rattle.picture.specs.Writing.{written}
use Rattle.picture.proofs.Tapes.{then, being}
use Rattle.picture.proofs.pieces.ControlWritten.put.Goals as goal

pub returns-then-self-ge128 : goal.returns-then-self-ge128
unfolding written
returns-then-self-ge128 c = being (then c.put.ensures c.put-then-self-ge128.ensures) (sym (cond-true _ _ _ (le-leb 128 _ c.if-self-ge128.true)))

pub returns-else-self-ge128 : goal.returns-else-self-ge128
unfolding written
returns-else-self-ge128 c = being c.put-else-self-ge128.ensures (sym (cond-false _ _ _ (lt-leb 128 _ c.if-self-ge128.false)))
