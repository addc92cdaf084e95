use Rattle.std.proofs.Common.{refl}
use Rattle.reader.proofs.Grammar.{items_perform}
use Rattle.reader.proofs.Walk.{handed}
use Rattle.reader.proofs.cutting.ItemsIterator.next.Goals as goal

pub returns-clause-steps : goal.returns-clause-steps
returns-clause-steps c = (refl, handed _ _ _ _ _ _ c.split_at.ensures.back c.in_ok-kind.ensures refl c.split_at-2.ensures.front refl, items_perform)
