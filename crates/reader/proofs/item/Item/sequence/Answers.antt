use Rattle.reader.proofs.Tells.{sequences_tell, other_kind_tells_none}
use Rattle.reader.proofs.item.Item.sequence.Goals as goal

pub returns-in-Sequence-clause-grammar : goal.returns-in-Sequence-clause-grammar
returns-in-Sequence-clause-grammar c = sequences_tell

pub returns-in_default-clause-grammar : goal.returns-in_default-clause-grammar
returns-in_default-clause-grammar c = sequences_tell

pub returns-in_default-clause-tells : goal.returns-in_default-clause-tells
returns-in_default-clause-tells c = other_kind_tells_none _ _ c.in_default.not-Sequence
