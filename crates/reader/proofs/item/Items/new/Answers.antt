use Rattle.reader.proofs.Grammar.{items_perform}
use Rattle.reader.proofs.item.Items.new.Goals as goal

pub returns-clause-performs : goal.returns-clause-performs
returns-clause-performs c = items_perform
