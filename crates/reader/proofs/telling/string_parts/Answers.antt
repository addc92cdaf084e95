use Rattle.reader.proofs.Tells.{unopened_parts, unclosed_parts}
use Rattle.reader.proofs.telling.string_parts.Goals as goal

pub returns-in_err-opener : goal.returns-in_err-opener
returns-in_err-opener c = rw c.from_residual.ensures (unopened_parts _ c.in_err-opener.ensures)

pub returns-in_err-body : goal.returns-in_err-body
returns-in_err-body c = rw c.from_residual-in_err-body.ensures (unclosed_parts _ _ _ c.in_ok-opener.ensures c.in_err-body.ensures)
