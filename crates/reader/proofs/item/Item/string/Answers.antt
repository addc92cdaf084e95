use Rattle.reader.proofs.Tells.{tells_by_kind, string_is_only}
use Rattle.reader.proofs.item.Item.string.Goals as goal

pub returns-in-String-clause-tells : goal.returns-in-String-clause-tells
returns-in-String-clause-tells c = tells_by_kind _ _ _ c.in-String.is c.string_parts.ensures

pub returns-in-String-clause-only : goal.returns-in-String-clause-only
returns-in-String-clause-only c = string_is_only

pub returns-in_default-clause-only : goal.returns-in_default-clause-only
returns-in_default-clause-only c = string_is_only
