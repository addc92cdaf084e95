use Rattle.std.proofs.Common.{sym, refl, rules}
use Rattle.reader.proofs.Forms.{front_two, pattern_one}
use Rattle.reader.proofs.Tells.{opened_one, opened_two}
use Rattle.reader.proofs.telling.after_opener.Goals as goal

pub returns-in-27 : goal.returns-in-27
returns-in-27 c = opened_two c.args.bytes.now _ _ _ (front_two c.args.bytes.now 27 _ (search rules) (search rules) refl) c.saturating_add-in-27.ensures (search rules)

pub returns-in-len1-up : goal.returns-in-len1-up
returns-in-len1-up c = opened_one c.args.bytes.now _ _ (pattern_one c.args.bytes.now (search rules)) (sym c.if-opens_string-2.ensures)
