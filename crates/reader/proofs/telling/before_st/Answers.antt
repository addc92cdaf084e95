use Rattle.std.proofs.Common.{rules}
use Rattle.reader.proofs.Tells.{closed_one}
use Rattle.reader.proofs.telling.before_st.Goals as goal

pub returns-in-156 : goal.returns-in-156
returns-in-156 c = closed_one c.args.bytes.now (search rules) (search rules)
