use Rattle.std.proofs.Common.{rules}
use Rattle.reader.proofs.Forms.{pattern_one, pattern_two, control_one, control_two}
use Rattle.reader.proofs.cutting.after_control.Goals as goal

pub returns-in-len1-up : goal.returns-in-len1-up
returns-in-len1-up c = control_one _ _ _ _ (pattern_one c.args.bytes.now (search rules)) c.if-first-control.true

pub returns-in-27 : goal.returns-in-27
returns-in-27 c = control_two _ _ _ _ _ (pattern_two c.args.bytes.now (search rules)) (search rules) c.if-second-control.true
