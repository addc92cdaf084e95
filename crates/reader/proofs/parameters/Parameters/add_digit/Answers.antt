use Rattle.std.proofs.Common.{rules}
use Rattle.reader.proofs.Listed.{digit_last}
use Rattle.reader.proofs.parameters.Parameters.add_digit.Goals as goal

pub returns : goal.returns
returns c = rw c.grown.ensures (digit_last c.args.self.now.numbers c.args.self.now.count _ c.args.digit c.max-self.ensures c.args.self.now.within (search rules) c.args.self.now.unused)
