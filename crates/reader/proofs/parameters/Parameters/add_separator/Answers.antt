use Rattle.std.proofs.Common.{arith, rules}
use Rattle.reader.proofs.Listed.{separated}
use Rattle.reader.proofs.parameters.Parameters.add_separator.Goals as goal

pub invariant_of-self : goal.invariant_of-self
invariant_of-self c = record { within = omega arith; unused = (separated c.args.self.now.numbers _ _ c.max.ensures (omega arith) (search rules) c.args.self.now.unused).1 }

pub returns : goal.returns
returns c = (separated c.args.self.now.numbers _ _ c.max.ensures (omega arith) (search rules) c.args.self.now.unused).0
