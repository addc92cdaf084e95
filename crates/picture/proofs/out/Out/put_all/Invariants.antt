use Rattle.std.proofs.Common.{drop}
use Rattle.picture.specs.Tape.{tape, Leads}
use Rattle.picture.proofs.out.Out.put_all.Given as goal

abbrev pub invariant-loop-b : goal.invariant-loop-b
invariant-loop-b l = Leads (tape l.self) (drop l.b-index l.bytes) (tape l.initial.self) l.bytes
