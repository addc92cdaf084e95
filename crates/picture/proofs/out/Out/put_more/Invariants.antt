use Rattle.std.proofs.Common.{drop}
use Rattle.picture.specs.Writing.{more_bytes}
use Rattle.picture.specs.Tape.{tape, Leads}
use Rattle.picture.proofs.out.Out.put_more.Given as goal

abbrev pub invariant-loop-p : goal.invariant-loop-p
invariant-loop-p l = Leads (tape l.self) (more_bytes (drop l.p-index l.parameters)) (tape l.initial.self) (more_bytes l.parameters)
