use Rattle.std.proofs.Common.{subst, arith, rules}
use Rattle.picture.specs.Tape.{Lays, tape}
use Rattle.picture.proofs.Tapes.{loan_kept, bytes_at_front}
use Rattle.picture.proofs.front.lay.Goals as goal

pub returns : goal.returns
returns g c =
    let l = subst (λ t. Lays t (g.W.Written.bytes c.args.what.now) (tape c.put.new.out)) c.new-out.ensures c.put.ensures in
    let kept = loan_kept l in
    let front = bytes_at_front l (omega (arith, c.requires)) c.requires in
    search rules
