use Rattle.std.proofs.Common.{ap}
use Rattle.picture.specs.Writing.{space_bytes, written}
use Rattle.picture.specs.Tape.{Lays, tape}
use Rattle.picture.proofs.Tapes.{lays_none, lays_by, then}
use Rattle.picture.proofs.out.Out.put_sequence.Goals as goal
use Rattle.picture.proofs.out.Out.put_sequence.Goals.{then-space, else-space}

pub returns : goal.returns
unfolding written
returns c =
    let spaced : Lays (tape c.put_parameters.new.self) (space_bytes c.args.space) (tape c.if-space.self) =
    elim c.if-space.branch [
      | then-space b ↦ lays_by space_bytes b.if-space.true (ap tape b.self-is) b.put-then-space.ensures
      | else-space b ↦ lays_by space_bytes b.if-space.false (ap tape b.self-is) lays_none
    ]
    in
    then c.put.ensures (then c.put-2.ensures (then c.put_parameters.ensures (then spaced c.put-3.ensures)))
