use Rattle.std.proofs.Common.{◌+◌, length, take, drop}
use Rattle.picture.specs.Tape.{tape}
use Rattle.picture.specs.Draws.{Leaves}
use Rattle.picture.specs.Pictures.{stops_from}
use Rattle.picture.specs.Pens.{stop_at}
use Rattle.picture.proofs.stops.put_stops.Given as goal

abbrev pub invariant-loop-i : goal.invariant-loop-i
invariant-loop-i l = record {
  can : (goal.iterator-loop-i).can_next l.i-iterator;
  finite : (goal.iterator-loop-i).is_finite l.i-iterator;
  left : Leaves (tape l.out) (stops_from (stop_at l.along) (length l.yielded + 1) (drop (length l.yielded) (take l.count l.flags))) (tape l.initial.out) (stops_from (stop_at l.along) 1 (take l.count l.flags));
}
