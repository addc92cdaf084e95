use Rattle.std.proofs.Common.{◌≡◌, ◌+◌, drop, length}
use Rattle.page.specs.Stops.{next_stop}
use Rattle.page.proofs.tabs.next_stop.Given as goal

abbrev pub invariant-loop-i : goal.invariant-loop-i
invariant-loop-i l =
    next_stop l.left (l.after + l.i + 1) (drop (l.after + l.i) l.stops) (length l.stops) ≡ next_stop l.n (l.after + 1) (drop l.after l.stops) (length l.stops)
