use Rattle.std.proofs.Common.{◌≡◌, ◌≤◌, length}
use Rattle.page.specs.Stops.{previous_stop}
use Rattle.page.proofs.tabs.previous_stop.Given as goal

abbrev pub invariant-loop-stop : goal.invariant-loop-stop
invariant-loop-stop l =
    (length l.rest ≤ l.count) × (previous_stop l.left l.rest (length l.rest) l.first ≡ previous_stop l.n l.stops l.count l.first)

abbrev pub decreases-loop-stop : goal.decreases-loop-stop
decreases-loop-stop l = length l.rest
