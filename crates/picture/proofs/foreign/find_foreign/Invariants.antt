use Rattle.std.proofs.Common.{◌≡◌, length, drop}
use Rattle.panel.specs.Grids.{size_of}
use Rattle.panel.specs.Reading.{positions_left, positions_of}
use Rattle.picture.specs.Pictures.{first_foreign}
use Rattle.picture.proofs.foreign.find_foreign.Given as goal

abbrev pub invariant-loop-at : goal.invariant-loop-at
invariant-loop-at g l =
    let s = (g.P.Panel.shows l.panel).grid in
    let k = length l.yielded in
    (positions_left l.at-iterator ≡ drop k (positions_of (size_of s))) × (first_foreign k (drop k s.cells) ≡ first_foreign 0 s.cells)
