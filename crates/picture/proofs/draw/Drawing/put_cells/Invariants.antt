use Rattle.std.proofs.Common.{◌≡◌, true, length, drop}
use Rattle.panel.specs.Grids.{size_of}
use Rattle.panel.specs.Reading.{positions_left, positions_of}
use Rattle.picture.specs.Tape.{tape}
use Rattle.picture.specs.Draws.{Leaves}
use Rattle.picture.specs.Pictures.{cells_from}
use Rattle.picture.proofs.Shown.{rest_of}
use Rattle.picture.proofs.draw.Drawing.put_cells.Given as goal

abbrev pub invariant-loop-at : goal.invariant-loop-at
invariant-loop-at g l =
    let s = (g.P.Panel.shows l.self.panel.now).grid in
    let k = length l.yielded in
    (positions_left l.at-iterator ≡ drop k (positions_of (size_of s)))
    × Leaves (tape l.out) (rest_of s.columns k l.pen (drop k s.cells)) (tape l.initial.out) (cells_from s.columns 0 true 0 s.cells)
