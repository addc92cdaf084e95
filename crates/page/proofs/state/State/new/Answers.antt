use Rattle.std.proofs.Common.{◌≡◌, false, map, take, replicate, ap, ◌∙◌, arith}
use Rattle.std.specs.List.{range_with_len}
use Rattle.std.proofs.lemmas.List.{take-replicate}
use Rattle.std.proofs.lemmas.List.FromFn.{take-map-range_with_len}
use Rattle.page.specs.Stops.{first_stop}
use Rattle.page.proofs.state.State.new.Goals as goal

pub returns : goal.returns
returns c =
    let h = c.args.size.lines in
    let w = c.args.size.columns in
    let stops : take w c.every_eighth.result.flags ≡ map first_stop (range_with_len 0 w) = ap (take w) c.every_eighth.ensures ∙ take-map-range_with_len first_stop 0 132 w (omega arith) in
    let none : take h c.none.result.flags ≡ replicate h false = ap (take h) c.none.ensures ∙ take-replicate h 64 false (omega arith) in
    cc
