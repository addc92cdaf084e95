use Rattle.std.proofs.Common.{false, rules}
use Rattle.std.proofs.lemmas.List.FromFn.{fill_by_all}
use Rattle.page.specs.Stops.{first_stop}
use Rattle.page.proofs.stops.Stops.every_eighth.Goals as goal

pub returns : goal.returns
returns g c =
    let made = c.from_fn.ensures.items in
    fill_by_all first_stop c.from_fn.result g.row.N false made.long (λ k h. let called = made.at k false h in search rules)
