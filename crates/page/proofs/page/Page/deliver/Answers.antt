use Rattle.std.proofs.Common.{◌≡◌, true, false, rules}
use Rattle.page.specs.Plain.{Plain, plain, known, owes}
use Rattle.page.proofs.Deliveries.{delivers}
use Rattle.page.proofs.page.Page.deliver.Goals as goal

pub returns-clause-says : goal.returns-clause-says
returns-clause-says g c =
    let x : Plain = plain c.args.self.now (g.P.Panel.shows c.args.panel.now).grid in
    let k : known x ≡ true = search rules in
    let f : owes x ≡ false = search rules in
    delivers x c.args.bytes.now c.feed-taken.result k (search rules) f (search rules)
