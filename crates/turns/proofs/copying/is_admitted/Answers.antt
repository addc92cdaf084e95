use Rattle.turns.proofs.copying.is_admitted.Goals as goal

pub returns : goal.returns
returns g c =
    let p = c.args.panel.now in
    record { proper = c.view.ensures.proper (g.P.Panel.shows p).grid; whole = g.P.Panel.sound p }
