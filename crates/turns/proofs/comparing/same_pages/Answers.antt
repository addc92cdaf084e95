use Rattle.std.proofs.Common.{length, sym, refl, rules, arith}
use Rattle.std.proofs.lemmas.List.{length-take-le}
use Rattle.page.specs.Plain.{plain}
use Rattle.turns.proofs.Kept.{front_written, pictures_counted}
use Rattle.turns.proofs.Restoring.{pictures_tell_pages}
use Rattle.turns.proofs.Compared.{compared}
use Rattle.turns.proofs.comparing.same_pages.Goals as goal

pub returns-in_err-of_one_size-clause-tell : goal.returns-in_err-of_one_size-clause-tell
returns-in_err-of_one_size-clause-tell g c = pictures_tell_pages

pub returns-in_err-n-clause-tell : goal.returns-in_err-n-clause-tell
returns-in_err-n-clause-tell g c = pictures_tell_pages

pub returns-in_err-m-clause-tell : goal.returns-in_err-m-clause-tell
returns-in_err-m-clause-tell g c = pictures_tell_pages

pub slice_bounds-eq-end-2 : goal.slice_bounds-eq-end-2
slice_bounds-eq-end-2 g c =
    let x = plain c.args.one.now (g.P.Panel.shows c.args.shown.now).grid in
    let f = front_written c.in_ok-n.n c.in_ok-n.ensures (pictures_counted (length c.args.first.now) x) refl in
    sym (length-take-le _ c.picture.new.buffer (omega (arith, f.fits, c.picture.auto.buffer)))

pub slice_bounds-eq-end-3 : goal.slice_bounds-eq-end-3
slice_bounds-eq-end-3 g c =
    let y = plain c.args.other.now (g.Q.Panel.shows c.args.over.now).grid in
    let f = front_written c.in_ok-m.m c.in_ok-m.ensures (pictures_counted (length c.args.second.now) y) refl in
    omega (arith, f.fits, c.picture-2.auto.buffer)

pub slice_bounds-eq-end-4 : goal.slice_bounds-eq-end-4
slice_bounds-eq-end-4 g c =
    let y = plain c.args.other.now (g.Q.Panel.shows c.args.over.now).grid in
    let f = front_written c.in_ok-m.m c.in_ok-m.ensures (pictures_counted (length c.args.second.now) y) refl in
    sym (length-take-le _ c.picture-2.new.buffer (omega (arith, f.fits, c.picture-2.auto.buffer)))

pub returns : goal.returns
returns g c =
    record {
      compares = compared _ _ c.args.first.now c.args.second.now c.in_ok-of_one_size.ensures c.in_ok-n.n _ c.in_ok-n.ensures c.eq.result c.in_ok-m.m _ c.is_admitted.ensures c.is_admitted-2.ensures c.in_ok-m.ensures (search rules);
      tell = pictures_tell_pages;
    }
