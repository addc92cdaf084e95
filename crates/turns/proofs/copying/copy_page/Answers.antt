use Rattle.std.proofs.Common.{length, sym, refl, arith}
use Rattle.std.proofs.lemmas.List.{length-take-le}
use Rattle.page.specs.Plain.{plain, on_panel}
use Rattle.turns.proofs.Kept.{front_written, pictures_counted}
use Rattle.turns.proofs.Restoring.{picture_restores}
use Rattle.turns.proofs.Copied.{refused_picture, front_silent, copied}
use Rattle.turns.proofs.copying.copy_page.Goals as goal

pub returns-in_err-of_one_size-clause-restores : goal.returns-in_err-of_one_size-clause-restores
returns-in_err-of_one_size-clause-restores g c = picture_restores

pub returns-in_err-takes_picture-clause-restores : goal.returns-in_err-takes_picture-clause-restores
returns-in_err-takes_picture-clause-restores g c = picture_restores

pub returns-in_err-n : goal.returns-in_err-n
returns-in_err-n g c =
    record {
      copies = refused_picture _ _ c.args.buffer.now c.in_ok-of_one_size.ensures c.in_ok-takes_picture.ensures c.from_residual-in_err-n.result c.in_err-n.field-0.0 _ c.from_residual-in_err-n.ensures.1 c.in_err-n.ensures;
      restores = picture_restores;
    }

pub deliver_all-requires-clause-quiet : goal.deliver_all-requires-clause-quiet
deliver_all-requires-clause-quiet g c =
    let x = plain c.args.from.now (g.P.Panel.shows c.args.shown.now).grid in
    let y = on_panel c.args.to.now (g.Q.Panel.shows c.args.onto.now) in
    front_silent x y c.args.buffer.now c.in_ok-of_one_size.ensures c.in_ok-takes_picture.ensures c.in_ok-n.n _ c.is_admitted.ensures c.is_admitted-2.ensures c.in_ok-n.ensures

pub slice_bounds-deliver_all-end-2 : goal.slice_bounds-deliver_all-end-2
slice_bounds-deliver_all-end-2 g c =
    let x = plain c.args.from.now (g.P.Panel.shows c.args.shown.now).grid in
    let f = front_written c.in_ok-n.n c.in_ok-n.ensures (pictures_counted (length c.args.buffer.now) x) refl in
    sym (length-take-le _ c.picture.new.buffer (omega (arith, f.fits, c.picture.auto.buffer)))

pub returns : goal.returns
returns g c =
    let x = plain c.args.from.now (g.P.Panel.shows c.args.shown.now).grid in
    let y = on_panel c.args.to.now (g.Q.Panel.shows c.args.onto.now) in
    record {
      copies = copied x y c.args.buffer.now c.in_ok-of_one_size.ensures c.in_ok-takes_picture.ensures c.in_ok-n.n _ c.is_admitted.ensures c.is_admitted-2.ensures c.in_ok-n.ensures _ c.deliver_all.ensures;
      restores = picture_restores;
    }
