use Rattle.std.proofs.Common.{◌≡◌, length, Some, sym, rules, subst}
use Rattle.page.specs.Plain.{view_of}
use Rattle.picture.specs.Calls.{Does, pictures}
use Rattle.picture.proofs.Calling.{viewed}
use Rattle.picture.proofs.picturing.picture.Goals as goal

pub returns : goal.returns
returns g c =
    let e : Some c.in_ok-view.view ≡ view_of c.args.page.now = search rules in
    subst (λ x. Does (pictures (length c.args.buffer.now) x) c.show.result x c.args.buffer.now c.show.new.buffer) (sym (viewed c.args.page.now _ _ e)) c.show.ensures
