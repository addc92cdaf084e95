use Rattle.std.proofs.Common.{◌≡◌, Ok, Some, rules}
use Rattle.page.specs.Plain.{view_of}
use Rattle.picture.proofs.Calling.{replied, not_replied}
use Rattle.picture.proofs.replying.reply.Goals as goal

pub returns-in_err-length : goal.returns-in_err-length
returns-in_err-length c =
    let e : Some c.in_ok-view.view ≡ view_of c.args.page.now = search rules in
    λ g. not_replied c.args.page.now _ g e _ _ _ c.in_err-length.field-0.0 c.from_residual-in_err-length.ensures.1 c.in_err-length.ensures

pub returns : goal.returns
returns c =
    let e : Some c.in_ok-view.view ≡ view_of c.args.page.now = search rules in
    λ g. replied c.args.page.now _ g e _ _ (Ok c.in_ok-length.length) _ (c.settle.ensures g) c.in_ok-length.ensures
