use Rattle.std.proofs.Common.{◌∙◌}
use Rattle.std.proofs.lemmas.List.{take_at}
use Rattle.page.specs.Plain.{plain}
use Rattle.turns.proofs.Kept.{replies_counted, pictures_counted, kept_fits, kept}
use Rattle.turns.proofs.Ran.{deliver_did, reply_did, picture_did}
use Rattle.turns.proofs.running.take_turn.Goals as goal

pub keep-requires-clause-counts : goal.keep-requires-clause-counts
keep-requires-clause-counts g c =
    let grid = (g.P.Panel.shows c.args.panel.now).grid in
    let same = c.deref.ensures.value ∙ take_at _ _ _ (c.reply-answer.auto.buffer ∙ c.deref_mut.ensures.len) in
    kept_fits (c.reply-answer.ensures grid) (replies_counted _ (plain c.args.page.now grid)) _ same c.reply-answer.auto.buffer

pub returns-in-Deliver : goal.returns-in-Deliver
returns-in-Deliver g c = deliver_did (plain c.args.page.now (g.P.Panel.shows c.args.panel.now).grid) c.args.next.now c.in-Deliver.bytes c.in-Deliver.is (c.delivered.ensures _)

pub returns-in_ok-buffer-in-Reply : goal.returns-in_ok-buffer-in-Reply
returns-in_ok-buffer-in-Reply g c =
    let screen = g.P.Panel.shows c.args.panel.now in
    let x = plain c.args.page.now screen.grid in
    let same = c.deref.ensures.value ∙ take_at _ _ _ (c.reply-answer.auto.buffer ∙ c.deref_mut.ensures.len) in
    reply_did x c.args.next.now _ c.in-Reply.room (c.deref_mut.ensures.len ∙ c.in_ok-buffer-in-Reply.ensures.made.0) c.buffer_of.ensures.same c.in-Reply.is
    (kept (c.reply-answer.ensures screen.grid) (replies_counted _ x) _ same screen.beyond c.keep.ensures)

pub returns-in_ok-buffer-in-Picture : goal.returns-in_ok-buffer-in-Picture
returns-in_ok-buffer-in-Picture g c =
    let screen = g.P.Panel.shows c.args.panel.now in
    let x = plain c.args.page.now screen.grid in
    let same = c.deref-in-Picture.ensures.value ∙ take_at _ _ _ (c.picture-answer.auto.buffer ∙ c.deref_mut-in-Picture.ensures.len) in
    picture_did x c.args.next.now _ c.in-Picture.room (c.deref_mut-in-Picture.ensures.len ∙ c.in_ok-buffer-in-Picture.ensures.made.0) c.buffer_of-in-Picture.ensures.same c.in-Picture.is
    (kept c.picture-answer.ensures (pictures_counted _ x) _ same screen.beyond c.keep-in-Picture.ensures)
