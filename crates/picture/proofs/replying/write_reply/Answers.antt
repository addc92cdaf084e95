use Rattle.picture.proofs.PictureLengths.{reply_small}
use Rattle.picture.proofs.replying.write_reply.Goals as goal

pub write_front-requires : goal.write_front-requires
write_front-requires c = reply_small c.in_ok-report.report c.args.view.now.position.line c.args.view.now.position.column
