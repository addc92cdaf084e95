use Rattle.picture.proofs.PictureLengths.{picture_small}
use Rattle.picture.proofs.picturing.draw.Goals as goal

pub write_front-requires : goal.write_front-requires
write_front-requires g c =
    let s = (g.P.Panel.shows c.args.panel.now).grid in
    picture_small c.args.view.now s (g.P.Panel.sound c.args.panel.now) c.requires
