use Rattle.std.proofs.Common.{Bool, [], ◌∷◌, ap}
use Rattle.picture.specs.Tape.{tape}
use Rattle.picture.specs.Draws.{Draws}
use Rattle.picture.specs.Pictures.{numbered, when, sgr}
use Rattle.picture.proofs.Draws.{draws_none, draws_one, draws_both, draws_by}
use Rattle.picture.proofs.draw.Drawing.put_ending.Goals as goal
use Rattle.picture.proofs.draw.Drawing.put_ending.Goals.{then-self, else-self, then-self-2, else-self-2}

pub returns : goal.returns
returns g c =
    let v = c.args.self.now.view.now in
    let insertion = λ (b : Bool). when b (numbered (4 ∷ []) 0x68) in
    let combination = λ (b : Bool). when b (numbered (21 ∷ []) 0x68) in
    let first : Draws (tape c.args.out.now) (insertion v.modes.insertion) (tape c.if-self.out) =
    elim c.if-self.branch [
      | then-self w ↦ draws_by insertion w.if-self.true (ap tape w.out-is) w.put_one.ensures
      | else-self w ↦ draws_by insertion w.if-self.false (ap tape w.out-is) draws_none
    ]
    in
    let second : Draws (tape c.if-self.out) (combination v.modes.combination) (tape c.if-self-2.out) =
    elim c.if-self-2.branch [
      | then-self-2 w ↦ draws_by combination w.if-self-2.true (ap tape w.out-is) w.put_one-then-self-2.ensures
      | else-self-2 w ↦ draws_by combination w.if-self-2.false (ap tape w.out-is) draws_none
    ]
    in
    draws_both first (draws_both second (draws_both (draws_one (sgr v.rendition) c.put_sgr.ensures) c.put_cup.ensures))
