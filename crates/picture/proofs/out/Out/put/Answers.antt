use Rattle.std.proofs.Common.{[], ◌∷◌, sym, refl, subst}
use Rattle.std.proofs.lemmas.List.{set_past}
use Rattle.picture.specs.Tape.{tape, Lays}
use Rattle.picture.proofs.Tapes.{lays_one}
use Rattle.picture.proofs.out.Out.put.Goals as goal
use Rattle.picture.proofs.out.Out.put.Goals.{then-at-self, else-at-self}

pub returns : goal.returns
returns c =
    let t = tape c.args.self.now in
    let w1 = c.args.byte ∷ [] in
    let n = c.saturating_add-self.result in
    elim c.if-at-self.branch [
      | then-at-self w ↦ subst (λ s. Lays t w1 (tape (record { bytes = s.bytes; at = n }))) (sym w.self-is) (lays_one t c.args.byte _ n refl c.saturating_add-self.ensures)
      | else-at-self w ↦ subst (λ s. Lays t w1 (tape (record { bytes = s.bytes; at = n }))) (sym w.self-is) (lays_one t c.args.byte _ n (sym (set_past _ _ _ w.if-at-self.false)) c.saturating_add-self.ensures)
    ]
