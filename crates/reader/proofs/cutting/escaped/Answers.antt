use Rattle.std.proofs.Common.{◌≡◌, ◌+◌, [], ◌∷◌, get_or, sym, refl, inr, rules}
use Rattle.reader.specs.Items.{Spells}
use Rattle.reader.specs.Walks.{Opens}
use Rattle.reader.proofs.Forms as form
use Rattle.reader.proofs.Forms.{lead_by, front_one, front_two}
use Rattle.reader.proofs.cutting.escaped.Goals as goal

-- ESC [
pub returns-in-27 : goal.returns-in-27
returns-in-27 c = lead_by (Spells 0x9B) _ _ _ _ (0x1B ∷ 0x5B ∷ []) c.sequence.ensures (inr refl) (front_two c.args.bytes.now 27 91 (search rules) c.requires.first (search rules))

-- ESC X
pub returns-in-27-2 : goal.returns-in-27-2
returns-in-27-2 c = lead_by (Spells 0x98) _ _ _ _ (0x1B ∷ 0x58 ∷ []) c.sos.ensures (inr refl) (front_two c.args.bytes.now 27 88 (search rules) c.requires.first (search rules))

-- ESC and the final of an opener
pub returns-in-27-3 : goal.returns-in-27-3
returns-in-27-3 c =
    let next = get_or c.args.bytes.now 1 0 in
    lead_by Opens _ _ _ _ (0x1B ∷ next ∷ []) c.string.ensures (next + 64, sym c.if-belongs.ensures, inr (form.escaped next)) (front_two c.args.bytes.now 27 next (search rules) c.requires.first refl)

pub returns-in-len1-up : goal.returns-in-len1-up
returns-in-len1-up c = lead_by (λ c. c ≡ 0x1B ∷ []) _ _ _ _ (0x1B ∷ []) c.escape.ensures refl (front_one c.args.bytes.now 27 c.requires.some c.requires.first)
