use Rattle.std.proofs.Common.{[], ◌∷◌, get_or, sym, refl, inl, rules}
use Rattle.reader.specs.Items.{Spells}
use Rattle.reader.specs.Walks.{Opens}
use Rattle.reader.proofs.Forms.{lead_by, front_one, control_leads, lone_rest}
use Rattle.reader.proofs.cutting.first.Goals as goal

pub returns-in-155 : goal.returns-in-155
returns-in-155 c = lead_by (Spells 0x9B) _ _ _ _ (0x9B ∷ []) c.sequence.ensures (inl refl) (front_one c.args.bytes.now 155 (search rules) (search rules))

pub returns-in-152 : goal.returns-in-152
returns-in-152 c = lead_by (Spells 0x98) _ _ _ _ (0x98 ∷ []) c.sos.ensures (inl refl) (front_one c.args.bytes.now 152 (search rules) (search rules))

pub returns-in-len1-up : goal.returns-in-len1-up
returns-in-len1-up c =
    let byte = get_or c.args.bytes.now 0 0 in
    lead_by Opens _ _ _ _ (byte ∷ []) c.string.ensures (byte, sym c.if-belongs.ensures, inl refl) (front_one c.args.bytes.now byte (search rules) refl)

pub returns-in-len1-up-3 : goal.returns-in-len1-up-3
returns-in-len1-up-3 c =
    control_leads c.args.bytes.now (search rules)
    (lone_rest (get_or c.args.bytes.now 0 0) (search rules) (λ e. search rules) (λ e. search rules) (λ e. search rules) (sym c.if-belongs.ensures) (sym c.if-belongs-2.ensures))
