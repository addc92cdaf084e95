-- Functions drawn one after the other.
use Rattle.std.proofs.Common.{◌≡◌, Bool, List, [], ◌∷◌, ◌++◌, sym, refl, ap, ◌∙◌, subst₂}
use Rattle.std.proofs.lemmas.List.{append_assoc, append-nil}
use Rattle.reader.specs.Functions.{Function}
use Rattle.picture.specs.Writing.{written, all_written}
use Rattle.picture.specs.Tape.{Tape, Lays}
use Rattle.picture.proofs.Tapes.{lays_none, then, being, leads_on, leads_end}
use Rattle.picture.specs.Draws.{Draws, Leaves}

pub all_written_append : (fs gs : List Function) → all_written (fs ++ gs) ≡ all_written fs ++ all_written gs
unfolding all_written
all_written_append [] gs = refl
all_written_append (f ∷ fs) gs = ap (λ r. written f ++ r) (all_written_append fs gs) ∙ sym (append_assoc (written f) (all_written fs) (all_written gs))

pub draws_none : {t : Tape} → Draws t [] t
unfolding all_written
draws_none = record { lays = lays_none }

pub draws_one : (f : Function) {t u : Tape} → Lays t (written f) u → Draws t (f ∷ []) u
unfolding all_written
draws_one f l = record { lays = being l (sym (append-nil (written f))) }

pub draws_both : {t u v : Tape} {fs gs : List Function} → Draws t fs u → Draws u gs v → Draws t (fs ++ gs) v
draws_both {t} {u} {v} {fs} {gs} a b = record { lays = being (then a.lays b.lays) (sym (all_written_append fs gs)) }

pub draws_as : {t u : Tape} {fs gs : List Function} → Draws t fs u → fs ≡ gs → Draws t gs u
draws_as d e = record { lays = being d.lays (ap all_written e) }

pub leaves_on : {t u v : Tape} {all left fs gs : List Function} → Leaves u left t all → left ≡ fs ++ gs → Draws u fs v → Leaves v gs t all
leaves_on {t} {u} {v} {all} {left} {fs} {gs} l e d = record { leads = leads_on l.leads (ap all_written e ∙ all_written_append fs gs) d.lays }

pub leaves_end : {t u : Tape} {all left : List Function} → Leaves u left t all → left ≡ [] → Draws t all u
unfolding all_written
leaves_end l e = record { lays = leads_end l.leads (ap all_written e) }

-- what is drawn where a test came out so, by the test
pub draws_by : (fs : Bool → List Function) {a b : Bool} {t u v : Tape} → a ≡ b → v ≡ u → Draws t (fs b) u → Draws t (fs a) v
draws_by fs {a} {b} {t} e s d = subst₂ (λ x w. Draws t (fs x) w) (sym e) (sym s) d
