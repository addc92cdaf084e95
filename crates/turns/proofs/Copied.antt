-- The ways out of copying a page.
use Rattle.std.proofs.Common.{◌≡◌, ℕ, Bool, true, false, cond, eqb, List, [], length, take, IsErrAnd, Ok, Err, Result, sym, refl, ap, ◌∙◌}
use Rattle.std.proofs.lemmas.List.{nil_from_length}
use Rattle.std.proofs.lemmas.Bool.{and_parts, eqb-true, both_ways}
use Rattle.refusal.specs.declared.Refusal.{Refusal}
use Rattle.refusal.specs.Table.{Answer, accepted, answer, is_accepted}
use Rattle.panel.specs.Grids.{Grid}
use Rattle.reader.specs.Laws.{is_in_sos}
use Rattle.reader.specs.Requests.{any_requests}
use Rattle.reader.specs.Steps.{performed}
use Rattle.page.specs.Plain.{Plain, OnPanel, known, owes, after_bytes, page_refuses, leaves}
use Rattle.page.proofs.Parts.{known_fits}
use Rattle.picture.specs.Pictures.{picture_bytes}
use Rattle.picture.specs.Calls.{Does, pictures}
use Rattle.turns.specs.Turns.{turn}
use Rattle.turns.specs.Laws.{Admitted, SameSize}
use Rattle.turns.specs.Running.{count_of}
use Rattle.picture.specs.Tape.{over}
use Rattle.turns.specs.Copying.{unless_refused, same_size, size_answer, takes_picture, copy_answer, Copies}
use Rattle.turns.proofs.Kept.{pictures_counted, front_written}
use Rattle.turns.proofs.Restoring.{Accepted, pictured, ready, makes}
use Rattle.turns.proofs.Quiet.{picture_silent}

accepts_if : (b : Bool) (n : ℕ) → ◌≡◌ {A = Answer (Unit {0})} (accepted tt) (cond b (accepted tt) (page_refuses n)) → b ≡ true
accepts_if true n e = refl
accepts_if false n e = absurd (both_ways true (ap is_accepted e) refl)

pub sizes_agree : (g h : Grid) → accepted tt ≡ size_answer g h → (g.lines ≡ h.lines) × (g.columns ≡ h.columns)
sizes_agree g h e =
    let both = and_parts (eqb g.lines h.lines) _ (accepts_if (same_size g h) 2 e) in
    (eqb-true _ _ both.0, eqb-true _ _ both.1)

pub record Takes (x : Plain) : Type 0 where
  pub knows : known x ≡ true
  pub free : owes x ≡ false
  pub outside : is_in_sos x.sheet.state.standing ≡ false

takes_by : (x : Plain) (k o s : Bool) → known x ≡ k → owes x ≡ o → is_in_sos x.sheet.state.standing ≡ s → ◌≡◌ {A = Answer (Unit {0})} (accepted tt) (cond k (cond o (page_refuses 4) (cond s (page_refuses 6) (accepted tt))) (page_refuses 2)) → Takes x
takes_by x true false false ek eo es e = record { knows = ek; free = eo; outside = es }
takes_by x true false true ek eo es e = absurd (both_ways true (ap is_accepted e) refl)
takes_by x true true s ek eo es e = absurd (both_ways true (ap is_accepted e) refl)
takes_by x false o s ek eo es e = absurd (both_ways true (ap is_accepted e) refl)

pub takes : (x : Plain) → accepted tt ≡ takes_picture x → Takes x
takes x e = takes_by x (known x) (owes x) (is_in_sos x.sheet.state.standing) refl refl refl e

-- the outcome of a picture that was accepted with n
pub accepted_picture : (x : Plain) (n : ℕ) (b b' : List ℕ) → Does (pictures (length b) x) (Ok n) x b b' → Accepted x (pictures (length b) x)
unfolding turn
accepted_picture x n b b' d = pictured x (length b) n (sym d.says)

module _ (x : Plain) (y : OnPanel) (b : List ℕ) where
  module _ (s : accepted tt ≡ size_answer x.sheet.grid y.plain.sheet.grid) (t : accepted tt ≡ takes_picture y.plain) where
    goes_on : (pictures (length b) x).says ≡ copy_answer x y.plain (length b)
    goes_on =
        ap (λ (q : Answer (Unit {0})). unless_refused q (pictures (length b) x).says) t
        ∙ ap (λ (q : Answer (Unit {0})). unless_refused q (unless_refused (takes_picture y.plain) (pictures (length b) x).says)) s

    -- refused by the picture
    pub refused_picture : (r : Result ℕ Refusal) (e : Refusal) (b' : List ℕ) → IsErrAnd r (λ f. f ≡ e) → Does (pictures (length b) x) (Err e) x b b' → Copies x y r y b b'
    refused_picture (Ok n) e b' h d = absurd h
    refused_picture (Err f) e b' h d =
        let none : (pictures (length b) x).writes ≡ [] = nil_from_length (pictures (length b) x).writes (sym (pictures_counted (length b) x).counts ∙ ap count_of (sym d.says)) in
        record { says = ap (λ (q : Refusal). answer (Err q)) h ∙ d.says ∙ goes_on; done = (refl, d.wrote ∙ ap (λ (l : List ℕ). over l b) none) }

    -- a picture that was accepted: its bytes, at the buffer's front, are taken entire and make the page equal
    module _ (n : ℕ) (b' : List ℕ) (ax : Admitted x) (ay : Admitted y.plain) (d : Does (pictures (length b) x) (Ok n) x b b') where
      front_is : take n b' ≡ picture_bytes x.sheet
      front_is = (front_written n d (pictures_counted (length b) x) refl).front ∙ (accepted_picture x n b b' d).bytes

      one_size : SameSize x y.plain
      one_size =
          let sizes = sizes_agree x.sheet.grid y.plain.sheet.grid s in
          let fx = known_fits x (accepted_picture x n b b' d).is_known in
          let fy = known_fits y.plain (takes y.plain t).knows in
          record { lines = fx.lines ∙ sizes.0 ∙ sym fy.lines; columns = fx.columns ∙ sizes.1 ∙ sym fy.columns }

      pub front_silent : any_requests (performed y.plain.sheet.state.standing (take n b')) ≡ false
      front_silent =
          let a = accepted_picture x n b b' d in
          ap (λ (l : List ℕ). any_requests (performed y.plain.sheet.state.standing l)) front_is
          ∙ picture_silent x.sheet y.plain.sheet.state.standing (ready x ax a.is_known) a.fine (takes y.plain t).outside

      pub copied : (y' : OnPanel) → y' ≡ leaves (λ p. after_bytes p (take n b')) y → Copies x y (Ok n) y' b b'
      copied y' e =
          let a = accepted_picture x n b b' d in
          let k = takes y.plain t in
          let same : after_bytes y.plain (take n b') ≡ x = ap (after_bytes y.plain) front_is ∙ makes x y.plain (pictures (length b) x) ax ay one_size a k.knows k.outside in
          record { says = d.says ∙ goes_on; done = (e ∙ ap (λ (p : Plain). record { plain = p; beyond = y.beyond }) same, d.wrote) }
