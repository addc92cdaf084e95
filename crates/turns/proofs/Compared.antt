-- The ways out of comparing two pages.
use Rattle.std.proofs.Common.{◌≡◌, ℕ, Bool, List, length, take, Ok, Decides, sym, refl, ap, ◌∙◌}
use Rattle.refusal.specs.Table.{Answer, accepted}
use Rattle.page.specs.Plain.{Plain}
use Rattle.page.proofs.Parts.{known_fits}
use Rattle.picture.specs.Calls.{Does, pictures}
use Rattle.turns.specs.Turns.{turn}
use Rattle.turns.specs.Laws.{Admitted, SameSize}
use Rattle.picture.specs.Tape.{over}
use Rattle.turns.specs.Copying.{unless_refused, size_answer, forget, only_after, Compares}
use Rattle.turns.proofs.Kept.{pictures_counted, front_written}
use Rattle.turns.proofs.Restoring.{pictures_tell_pages}
use Rattle.turns.proofs.Copied.{sizes_agree, accepted_picture}

module _ (x y : Plain) (a b : List ℕ) where
  sizes : Answer (Unit {0})
  sizes = size_answer x.sheet.grid y.sheet.grid

  both : Answer (Unit {0})
  both = unless_refused (forget (pictures (length a) x).says) (forget (pictures (length b) y).says)

  module _ (s : accepted tt ≡ size_answer x.sheet.grid y.sheet.grid) where
    all_so_far : both ≡ unless_refused (size_answer x.sheet.grid y.sheet.grid) both
    all_so_far = ap (λ (q : Answer (Unit {0})). unless_refused q both) s

    first_kept : {a' : List ℕ} → a' ≡ over (pictures (length a) x).writes a → a' ≡ over (only_after (size_answer x.sheet.grid y.sheet.grid) (pictures (length a) x).writes) a
    first_kept e = e ∙ ap (λ (q : Answer (Unit {0})). over (only_after q (pictures (length a) x).writes) a) s

    second_kept : {b' : List ℕ} → b' ≡ over (only_after (forget (pictures (length a) x).says) (pictures (length b) y).writes) b
        → b' ≡ over (only_after (unless_refused (size_answer x.sheet.grid y.sheet.grid) (forget (pictures (length a) x).says)) (pictures (length b) y).writes) b
    second_kept e = e ∙ ap (λ (q : Answer (Unit {0})). over (only_after (unless_refused q (forget (pictures (length a) x).says)) (pictures (length b) y).writes) b) s

    module _ (n : ℕ) (a' : List ℕ) (d : Does (pictures (length a) x) (Ok n) x a a') where
      second_says : forget (pictures (length b) y).says ≡ unless_refused (size_answer x.sheet.grid y.sheet.grid) both
      unfolding both
      second_says = ap (λ (q : Answer ℕ). unless_refused (forget q) (forget (pictures (length b) y).says)) d.says ∙ all_so_far

      second_writes : {b' : List ℕ} → b' ≡ over (pictures (length b) y).writes b → b' ≡ over (only_after (unless_refused (size_answer x.sheet.grid y.sheet.grid) (forget (pictures (length a) x).says)) (pictures (length b) y).writes) b
      second_writes e = second_kept (e ∙ ap (λ (q : Answer ℕ). over (only_after (forget q) (pictures (length b) y).writes) b) d.says)

      pub compared : (t : Bool) (m : ℕ) (b' : List ℕ) → Admitted x → Admitted y → Does (pictures (length b) y) (Ok m) y b b' → Decides t (take n a' ≡ take m b') → Compares x y (Ok t) a a' b b'
      unfolding both turn
      compared t m b' ax ay f same =
          let one = (front_written n d (pictures_counted (length a) x) refl).front in
          let other = (front_written m f (pictures_counted (length b) y) refl).front in
          let agree = sizes_agree x.sheet.grid y.sheet.grid s in
          let fx = known_fits x (accepted_picture x n a a' d).is_known in
          let fy = known_fits y (accepted_picture y m b b' f).is_known in
          let size : SameSize x y = record { lines = fx.lines ∙ agree.0 ∙ sym fy.lines; columns = fx.columns ∙ agree.1 ∙ sym fy.columns } in
          let tell = pictures_tell_pages x y ax ay size (length a) (length b) (n, sym d.says) (m, sym f.says) in
          record {
            says = ap forget f.says ∙ second_says;
            decides = (λ h. tell.1 (sym one ∙ same.0 h ∙ other), λ e. same.1 (one ∙ tell.0 e ∙ sym other));
            first = first_kept d.wrote;
            second = second_writes f.wrote;
          }
