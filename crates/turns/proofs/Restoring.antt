-- Pictures over lists of turns: an accepted picture restores its page, and tells it from others.
use Rattle.std.proofs.Common.{◌≡◌, ℕ, ◌+◌, ◌/◌, ◌%◌, Bool, true, false, cond, leb, List, [], ◌∷◌, ◌++◌, length, is_some, Some, None, Option, sym, refl, ap, ◌∙◌, arith}
use Rattle.std.proofs.lemmas.Bool.{cond_both, both_ways, and_parts}
use Rattle.refusal.specs.Table.{accepted, refused, is_accepted}
use Rattle.refusal.specs.declared.Layer.{Layer}
use Rattle.refusal.specs.declared.Layer.TheVariants as layer
use Rattle.refusal.specs.declared.Place.{Place}
use Rattle.refusal.specs.declared.Place.TheVariants.{Length, At}
use Rattle.panel.specs.declared.cell.Cell.{Cell}
use Rattle.reader.specs.Steps.{Standing, rest, escape, in_parameters, in_intermediates, in_string, in_sos, is_at_rest}
use Rattle.reader.specs.Laws.{is_in_sos}
use Rattle.page.specs.Sheets.{Sheet}
use Rattle.page.specs.Effects.{stepped, run}
use Rattle.page.specs.Plain.{Plain, known, owes, after_bytes}
use Rattle.page.proofs.Parts.{known_fits}
use Rattle.picture.specs.Pictures.{picture_bytes, first_foreign, foreign}
use Rattle.picture.specs.Calls.{Outcome, refuses, fronts}
use Rattle.picture.proofs.CellsDrawn.{Fine}
use Rattle.picture.proofs.Drawn.{Ready}
use Rattle.picture.proofs.Restored.{restored}
use Rattle.turns.specs.Turns.{Turn, picture, turn, after, taken_in, sent_in, took, gave}
use Rattle.turns.specs.Laws.{Admitted, SameSize, PictureRestores, PicturesTellPages}
use Rattle.turns.proofs.Done.{Done, nothing, bytes, sends, turn_done}
use Rattle.turns.proofs.SoFar.{none_owed}

-- what an accepted picture says of its page
pub record Accepted (x : Plain) (o : Outcome) : Type 0 where
  pub is_known : known x ≡ true
  pub quits : owes x ≡ false
  pub rests : is_at_rest x.sheet.state.standing ≡ true
  pub fine : Fine x.sheet.grid.cells
  pub bytes : o.writes ≡ picture_bytes x.sheet

never : {P : Type 0} {m n : ℕ} {l : Layer} {p : Place} → refused m l p ≡ accepted n → P
never e = absurd (both_ways true (ap is_accepted (sym e)) refl)

all_fine : (xs : List Cell) (k : ℕ) → first_foreign k xs ≡ None → Fine xs
all_fine [] k e = tt
all_fine (x ∷ xs) k e = by (foreign x) refl e (all_fine xs (k + 1))
  where
    by : (b : Bool) → foreign x ≡ b → ◌≡◌ {A = Option ℕ} (elim b [ true ↦ Some k | false ↦ first_foreign (k + 1) xs ]) None → (first_foreign (k + 1) xs ≡ None → Fine xs) → Fine (x ∷ xs)
    by true f e more = absurd (both_ways true (sym (ap is_some (sym e))) refl)
    by false f e more = (f, more e)

module _ (x : Plain) (room n : ℕ) where
  abbrev Says : Outcome → Type 0
  Says o = o.says ≡ accepted n → Accepted x o

  drawn_by : known x ≡ true → owes x ≡ false → is_at_rest x.sheet.state.standing ≡ true → (f : Option ℕ) → first_foreign 0 x.sheet.grid.cells ≡ f
      → Says (elim f [ Some k ↦ refuses x (refused 7 layer.Page (At (k / x.sheet.grid.columns + 1) (k % x.sheet.grid.columns + 1))) | None ↦ fronts x x (picture_bytes x.sheet) room ])
  drawn_by k o r (Some i) f = λ e. never e
  drawn_by k o r None f = by (leb (length (picture_bytes x.sheet)) room)
    where
      bs : List ℕ
      bs = picture_bytes x.sheet

      by : (b : Bool) → Says (record { says = cond b (accepted (length (picture_bytes x.sheet))) (refused 8 layer.Writer (Length (length (picture_bytes x.sheet)))); after = cond b x x; writes = cond b (picture_bytes x.sheet) [] })
      by true e = record { is_known = k; quits = o; rests = r; fine = all_fine x.sheet.grid.cells 0 f; bytes = refl }
      by false e = never e

  pub pictured : (turn x (picture room)).says ≡ accepted n → Accepted x (turn x (picture room))
  unfolding turn
  pictured =
      cond_both (known x) _ _ Says
      (λ k. cond_both (owes x) _ _ Says (λ o e. never e)
      (λ o. cond_both (is_at_rest x.sheet.state.standing) _ _ Says (λ r. drawn_by k o r (first_foreign 0 x.sheet.grid.cells) refl) (λ r e. never e)))
      (λ k e. never e)

-- turns that send no reply run the bytes that they take
pub run_append : (x : Sheet) (xs ys : List ℕ) → run x (xs ++ ys) ≡ run (run x xs) ys
unfolding run
run_append x [] ys = refl
run_append x (b ∷ xs) ys = run_append (stepped x b) xs ys

nil_left : {A : Type 0} (xs ys : List A) → xs ++ ys ≡ [] → xs ≡ []
nil_left [] ys e = refl
nil_left (x ∷ xs) ys e = let z : ◌≡◌ {A = ℕ} 1 0 = cc in absurd (omega arith)

nil_right : {A : Type 0} (xs ys : List A) → xs ++ ys ≡ [] → ys ≡ []
nil_right [] ys e = e
nil_right (x ∷ xs) ys e = let z : ◌≡◌ {A = ℕ} 1 0 = cc in absurd (omega arith)

no_reply : {A P : Type 0} {x : A} → x ∷ [] ≡ [] → P
no_reply e = let z : ◌≡◌ {A = ℕ} 1 0 = ap length e in absurd (omega arith)

silent : (x : Plain) (t : Turn) (o : Outcome) → Done x t o → gave t o ≡ [] → o.after ≡ after_bytes x (took t o)
unfolding run
silent x t o (nothing a k g) e = a ∙ ap (after_bytes x) (sym k)
silent x t o (bytes bs kn f a k g) e = a ∙ ap (after_bytes x) (sym k)
silent x t o (sends w a k g) e = no_reply (sym g ∙ e)

pub all_silent : (ts : List Turn) (x : Plain) → sent_in x ts ≡ [] → after x ts ≡ after_bytes x (taken_in x ts)
unfolding after sent_in taken_in run
all_silent [] x e = refl
all_silent (t ∷ ts) x e =
    all_silent ts (turn x t).after (nil_right (gave t (turn x t)) _ e)
    ∙ ap (λ (y : Plain). after_bytes y (taken_in (turn x t).after ts)) (silent x t (turn x t) (turn_done x t) (nil_left (gave t (turn x t)) _ e))
    ∙ ap (λ (y : Sheet). record { started = x.started; sheet = y }) (sym (run_append x.sheet (took t (turn x t)) (taken_in (turn x t).after ts)))

-- a page that the types admit, on a panel of its size
pub ready : (x : Plain) → Admitted x → known x ≡ true → Ready x.sheet
ready x a k =
    let f = known_fits x k in
    record { proper = a.proper; lines = f.lines; columns = f.columns; count = a.whole.count }

at_rest_is : (s : Standing) → is_at_rest s ≡ true → s ≡ rest
at_rest_is rest h = refl
at_rest_is (escape b) h = absurd (both_ways false refl h)
at_rest_is (in_parameters ps) h = absurd (both_ways false refl h)
at_rest_is (in_intermediates ps) h = absurd (both_ways false refl h)
at_rest_is in_string h = absurd (both_ways false refl h)
at_rest_is (in_sos e) h = absurd (both_ways false refl h)

rest_outside : (s : Standing) → is_at_rest s ≡ true → is_in_sos s ≡ false
rest_outside s h = ap is_in_sos (at_rest_is s h)

started_same : (a b : Plain) → known a ≡ true → known b ≡ true → b.started ≡ a.started
started_same a b ka kb = (and_parts b.started _ kb).0 ∙ sym (and_parts a.started _ ka).0

-- the bytes of an accepted picture of a make b equal
pub makes : (a b : Plain) (o : Outcome) → Admitted a → Admitted b → SameSize a b → Accepted a o → known b ≡ true → is_in_sos b.sheet.state.standing ≡ false → after_bytes b (picture_bytes a.sheet) ≡ a
makes a b o oa ob size p kb out =
    let sheet = restored a.sheet b.sheet (ready a oa p.is_known) (ready b ob kb) (sym size.lines) (sym size.columns) out (at_rest_is a.sheet.state.standing p.rests) (none_owed a.sheet.state.owed p.quits) p.fine in
    λ i. record { started = started_same a b p.is_known kb i; sheet = sheet i }

pub picture_restores : PictureRestores
picture_restores a b oa ob size room (n, e) kb quits out ts took_all silence =
    let p = pictured a room n e in
    all_silent ts b silence ∙ ap (after_bytes b) (took_all ∙ p.bytes) ∙ makes a b (turn a (picture room)) oa ob size p kb out

same_own : (a : Plain) → SameSize a a
same_own a = record { lines = refl; columns = refl }

pub pictures_tell_pages : PicturesTellPages
pictures_tell_pages a b oa ob size j k (m, ea) (n, eb) =
    let p = pictured a j m ea in
    let q = pictured b k n eb in
    let out = rest_outside a.sheet.state.standing p.rests in (
      λ e. p.bytes ∙ ap (λ (x : Plain). picture_bytes x.sheet) e ∙ sym q.bytes,
      λ e.
          sym (makes a a (turn a (picture j)) oa oa (same_own a) p p.is_known out)
          ∙ ap (after_bytes a) (sym p.bytes ∙ e ∙ q.bytes)
          ∙ makes b a (turn b (picture k)) ob oa (record { lines = sym size.lines; columns = sym size.columns }) q p.is_known out,
    )
