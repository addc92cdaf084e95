-- Bytes that request no reply, delivered in parts; and what a picture's answer tells.
use Rattle.std.proofs.Common.{◌≡◌, ℕ, suc, ◌≤◌, Bool, true, false, ◌||◌, List, [], ◌∷◌, ◌++◌, length, is_some, sym, refl, ap, ◌∙◌, ⊎_elim, arith}
use Rattle.std.proofs.lemmas.List.{take_all}
use Rattle.std.proofs.lemmas.Bool.{or_parts}
use Rattle.reader.specs.Functions.{Function}
use Rattle.reader.specs.Steps.{Standing, step, standing_after, performed}
use Rattle.reader.specs.Requests.{requests, any_requests, until_request}
use Rattle.reader.specs.Laws.{is_in_sos}
use Rattle.reader.proofs.Parts.{performed_parts}
use Rattle.reader.proofs.Stopping.{request_later}
use Rattle.page.specs.Sheets.{Sheet}
use Rattle.page.specs.Effects.{stepped, run}
use Rattle.page.specs.Plain.{Plain, OnPanel, known, owes, after_bytes, delivered, leaves}
use Rattle.page.proofs.Deliveries.{delivered_goes}
use Rattle.page.proofs.Parts.{after_known}
use Rattle.page.proofs.Stepping.{stepped_standing, stepped_owes}
use Rattle.picture.specs.Writable.{Each}
use Rattle.picture.specs.Pictures.{drawing, picture_bytes}
use Rattle.picture.proofs.CellsDrawn.{Fine, Drawn}
use Rattle.reader.proofs.Stopping.{any_append}
use Rattle.picture.proofs.Drawn.{Ready, each}
use Rattle.picture.proofs.Restored.{picture_performs}
use Rattle.turns.proofs.Restoring.{run_append}

-- a function that requests nothing
Silent : Function → Type 0
Silent f = requests f ≡ false

none_requests : (fs : List Function) → Each Silent fs → any_requests fs ≡ false
unfolding Silent
none_requests [] e = refl
none_requests (f ∷ fs) e = ap (λ (t : Bool). t || any_requests fs) e.0 ∙ none_requests fs e.1

silent : Drawn Silent
unfolding Silent
silent = record {
  cups = λ l c hl hc. refl;
  sgrs = λ r. refl;
  shows = λ c g. refl;
  others = λ n f h e. ⊎_elim (λ z. rw z refl) (λ z. rw z refl) e;
  column_stop = refl;
  line_stop = refl;
}

-- a picture requests nothing of a page outside an SOS string
pub picture_silent : (a : Sheet) (s : Standing) → Ready a → Fine a.grid.cells → is_in_sos s ≡ false → any_requests (performed s (picture_bytes a)) ≡ false
picture_silent a s ok f o = ap any_requests (picture_performs a s ok f o) ∙ none_requests (drawing a) (each a ok Silent silent f)

-- such bytes are taken entire
quiet_all : (s : Standing) (bs : List ℕ) → any_requests (performed s bs) ≡ false → until_request s bs ≡ length bs
unfolding until_request
quiet_all s [] e = refl
quiet_all s (b ∷ bs) e =
    let both = sym (any_append (step s b).performs (performed (step s b).standing bs)) ∙ e in
    request_later s b bs (or_parts _ _ both).0 ∙ ap suc (quiet_all (step s b).standing bs (or_parts (any_requests (step s b).performs) _ both).1)

after_append : (x : Plain) (xs ys : List ℕ) → after_bytes x (xs ++ ys) ≡ after_bytes (after_bytes x xs) ys
after_append x xs ys = ap (λ (y : Sheet). record { started = x.started; sheet = y }) (run_append x.sheet xs ys)

-- where bytes leave the reader, and that they leave nothing owed
run_standing : (x : Sheet) (bs : List ℕ) → (run x bs).state.standing ≡ standing_after x.state.standing bs
unfolding run
run_standing x [] = refl
run_standing x (b ∷ bs) = run_standing (stepped x b) bs ∙ ap (λ (s : Standing). standing_after s bs) (stepped_standing x b)

run_free : (x : Sheet) (bs : List ℕ) → is_some x.state.owed ≡ false → any_requests (performed x.state.standing bs) ≡ false → is_some (run x bs).state.owed ≡ false
unfolding run
run_free x [] f e = f
run_free x (b ∷ bs) f e =
    let s = x.state.standing in
    let both = sym (any_append (step s b).performs (performed (step s b).standing bs)) ∙ e in
    run_free (stepped x b) bs (stepped_owes x b f ∙ (or_parts _ _ both).0) (ap (λ (q : Standing). any_requests (performed q bs)) (stepped_standing x b) ∙ (or_parts (any_requests (step s b).performs) _ both).1)

-- some of the bytes delivered, and the rest still to come
pub record Sending (was here : OnPanel) (bs rest_of : List ℕ) : Type 0 where
  pub knows : known here.plain ≡ true
  pub free : owes here.plain ≡ false
  pub quiet : any_requests (performed here.plain.sheet.state.standing rest_of) ≡ false
  pub left : after_bytes here.plain rest_of ≡ after_bytes was.plain bs
  pub beyond : here.beyond ≡ was.beyond

delivered_quiet : (x : Plain) (bs : List ℕ) → known x ≡ true → length bs ≤ 4096 → owes x ≡ false → any_requests (performed x.sheet.state.standing bs) ≡ false → delivered bs x ≡ after_bytes x bs
delivered_quiet x bs k l f q = delivered_goes x bs k l f ∙ ap (after_bytes x) (take_all (until_request x.sheet.state.standing bs) bs (let e = quiet_all x.sheet.state.standing bs q in omega (arith, e)))

pub sent : {was here : OnPanel} {bs rest_of : List ℕ} → Sending was here bs rest_of → (front back : List ℕ) (after : OnPanel) → rest_of ≡ front ++ back → length front ≤ 4096 → after ≡ leaves (delivered front) here → Sending was after bs back
sent {was} {here} {bs} {rest_of} g front back after cut few e =
    let x = here.plain in
    let s = x.sheet.state.standing in
    let parts = sym (any_append (performed s front) (performed (standing_after s front) back)) ∙ ap any_requests (sym (performed_parts s front back)) ∙ ap (λ (l : List ℕ). any_requests (performed s l)) (sym cut) ∙ g.quiet in
    let front_quiet = (or_parts _ _ parts).0 in
    let is : after.plain ≡ after_bytes x front = ap (λ (o : OnPanel). o.plain) e ∙ delivered_quiet x front g.knows few g.free front_quiet in
    record {
      knows = ap known is ∙ after_known x front g.knows;
      free = ap owes is ∙ run_free x.sheet front g.free front_quiet;
      quiet = ap (λ (p : Plain). any_requests (performed p.sheet.state.standing back)) is ∙ ap (λ (q : Standing). any_requests (performed q back)) (run_standing x.sheet front) ∙ (or_parts (any_requests (performed s front)) _ parts).1;
      left = ap (λ (p : Plain). after_bytes p back) is ∙ sym (after_append x front back) ∙ ap (after_bytes x) (sym cut) ∙ g.left;
      beyond = ap (λ (o : OnPanel). o.beyond) e ∙ g.beyond;
    }

pub sent_none : {was here : OnPanel} {bs : List ℕ} (rest_of : List ℕ) → Sending was here bs rest_of → length rest_of ≡ 0 → here ≡ leaves (λ x. after_bytes x bs) was
unfolding run
sent_none [] g e = λ i. record { plain = g.left i; beyond = g.beyond i }
sent_none (b ∷ rest_of) g e = absurd (omega (arith, e))
