-- What a call wrote is the front of its buffer, as long as the answer counts.
use Rattle.std.proofs.Common.{◌≡◌, ℕ, ◌+◌, ◌/◌, ◌%◌, ◌≤◌, Bool, true, false, cond, leb, List, [], ◌++◌, length, take, drop, Some, None, Option, IsErrAnd, Ok, Err, Result, sym, refl, ap, ◌∙◌, arith}
use Rattle.std.proofs.lemmas.List.{take_at}
use Rattle.std.proofs.lemmas.Bool.{cond_both, leb-true}
use Rattle.refusal.specs.Table.{accepted, refused, answer}
use Rattle.refusal.specs.declared.Refusal.{Refusal}
use Rattle.refusal.specs.declared.Layer.TheVariants as layer
use Rattle.refusal.specs.declared.Place.TheVariants.{Length, At}
use Rattle.reader.specs.Steps.{is_at_rest}
use Rattle.page.specs.Plain.{Plain, known, owes, settled}
use Rattle.picture.specs.Pictures.{picture_bytes, reply_bytes, first_foreign}
use Rattle.picture.specs.Calls.{Outcome, Does, refuses, fronts, replies, draws, pictures}
use Rattle.panel.specs.Screens.{Beyond}
use Rattle.turns.specs.Running.{count_of, Did}

pub record Counted (room : ℕ) (o : Outcome) : Type 0 where
  pub counts : count_of o.says ≡ length o.writes
  pub fits : length o.writes ≤ room

refused_counted : (room : ℕ) (x : Plain) (n : ℕ) (l : layer.the_data) (p : _) → Counted room (refuses x (refused n l p))
refused_counted room x n l p = record { counts = refl; fits = omega arith }

fronts_counted : (x y : Plain) (bs : List ℕ) (room : ℕ) → Counted room (fronts x y bs room)
fronts_counted x y bs room = by (leb (length bs) room) refl
  where
    by : (r : Bool) → leb (length bs) room ≡ r → Counted room (record { says = cond r (accepted (length bs)) (refused 8 layer.Writer (Length (length bs))); after = cond r y x; writes = cond r bs [] })
    by true e = record { counts = refl; fits = leb-true (length bs) room e }
    by false e = record { counts = refl; fits = omega arith }

pub replies_counted : (room : ℕ) (x : Plain) → Counted room (replies room x)
replies_counted room x =
    cond_both x.started _ _ (Counted room)
    (λ s. cond_both (owes x) _ _ (Counted room) (λ o. fronts_counted x (settled x) (reply_bytes x.sheet.state) room) (λ o. refused_counted room x _ _ _))
    (λ s. refused_counted room x _ _ _)

draws_counted : (room : ℕ) (x : Plain) → Counted room (draws room x)
draws_counted room x = by (first_foreign 0 x.sheet.grid.cells)
  where
    by : (f : Option ℕ) → Counted room (elim f [ Some k ↦ refuses x (refused 7 layer.Page (At (k / x.sheet.grid.columns + 1) (k % x.sheet.grid.columns + 1))) | None ↦ fronts x x (picture_bytes x.sheet) room ])
    by (Some k) = refused_counted room x _ _ _
    by None = fronts_counted x x (picture_bytes x.sheet) room

pub pictures_counted : (room : ℕ) (x : Plain) → Counted room (pictures room x)
pictures_counted room x =
    cond_both (known x) _ _ (Counted room)
    (λ k. cond_both (owes x) _ _ (Counted room) (λ o. refused_counted room x _ _ _)
    (λ o. cond_both (is_at_rest x.sheet.state.standing) _ _ (Counted room) (λ r. draws_counted room x) (λ r. refused_counted room x _ _ _)))
    (λ k. refused_counted room x _ _ _)

pub record Front (n : ℕ) (o : Outcome) (b b' : List ℕ) : Type 0 where
  pub fits : n ≤ length b
  pub front : take n b' ≡ o.writes

pub front_written : {o : Outcome} {r : Result ℕ Refusal} {y : Plain} {b b' : List ℕ} (n : ℕ) → Does o r y b b' → Counted (length b) o → n ≡ count_of (answer r) → Front n o b b'
front_written {o} {r} {y} {b} {b'} n d c e =
    let m : n ≡ length o.writes = e ∙ ap count_of d.says ∙ c.counts in
    record { fits = omega (arith, c.fits, m); front = ap (take n) d.wrote ∙ take_at o.writes (drop (length o.writes) b) n (sym m) }

-- a call refused what another refused
pub refused_as : (r : Result ℕ Refusal) (e : Refusal) → IsErrAnd r (λ f. f ≡ e) → answer r ≡ answer {A = ℕ} (Err e)
refused_as (Ok n) e h = absurd h
refused_as (Err f) e h = ap (λ (q : Refusal). answer {A = ℕ} (Err q)) h

-- what a call wrote at the front of its buffer, added to what was written before
module _ {o : Outcome} {r : Result ℕ Refusal} {y : Plain} {b b' : List ℕ} (d : Does o r y b b') (k : Counted (length b) o) (c : List ℕ) (same : c ≡ b') where
  pub kept_fits : length b' ≡ length b → count_of (answer r) ≤ length c
  kept_fits long = let f = front_written (count_of (answer r)) d k refl in omega (arith, f.fits, long, ap length same)

  pub kept : (β : Beyond) {w w' : List ℕ} → w' ≡ w ++ take (count_of (answer r)) c → Did o r β (record { plain = y; beyond = β }) w w'
  kept β {w} {w'} e =
      let f = front_written (count_of (answer r)) d k refl in
      record {
        says = d.says;
        leaves = ap (λ (p : Plain). record { plain = p; beyond = β }) d.leaves;
        adds = e ∙ ap (λ (l : List ℕ). w ++ take (count_of (answer r)) l) same ∙ ap (λ (l : List ℕ). w ++ l) f.front;
      }
