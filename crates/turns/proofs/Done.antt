-- What one turn does: nothing, or it takes bytes, or it sends a reply.
use Rattle.std.proofs.Common.{◌≡◌, ℕ, ◌+◌, ◌/◌, ◌%◌, Bool, true, false, cond, leb, List, [], ◌∷◌, length, take, Some, None, Option, refl, ap}
use Rattle.std.proofs.lemmas.Bool.{cond_both}
use Rattle.refusal.specs.Table.{Answer, accepted, refused}
use Rattle.refusal.specs.declared.Layer.TheVariants as layer
use Rattle.refusal.specs.declared.Place.TheVariants.{Length, At}
use Rattle.reader.specs.Steps.{is_at_rest}
use Rattle.page.specs.Plain.{Plain, known, owes, settled, taken, after_bytes, page_refuses}
use Rattle.page.proofs.Deliveries.{taken_count}
use Rattle.picture.specs.Pictures.{reply_bytes, picture_bytes, first_foreign}
use Rattle.picture.specs.Calls.{Outcome, refuses, fronts, replies, pictures, draws}
use Rattle.turns.specs.Turns.{Turn, deliver, reply, picture, counted, turn, took, gave}

pub data Done (x : Plain) (t : Turn) (o : Outcome) : Type 0 where
  nothing : o.after ≡ x → took t o ≡ [] → gave t o ≡ [] → Done x t o
  bytes : (bs : List ℕ) → known x ≡ true → owes x ≡ false → o.after ≡ after_bytes x (taken x bs) → took t o ≡ taken x bs → gave t o ≡ [] → Done x t o
  sends : owes x ≡ true → o.after ≡ settled x → took t o ≡ [] → gave t o ≡ reply_bytes x.sheet.state ∷ [] → Done x t o

-- a delivery, by the three tests
abbrev outcome : Answer ℕ → Plain → Outcome
outcome a y = record { says = a; after = y; writes = [] }

deliver_by : (x : Plain) (bs : List ℕ) (k l o : Bool) → known x ≡ k → owes x ≡ o
    → Done x (deliver bs) (outcome (counted (cond k (cond l (cond o (page_refuses 4) (accepted (record { taken = length (taken x bs) }))) (page_refuses 3)) (page_refuses 2))) (cond k (cond l (cond o x (after_bytes x (taken x bs))) x) x))
deliver_by x bs false l o ek eo = nothing refl refl refl
deliver_by x bs true false o ek eo = nothing refl refl refl
deliver_by x bs true true true ek eo = nothing refl refl refl
deliver_by x bs true true false ek eo = bytes bs ek eo refl (ap (λ (n : ℕ). take n bs) (taken_count x.sheet.state.standing bs)) refl

-- bytes at a buffer's front, by its room
fronts_by : (x y : Plain) (bs : List ℕ) (room : ℕ) (P : Outcome → Type 0) → P (record { says = accepted (length bs); after = y; writes = bs }) → P (record { says = refused 8 layer.Writer (Length (length bs)); after = x; writes = [] }) → P (fronts x y bs room)
fronts_by x y bs room P a b = by (leb (length bs) room)
  where
    by : (r : Bool) → P (record { says = cond r (accepted (length bs)) (refused 8 layer.Writer (Length (length bs))); after = cond r y x; writes = cond r bs [] })
    by true = a
    by false = b

reply_done : (x : Plain) (room : ℕ) → Done x (reply room) (replies room x)
reply_done x room =
    cond_both x.started _ _ (Done x (reply room))
    (λ s. cond_both (owes x) _ _ (Done x (reply room)) (λ o. fronts_by x (settled x) (reply_bytes x.sheet.state) room (Done x (reply room)) (sends o refl refl refl) (nothing refl refl refl)) (λ o. nothing refl refl refl))
    (λ s. nothing refl refl refl)

-- a picture leaves everything
draws_nothing : (x : Plain) (room : ℕ) → Done x (picture room) (draws room x)
draws_nothing x room = by (first_foreign 0 x.sheet.grid.cells)
  where
    by : (f : Option ℕ) → Done x (picture room) (elim f [ Some k ↦ refuses x (refused 7 layer.Page (At (k / x.sheet.grid.columns + 1) (k % x.sheet.grid.columns + 1))) | None ↦ fronts x x (picture_bytes x.sheet) room ])
    by (Some k) = nothing refl refl refl
    by None = fronts_by x x (picture_bytes x.sheet) room (Done x (picture room)) (nothing refl refl refl) (nothing refl refl refl)

picture_done : (x : Plain) (room : ℕ) → Done x (picture room) (pictures room x)
picture_done x room =
    cond_both (known x) _ _ (Done x (picture room))
    (λ k. cond_both (owes x) _ _ (Done x (picture room)) (λ o. nothing refl refl refl)
    (λ o. cond_both (is_at_rest x.sheet.state.standing) _ _ (Done x (picture room)) (λ r. draws_nothing x room) (λ r. nothing refl refl refl)))
    (λ k. nothing refl refl refl)

pub turn_done : (x : Plain) (t : Turn) → Done x t (turn x t)
unfolding turn
turn_done x (deliver bs) = deliver_by x bs (known x) (leb (length bs) 4096) (owes x) refl refl
turn_done x (reply room) = reply_done x room
turn_done x (picture room) = picture_done x room
