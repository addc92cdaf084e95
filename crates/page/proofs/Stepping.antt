-- What a byte leaves: where the reader stands, whether a reply is owed, and a panel of the page's size.
use Rattle.std.proofs.Common.{◌≡◌, ℕ, Bool, true, false, ◌||◌, is_some, Option, sym, refl, ap, ◌∙◌, subst}
use Rattle.control.specs.declared.function.Report.{Report}
use Rattle.reader.specs.Functions.{Function}
use Rattle.reader.specs.Steps.{Outcome, rest, step}
use Rattle.reader.specs.Requests.{requests, any_requests}
use Rattle.control.specs.Decoding.{decoded, values}
use Rattle.page.specs.Sheets.{Sheet, on_state, reading}
use Rattle.page.specs.Effects.{begun, does, acts, stepped}
use Rattle.page.proofs.Shapes.{Shape, quiet, whole, step_shape}
use Rattle.page.proofs.Kept.{asks, Left, keeps, begins, owes, effect_leaves, erase_size}
use Rattle.page.proofs.Owing.{decoded_asks}

-- a page beside a grid of its size
pub record Fits (x : Sheet) : Type 0 where
  pub lines : x.state.lines ≡ x.grid.lines
  pub columns : x.state.columns ≡ x.grid.columns

leaves : (f : Function) (x : Sheet) → Left (decoded f) x (does f x)
leaves f x = effect_leaves (decoded f) (values f) x

-- a function leaves a reader at rest there
does_standing : (f : Function) (x : Sheet) → x.state.standing ≡ rest → (does f x).state.standing ≡ rest
does_standing f x h = by (leaves f x)
  where
    by : Left (decoded f) x (does f x) → (does f x).state.standing ≡ rest
    by (keeps a k) = k.standing ∙ h
    by (begins a e) = ap (λ (y : Sheet). y.state.standing) e
    by (owes r i a e) = ap (λ (y : Sheet). y.state.standing) e ∙ h

pub does_owes : (f : Function) (x : Sheet) → is_some x.state.owed ≡ false → is_some (does f x).state.owed ≡ requests f
does_owes f x h = by (leaves f x) ∙ decoded_asks f
  where
    by : Left (decoded f) x (does f x) → is_some (does f x).state.owed ≡ asks (decoded f)
    by (keeps a k) = ap (λ (o : Option Report). is_some o) k.owed ∙ h ∙ sym a
    by (begins a e) = ap (λ (y : Sheet). is_some y.state.owed) e ∙ sym a
    by (owes r i a e) = ap (λ (y : Sheet). is_some y.state.owed) e ∙ sym a

begun_fits : (x : Sheet) → Fits (begun x.grid)
begun_fits x = let e = erase_size x.grid 1 1 _ in record { lines = sym e.lines; columns = sym e.columns }

pub does_fits : (f : Function) (x : Sheet) → Fits x → Fits (does f x)
does_fits f x h = by (leaves f x)
  where
    by : Left (decoded f) x (does f x) → Fits (does f x)
    by (keeps a k) = record { lines = k.lines ∙ h.lines ∙ sym k.size.lines; columns = k.columns ∙ h.columns ∙ sym k.size.columns }
    by (begins a e) = subst Fits (sym e) (begun_fits x)
    by (owes r i a e) = subst Fits (sym e) (record { lines = h.lines; columns = h.columns })

or_false : (b : Bool) → b ≡ (b || false)
or_false true = refl
or_false false = refl

acts_standing : (o : Outcome) → Shape o → (x : Sheet) → (acts o x).state.standing ≡ o.standing
acts_standing o (quiet s e) x = subst (λ (q : Outcome). (acts q x).state.standing ≡ q.standing) (sym e) refl
acts_standing o (whole f d e) x = subst (λ (q : Outcome). (acts q x).state.standing ≡ q.standing) (sym e) (does_standing f (on_state (reading rest) x) refl)

acts_owes : (o : Outcome) → Shape o → (x : Sheet) → is_some x.state.owed ≡ false → is_some (acts o x).state.owed ≡ any_requests o.performs
acts_owes o (quiet s e) x h = subst (λ (q : Outcome). is_some (acts q x).state.owed ≡ any_requests q.performs) (sym e) h
acts_owes o (whole f d e) x h = subst (λ (q : Outcome). is_some (acts q x).state.owed ≡ any_requests q.performs) (sym e) (does_owes f (on_state (reading rest) x) h ∙ or_false (requests f))

acts_fits : (o : Outcome) → Shape o → (x : Sheet) → Fits x → Fits (acts o x)
acts_fits o (quiet s e) x h = subst (λ (q : Outcome). Fits (acts q x)) (sym e) (record { lines = h.lines; columns = h.columns })
acts_fits o (whole f d e) x h = subst (λ (q : Outcome). Fits (acts q x)) (sym e) (does_fits f (on_state (reading rest) x) (record { lines = h.lines; columns = h.columns }))

pub stepped_standing : (x : Sheet) (b : ℕ) → (stepped x b).state.standing ≡ (step x.state.standing b).standing
unfolding stepped
stepped_standing x b = acts_standing (step x.state.standing b) (step_shape x.state.standing b) x

pub stepped_owes : (x : Sheet) (b : ℕ) → is_some x.state.owed ≡ false → is_some (stepped x b).state.owed ≡ any_requests (step x.state.standing b).performs
unfolding stepped
stepped_owes x b h = acts_owes (step x.state.standing b) (step_shape x.state.standing b) x h

pub stepped_fits : (x : Sheet) (b : ℕ) → Fits x → Fits (stepped x b)
unfolding stepped
stepped_fits x b h = acts_fits (step x.state.standing b) (step_shape x.state.standing b) x h
