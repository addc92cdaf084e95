-- A reply that is sent, or refused.
use Rattle.std.proofs.Common.{◌≡◌, ℕ, Bool, true, false, cond, leb, List, [], length, is_some, Some, None, Option, IsErrAnd, Ok, Err, Result, sym, refl, ap, subst}
use Rattle.std.specs.Option.{option_map}
use Rattle.std.proofs.lemmas.Bool.{true≢false}
use Rattle.refusal.specs.declared.Refusal.{Refusal}
use Rattle.refusal.specs.declared.Layer.TheVariants as layer
use Rattle.refusal.specs.declared.Place.TheVariants.{Length}
use Rattle.refusal.specs.Table.{Answer, accepted, refused, is_accepted, answer}
use Rattle.panel.specs.Grids.{Grid}
use Rattle.page.specs.declared.page.Page.{Page}
use Rattle.page.specs.declared.state.State.{State}
use Rattle.page.specs.declared.view.View.{View}
use Rattle.page.specs.Plain.{Plain, plain, state_in, settled, view_of, view_of_state, page_refuses}
use Rattle.picture.specs.Tape.{over}
use Rattle.picture.specs.Pictures.{reply_bytes}
use Rattle.picture.specs.Calls.{Outcome, Does, refuses, replies}
use Rattle.picture.specs.Views.{state_seen, seen, Replies}

abbrev shown : View → Option View → View
shown d None = d
shown d (Some v) = v

-- a page that can be viewed is what is seen of it
viewed_state : (o : Option State) (v : View) (g : Grid) → Some v ≡ option_map view_of_state o
    → record { started = is_some o; sheet = record { state = state_in o; grid = g } } ≡ seen v g
viewed_state None v g e = absurd (true≢false (ap is_some e))
viewed_state (Some s) v g e =
    let is : v ≡ view_of_state s = ap (shown v) e in
    λ i. record { started = true; sheet = record { state = sym (ap state_seen is) i; grid = g } }

pub viewed : (p : Page) (v : View) (g : Grid) → Some v ≡ view_of p → plain p g ≡ seen v g
viewed p v g e = viewed_state p.state v g e

-- what a reply comes to, by whether one is owed and whether it fits
abbrev by_ways : Plain → List ℕ → Bool → Bool → Outcome
by_ways x w o l =
    cond o (record { says = cond l (accepted (length w)) (refused 8 layer.Writer (Length (length w))); after = cond l (settled x) x; writes = cond l w [] }) (refuses x (page_refuses 5))

-- the page after a reply: one that is accepted is sent
abbrev pub after_reply : Answer ℕ → Plain → Plain
after_reply a x = cond (is_accepted a) (settled x) x

module _ (x : Plain) (w b b' : List ℕ) (r : Result ℕ Refusal) where
  replied_if : (o l : Bool) → answer r ≡ cond o (cond l (accepted (length w)) (refused 8 layer.Writer (Length (length w)))) (page_refuses 5) → b' ≡ over (cond o (cond l w []) []) b → Does (by_ways x w o l) r (after_reply (answer r) x) b b'
  replied_if true true e h = record { says = e; leaves = ap (λ a. after_reply a x) e; wrote = h }
  replied_if true false e h = record { says = e; leaves = ap (λ a. after_reply a x) e; wrote = h }
  replied_if false l e h = record { says = e; leaves = ap (λ a. after_reply a x) e; wrote = h }

module _ (p : Page) (v : View) (g : Grid) (e : Some v ≡ view_of p) (b b' : List ℕ) (r : Result ℕ Refusal) where
  pub replied : (q : Plain) → q ≡ after_reply (answer r) (plain p g) → Replies (state_seen v) r b b' → Does (replies (length b) (plain p g)) r q b b'
  replied q eq d =
      let is = viewed p v g e in
      let w = reply_bytes (state_seen v) in
      let o = replied_if (seen v g) w b b' r (is_some v.owed) (leb (length w) (length b)) d.says d.wrote in
      subst (λ y. Does (replies (length b) (plain p g)) r y b b') (sym eq) (subst (λ y. Does (replies (length b) y) r (after_reply (answer r) y) b b') (sym is) o)

-- a reply that was not written leaves the page
pub not_replied : (p : Page) (v : View) (g : Grid) (e : Some v ≡ view_of p) (b b' : List ℕ) (r : Result ℕ Refusal) (f : Refusal)
    → IsErrAnd r (λ x. x ≡ f) → Replies (state_seen v) (Err f) b b' → Does (replies (length b) (plain p g)) r (plain p g) b b'
not_replied p v g e b b' (Ok n) f h d = absurd h
not_replied p v g e b b' (Err x) f h d = replied p v g e b b' (Err x) (plain p g) refl (subst (λ y. Replies (state_seen v) (Err y) b b') (sym h) d)
