-- A delivery in two parts is the delivery of the whole, while nothing is owed.
use Rattle.std.proofs.Common.{◌≡◌, ℕ, suc, ◌+◌, ◌≤◌, Bool, true, false, List, [], ◌∷◌, ◌++◌, length, take, is_some, sym, refl, ap, ◌∙◌, subst, arith, length-append}
use Rattle.std.proofs.lemmas.Bool.{both_ways, and_parts, and_from, eqb-true, eq-eqb}
use Rattle.reader.specs.Requests.{until_request}
use Rattle.page.specs.Sheets.{Sheet}
use Rattle.page.specs.Effects.{stepped, run}
use Rattle.page.specs.Plain.{Plain, known, owes, taken_at, taken, after_bytes, delivered}
use Rattle.page.specs.Laws.{DeliversInParts}
use Rattle.page.proofs.Stepping.{Fits, stepped_fits}
use Rattle.page.proofs.Deliveries.{fed, last_byte, one_byte, delivered_goes}

pub run_fits : (x : Sheet) (bs : List ℕ) → Fits x → Fits (run x bs)
unfolding run
run_fits x [] h = h
run_fits x (b ∷ bs) h = run_fits (stepped x b) bs (stepped_fits x b h)

pub known_fits : (x : Plain) → known x ≡ true → Fits x.sheet
known_fits x k =
    let a = and_parts x.started _ k in
    let b = and_parts _ _ a.1 in
    record { lines = eqb-true _ _ b.0; columns = eqb-true _ _ b.1 }

pub fits_known : (x : Plain) → x.started ≡ true → Fits x.sheet → known x ≡ true
fits_known x s f = and_from _ _ s (and_from _ _ (eq-eqb _ _ f.lines) (eq-eqb _ _ f.columns))

-- a page that is known is known after bytes
pub after_known : (x : Plain) (bs : List ℕ) → known x ≡ true → known (after_bytes x bs) ≡ true
after_known x bs k = fits_known (after_bytes x bs) (and_parts x.started _ k).0 (run_fits x.sheet bs (known_fits x k))

record InParts (x : Sheet) (xs ys : List ℕ) : Type 0 where
  bytes : taken_at x.state.standing (xs ++ ys) ≡ taken_at x.state.standing xs ++ taken_at (fed xs x).state.standing ys
  page : fed (xs ++ ys) x ≡ fed ys (fed xs x)

-- the first byte, and what follows it
taken_more : (x : Sheet) (b : ℕ) (l : List ℕ) → until_request x.state.standing (b ∷ l) ≡ suc (until_request (stepped x b).state.standing l) → taken_at x.state.standing (b ∷ l) ≡ b ∷ taken_at (stepped x b).state.standing l
taken_more x b l e = ap (λ (n : ℕ). take n (b ∷ l)) e

in_parts : (x : Sheet) (xs ys : List ℕ) → is_some x.state.owed ≡ false → is_some (fed xs x).state.owed ≡ false → InParts x xs ys
unfolding run until_request
in_parts x [] ys f g = record { bytes = refl; page = refl }
in_parts x (b ∷ xs) ys f g = by (is_some (stepped x b).state.owed) refl (in_parts (stepped x b) xs ys)
  where
    by : (t : Bool) → is_some (stepped x b).state.owed ≡ t → (is_some (stepped x b).state.owed ≡ false → is_some (fed xs (stepped x b)).state.owed ≡ false → InParts (stepped x b) xs ys) → InParts x (b ∷ xs) ys
    by true e more = absurd (both_ways (is_some (stepped x b).state.owed) (ap (λ (y : Sheet). is_some y.state.owed) (sym (last_byte x b xs f e).1) ∙ g) e)
    by false e more =
        let one = one_byte x b xs f e in
        let all = one_byte x b (xs ++ ys) f e in
        let then = more e (ap (λ (y : Sheet). is_some y.state.owed) (sym one.1) ∙ g) in
        record {
          bytes = taken_more x b (xs ++ ys) all.0 ∙ ap (λ (l : List ℕ). b ∷ l) then.bytes ∙ (λ i. sym (taken_more x b xs one.0) i ++ taken_at (sym one.1 i).state.standing ys);
          page = all.1 ∙ then.page ∙ ap (fed ys) (sym one.1);
        }

pub delivers_in_parts : DeliversInParts
delivers_in_parts x xs ys l k f g =
    let long : length xs + length ys ≤ 4096 = subst (λ (n : ℕ). n ≤ 4096) (length-append xs ys) l in
    let first : delivered xs x ≡ after_bytes x (taken x xs) = delivered_goes x xs k (omega (arith, long)) f in
    let free : owes (after_bytes x (taken x xs)) ≡ false = ap owes (sym first) ∙ g in
    let parts = in_parts x.sheet xs ys f free in
    let y = after_bytes x (taken x xs) in
    let second : delivered ys y ≡ after_bytes y (taken y ys) = delivered_goes y ys (after_known x (taken x xs) k) (omega (arith, long)) free in
    let whole : delivered (xs ++ ys) x ≡ after_bytes x (taken x (xs ++ ys)) = delivered_goes x (xs ++ ys) k l f in (
      parts.bytes ∙ ap (λ (p : Plain). taken x xs ++ taken p ys) (sym first),
      whole ∙ (λ i. record { started = x.started; sheet = parts.page i }) ∙ sym second ∙ ap (delivered ys) (sym first),
    )
