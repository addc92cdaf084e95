-- Turns from a start show the items of the bytes that they took.
use Rattle.std.proofs.Common.{◌≡◌, ℕ, ◌+◌, Bool, true, false, cond, ◌||◌, List, [], ◌∷◌, ◌++◌, length, is_some, sym, refl, ap, ◌∙◌, subst, append_assoc, append-nil, add_assoc, arith, length-append}
use Rattle.std.proofs.lemmas.Bool.{both_ways}
use Rattle.control.specs.declared.function.Control.{Control}
use Rattle.control.specs.Decoding.{decoded, values}
use Rattle.reader.specs.Functions.{Function}
use Rattle.reader.specs.Steps.{Standing, Outcome, rest, step, performed}
use Rattle.reader.specs.Requests.{requests, any_requests}
use Rattle.reader.proofs.Whole.{cuts_perform}
use Rattle.page.specs.Sheets.{Sheet, on_state, owing, reading}
use Rattle.page.specs.Effects.{effect, does, acts, stepped, run}
use Rattle.page.specs.Plain.{Plain, owes, settled, after_bytes, started_page}
use Rattle.page.proofs.Shapes.{Shape, quiet, whole, step_shape}
use Rattle.page.proofs.Kept.{Left, keeps, begins, owes as left_owes, effect_leaves}
use Rattle.page.proofs.Stepping.{stepped_standing, stepped_owes}
use Rattle.page.proofs.BytesAct.{shows_items}
use Rattle.turns.specs.Turns.{after, taken_in, sent_in}
use Rattle.turns.specs.Laws.{requested, shown_by, RunsShowItems}
use Rattle.turns.proofs.Blind.{free, stepped_blind}
use Rattle.turns.proofs.SoFar.{begins as so_far_none, all_turns, runs, made, next, pending, pending_of, owed_count}

-- a request is owed whatever was owed before it
done_owed : (f : Function) (x : Sheet) → is_some (does f (free x)).state.owed ≡ true → (does f (free x)).state.owed ≡ (does f x).state.owed
done_owed f x h = by (effect_leaves (decoded f) (values f) (free x))
  where
    by : Left (decoded f) (free x) (does f (free x)) → (does f (free x)).state.owed ≡ (does f x).state.owed
    by (keeps a k) = absurd (both_ways (is_some (does f (free x)).state.owed) (ap is_some k.owed) h)
    by (begins a e) = absurd (both_ways (is_some (does f (free x)).state.owed) (ap (λ (y : Sheet). is_some y.state.owed) e) h)
    by (left_owes r i a e) = ap (λ (y : Sheet). y.state.owed) e ∙ sym (ap (λ (g : Control). (effect g (values f) x).state.owed) i)

acts_owed : (o : Outcome) → Shape o → (x : Sheet) → is_some (acts o (free x)).state.owed ≡ true → (acts o (free x)).state.owed ≡ (acts o x).state.owed
acts_owed o (quiet s e) x h = absurd (both_ways false refl (sym (ap (λ (q : Outcome). is_some (acts q (free x)).state.owed) e) ∙ h))
acts_owed o (whole f d e) x h =
    ap (λ (q : Outcome). (acts q (free x)).state.owed) e
    ∙ done_owed f (on_state (reading rest) x) (ap (λ (q : Outcome). is_some (acts q (free x)).state.owed) (sym e) ∙ h)
    ∙ sym (ap (λ (q : Outcome). (acts q x).state.owed) e)

-- a byte that makes a reply owed leaves the same page, whatever was owed before it
step_owed : (x : Sheet) (b : ℕ) → is_some (stepped (free x) b).state.owed ≡ true → stepped (free x) b ≡ stepped x b
unfolding stepped
step_owed x b h =
    let o = step x.state.standing b in
    let same = acts_owed o (step_shape x.state.standing b) x h in
    let but = stepped_blind x b in
    λ i. on_state (owing (same i)) (but i)

-- bytes with a reply sent before each, beside the same bytes without
record Beside (p : Plain) (bs : List ℕ) : Type 0 where
  same : settled (runs p bs) ≡ settled (after_bytes p bs)
  owing_too : owes (runs p bs) ≡ true → runs p bs ≡ after_bytes p bs

runs_last : (p : Plain) (xs : List ℕ) (b : ℕ) → runs p (xs ++ b ∷ []) ≡ next (runs p xs) b
unfolding runs
runs_last p [] b = refl
runs_last p (x ∷ xs) b = runs_last (next p x) xs b

run_last : (x : Sheet) (xs : List ℕ) (b : ℕ) → run x (xs ++ b ∷ []) ≡ stepped (run x xs) b
unfolding run
run_last x [] b = refl
run_last x (y ∷ xs) b = run_last (stepped x y) xs b

beside_more : (p : Plain) (xs : List ℕ) (b : ℕ) → Beside p xs → Beside p (xs ++ b ∷ [])
beside_more p xs b h =
    let x = run p.sheet xs in
    let is : runs p (xs ++ b ∷ []) ≡ record { started = p.started; sheet = stepped (free x) b } = runs_last p xs b ∙ ap (λ (q : Plain). record { started = q.started; sheet = stepped q.sheet b }) h.same in
    let last : after_bytes p (xs ++ b ∷ []) ≡ record { started = p.started; sheet = stepped x b } = ap (λ (y : Sheet). record { started = p.started; sheet = y }) (run_last p.sheet xs b) in
    record {
      same = ap settled is ∙ (λ i. record { started = p.started; sheet = stepped_blind x b i }) ∙ ap settled (sym last);
      owing_too = λ o. is ∙ ap (λ (y : Sheet). record { started = p.started; sheet = y }) (step_owed x b (ap owes (sym is) ∙ o)) ∙ sym last;
    }

beside_from : (p : Plain) (done bs : List ℕ) → Beside p done → Beside p (done ++ bs)
beside_from p done [] h = subst (Beside p) (sym (append-nil done)) h
beside_from p done (b ∷ bs) h = subst (Beside p) (append_assoc done (b ∷ []) bs) (beside_from p (done ++ b ∷ []) bs (beside_more p done b h))

beside : (p : Plain) (bs : List ℕ) → Beside p bs
unfolding runs run
beside p bs = beside_from p [] bs (record { same = refl; owing_too = λ o. refl })

-- as many replies are made as were requested
requested_append : (fs gs : List Function) → requested (fs ++ gs) ≡ requested fs + requested gs
requested_append [] gs = omega arith
requested_append (f ∷ fs) gs = ap (λ (n : ℕ). cond (requests f) 1 0 + n) (requested_append fs gs) ∙ sym (add_assoc (cond (requests f) 1 0) (requested fs) (requested gs))

one_requested : (o : Outcome) → Shape o → requested o.performs ≡ cond (any_requests o.performs) 1 0
one_requested o (quiet s e) = subst (λ (q : Outcome). requested q.performs ≡ cond (any_requests q.performs) 1 0) (sym e) refl
one_requested o (whole f d e) = subst (λ (q : Outcome). requested q.performs ≡ cond (any_requests q.performs) 1 0) (sym e) (by (requests f))
  where
    by : (b : Bool) → ◌≡◌ {A = ℕ} (cond b 1 0 + 0) (cond (b || false) 1 0)
    by true = refl
    by false = refl

made_count : (p : Plain) (bs : List ℕ) → length (made p bs) ≡ requested (performed p.sheet.state.standing bs)
unfolding made
made_count p [] = refl
made_count p (b ∷ bs) =
    let s = p.sheet.state.standing in
    let o = step s b in
    let one : length (pending (next p b)) ≡ requested o.performs =
    owed_count (next p b) ∙ ap (λ (t : Bool). cond t 1 0) (stepped_owes (settled p).sheet b refl) ∙ sym (one_requested o (step_shape s b))
    in
    length-append (pending (next p b)) (made (next p b) bs)
    ∙ (λ i. one i + made_count (next p b) bs i)
    ∙ ap (λ (t : Standing). requested o.performs + requested (performed t bs)) (stepped_standing (settled p).sheet b)
    ∙ sym (requested_append o.performs (performed o.standing bs))

pub runs_show_items : RunsShowItems
unfolding pending_of
runs_show_items g st ts ps c =
    let x = started_page g in
    let bs = taken_in x ts in
    let s = all_turns x ts [] [] x (so_far_none x) in
    let near = beside x bs in
    let is : after_bytes x bs ≡ shown_by g ps bs c = ap (λ (y : Sheet). record { started = true; sheet = y }) (shows_items g ps bs c) in
    record {
      same = s.same ∙ near.same ∙ ap settled is;
      owing = λ o. let e = s.last o in e ∙ near.owing_too (ap owes (sym e) ∙ o) ∙ is;
      count =
          ap (λ (n : ℕ). length (sent_in x ts) + n) (sym (owed_count (after x ts)))
          ∙ sym (length-append (sent_in x ts) (pending (after x ts)))
          ∙ ap length s.replies
          ∙ made_count x bs
          ∙ ap requested (cuts_perform 0 ps bs c);
    }
