-- What turns come to, from a first page: the bytes taken settle the page but for what is owed, and the replies.
use Rattle.std.proofs.Common.{◌≡◌, ℕ, Bool, true, false, cond, List, [], ◌∷◌, ◌++◌, length, take, is_some, Some, None, Option, sym, refl, ap, ◌∙◌, subst, append_assoc, append-nil, arith}
use Rattle.std.proofs.lemmas.Bool.{both_ways}
use Rattle.control.specs.declared.function.Report.{Report}
use Rattle.reader.specs.Requests.{until_request}
use Rattle.page.specs.Sheets.{State, on_state, owing}
use Rattle.page.specs.Effects.{stepped, run}
use Rattle.page.specs.Plain.{Plain, owes, settled, taken, after_bytes}
use Rattle.page.proofs.Deliveries.{last_byte, one_byte}
use Rattle.picture.specs.Pictures.{reply_bytes}
use Rattle.picture.specs.Calls.{Outcome}
use Rattle.turns.specs.Turns.{Turn, turn, took, gave, after, taken_in, sent_in}
use Rattle.turns.specs.Laws.{SameBytesSamePage}
use Rattle.turns.proofs.Done.{Done, nothing, bytes, sends, turn_done}

pub none_owed : {A : Type 0} (o : Option A) → is_some o ≡ false → o ≡ None
none_owed None h = refl
none_owed (Some x) h = absurd (both_ways true h refl)

pub settled_same : (p : Plain) → owes p ≡ false → settled p ≡ p
settled_same p h = let e = none_owed p.sheet.state.owed h in λ i. record { started = p.started; sheet = on_state (owing (sym e i)) p.sheet }

-- the reply that a page still owes
unfoldable pub pending_of : State → Option Report → List (List ℕ)
pending_of s None = []
pending_of s (Some r) = reply_bytes s ∷ []

abbrev pub pending : Plain → List (List ℕ)
pending p = pending_of p.sheet.state p.sheet.state.owed

pending_none : (s : State) (o : Option Report) → is_some o ≡ false → pending_of s o ≡ []
unfolding pending_of
pending_none s None h = refl
pending_none s (Some r) h = absurd (both_ways true h refl)

pending_some : (s : State) (o : Option Report) → is_some o ≡ true → pending_of s o ≡ reply_bytes s ∷ []
unfolding pending_of
pending_some s None h = absurd (both_ways false refl h)
pending_some s (Some r) h = refl

-- bytes one after the other, each reply sent before the next byte; and the replies made on the way
abbrev pub next : Plain → ℕ → Plain
next p b = record { started = p.started; sheet = stepped (settled p).sheet b }

unfoldable pub runs : Plain → List ℕ → Plain
runs p [] = p
runs p (b ∷ bs) = runs (next p b) bs

unfoldable pub made : Plain → List ℕ → List (List ℕ)
made p [] = []
made p (b ∷ bs) = pending (next p b) ++ made (next p b) bs

runs_append : (p : Plain) (xs ys : List ℕ) → runs p (xs ++ ys) ≡ runs (runs p xs) ys
unfolding runs
runs_append p [] ys = refl
runs_append p (x ∷ xs) ys = runs_append (next p x) xs ys

made_append : (p : Plain) (xs ys : List ℕ) → made p (xs ++ ys) ≡ made p xs ++ made (runs p xs) ys
unfolding runs made
made_append p [] ys = refl
made_append p (x ∷ xs) ys = ap (λ (l : List (List ℕ)). pending (next p x) ++ l) (made_append (next p x) xs ys) ∙ sym (append_assoc (pending (next p x)) (made (next p x) xs) (made (runs (next p x) xs) ys))

-- a delivery to a page that owes nothing
record Goes (p : Plain) (u : List ℕ) : Type 0 where
  page : runs p u ≡ after_bytes p u
  one : made p u ≡ pending (after_bytes p u)

goes_first : (p : Plain) (b : ℕ) (u : List ℕ) → owes p ≡ false → runs (after_bytes p (b ∷ [])) u ≡ after_bytes p (b ∷ u) → pending (after_bytes p (b ∷ [])) ++ made (after_bytes p (b ∷ [])) u ≡ pending (after_bytes p (b ∷ u)) → Goes p (b ∷ u)
unfolding runs made run
goes_first p b u f g e =
    let same : next p b ≡ after_bytes p (b ∷ []) = ap (λ (q : Plain). record { started = p.started; sheet = stepped q.sheet b }) (settled_same p f) in
    record {
      page = ap (λ (q : Plain). runs q u) same ∙ g;
      one = ap (λ (q : Plain). pending q ++ made q u) same ∙ e;
    }

goes_none : (p : Plain) → owes p ≡ false → Goes p []
unfolding runs made run
goes_none p f = record { page = refl; one = sym (pending_none p.sheet.state p.sheet.state.owed f) }

goes : (bs : List ℕ) (p : Plain) → owes p ≡ false → Goes p (taken p bs)
unfolding run until_request runs made
goes [] p f = goes_none p f
goes (b ∷ bs) p f = by (is_some (stepped p.sheet b).state.owed) refl (goes bs (after_bytes p (b ∷ [])))
  where
    q : Plain
    q = after_bytes p (b ∷ [])

    by : (t : Bool) → is_some (stepped p.sheet b).state.owed ≡ t → (owes (after_bytes p (b ∷ [])) ≡ false → Goes (after_bytes p (b ∷ [])) (taken (after_bytes p (b ∷ [])) bs)) → Goes p (taken p (b ∷ bs))
    by true e more =
        let one = last_byte p.sheet b bs f e in
        subst (λ (n : ℕ). Goes p (take n (b ∷ bs))) (sym one.0) (goes_first p b [] f refl (append-nil (pending q)))
    by false e more =
        let one = one_byte p.sheet b bs f e in
        let then = more e in
        subst (λ (n : ℕ). Goes p (take n (b ∷ bs))) (sym one.0)
        (goes_first p b (taken q bs) f then.page (ap (λ (l : List (List ℕ)). l ++ made q (taken q bs)) (pending_none q.sheet.state q.sheet.state.owed e) ∙ then.one))

-- what has been taken and sent so far, from a first page
pub record SoFar (first : Plain) (taken_so : List ℕ) (sent_so : List (List ℕ)) (p : Plain) : Type 0 where
  pub same : settled p ≡ settled (runs first taken_so)
  pub last : owes p ≡ true → p ≡ runs first taken_so
  pub replies : sent_so ++ pending p ≡ pending first ++ made first taken_so

pub begins : (p : Plain) → SoFar p [] [] p
unfolding runs made
begins p = record { same = refl; last = λ z. refl; replies = sym (append-nil (pending p)) }

module _ (first : Plain) (got : List ℕ) (sent : List (List ℕ)) where
  kept : (p : Plain) → SoFar first got sent p → SoFar first (got ++ []) (sent ++ []) p
  kept p s = subst (λ (l : List ℕ). SoFar first l (sent ++ []) p) (sym (append-nil got)) (subst (λ (l : List (List ℕ)). SoFar first got l p) (sym (append-nil sent)) s)

  took_bytes : (p : Plain) (u : List ℕ) → owes p ≡ false → Goes p u → SoFar first got sent p → SoFar first (got ++ u) (sent ++ []) (after_bytes p u)
  unfolding runs made run
  took_bytes p [] f g s = kept p s
  took_bytes p (b ∷ u) f g s =
      let quiet : settled p ≡ settled (runs first got) = s.same in
      let from_first : runs first (got ++ (b ∷ u)) ≡ runs p (b ∷ u) = runs_append first got (b ∷ u) ∙ ap (λ (q : Plain). runs (record { started = q.started; sheet = stepped q.sheet b }) u) (sym quiet) in
      let is : after_bytes p (b ∷ u) ≡ runs first (got ++ (b ∷ u)) = sym (from_first ∙ g.page) in
      let empty = pending_none p.sheet.state p.sheet.state.owed f in
      let sent_is : sent ≡ pending first ++ made first got = sym (append-nil sent) ∙ ap (λ (l : List (List ℕ)). sent ++ l) (sym empty) ∙ s.replies in
      let one : pending (after_bytes p (b ∷ u)) ≡ made (runs first got) (b ∷ u) = sym g.one ∙ ap (λ (q : Plain). pending (record { started = q.started; sheet = stepped q.sheet b }) ++ made (record { started = q.started; sheet = stepped q.sheet b }) u) quiet in
      record {
        same = ap settled is;
        last = λ z. is;
        replies =
            ap (λ (l : List (List ℕ)). l ++ pending (after_bytes p (b ∷ u))) (append-nil sent)
            ∙ (λ i. sent_is i ++ one i)
            ∙ append_assoc (pending first) (made first got) (made (runs first got) (b ∷ u))
            ∙ ap (λ (l : List (List ℕ)). pending first ++ l) (sym (made_append first got (b ∷ u)));
      }

  sent_reply : (p : Plain) → owes p ≡ true → SoFar first got sent p → SoFar first (got ++ []) (sent ++ (reply_bytes p.sheet.state ∷ [])) (settled p)
  unfolding pending_of
  sent_reply p o s = record {
    same = s.same ∙ ap (λ (l : List ℕ). settled (runs first l)) (sym (append-nil got));
    last = λ z. absurd (both_ways false refl z);
    replies =
        append-nil _ ∙ ap (λ (l : List (List ℕ)). sent ++ l) (sym (pending_some p.sheet.state p.sheet.state.owed o)) ∙ s.replies
        ∙ ap (λ (l : List ℕ). pending first ++ made first l) (sym (append-nil got));
  }

  one_turn : (p : Plain) (t : Turn) (o : Outcome) → Done p t o → SoFar first got sent p → SoFar first (got ++ took t o) (sent ++ gave t o) o.after
  one_turn p t o (nothing a k g) s = at_end (sym a) (sym k) (sym g) (kept p s)
    where
      at_end : {q q' : Plain} {u u' : List ℕ} {v v' : List (List ℕ)} → q ≡ q' → u ≡ u' → v ≡ v' → SoFar first (got ++ u) (sent ++ v) q → SoFar first (got ++ u') (sent ++ v') q'
      at_end a k g x = subst (λ y. y) (λ i. SoFar first (got ++ k i) (sent ++ g i) (a i)) x
  one_turn p t o (bytes bs kn f a k g) s = subst (λ y. y) (λ i. SoFar first (got ++ sym k i) (sent ++ sym g i) (sym a i)) (took_bytes p (taken p bs) f (goes bs p f) s)
  one_turn p t o (sends w a k g) s = subst (λ y. y) (λ i. SoFar first (got ++ sym k i) (sent ++ sym g i) (sym a i)) (sent_reply p w s)

pub all_turns : (first : Plain) (ts : List Turn) (got : List ℕ) (sent : List (List ℕ)) (p : Plain) → SoFar first got sent p → SoFar first (got ++ taken_in p ts) (sent ++ sent_in p ts) (after p ts)
unfolding after taken_in sent_in
all_turns first [] got sent p s = kept first got sent p s
all_turns first (t ∷ ts) got sent p s =
    subst (λ y. y) (λ i. SoFar first (append_assoc got (took t (turn p t)) (taken_in (turn p t).after ts) i) (append_assoc sent (gave t (turn p t)) (sent_in (turn p t).after ts) i) (after (turn p t).after ts))
    (all_turns first ts (got ++ took t (turn p t)) (sent ++ gave t (turn p t)) (turn p t).after (one_turn first got sent p t (turn p t) (turn_done p t) s))

split_same : {A : Type 0} (xs ys us vs : List A) → xs ++ us ≡ ys ++ vs → length xs ≡ length ys → (xs ≡ ys) × (us ≡ vs)
split_same [] [] us vs e n = (refl, e)
split_same [] (y ∷ ys) us vs e n = absurd (omega arith)
split_same (x ∷ xs) [] us vs e n = absurd (omega arith)
split_same (x ∷ xs) (y ∷ ys) us vs e n =
    let h : x ≡ y = cc in
    let t : xs ++ us ≡ ys ++ vs = cc in
    let r = split_same xs ys us vs t (omega arith) in
    (λ i. h i ∷ r.0 i, r.1)

pending_length : (s : State) (o : Option Report) → length (pending_of s o) ≡ cond (is_some o) 1 0
unfolding pending_of
pending_length s None = refl
pending_length s (Some r) = refl

pub owed_count : (p : Plain) → length (pending p) ≡ cond (owes p) 1 0
owed_count p = pending_length p.sheet.state p.sheet.state.owed

-- two pages with the same bytes behind them, that owe equally much
alike : (first : Plain) (got : List ℕ) (sent sent' : List (List ℕ)) (p q : Plain) (o o' : Bool) → owes p ≡ o → owes q ≡ o' → SoFar first got sent p → SoFar first got sent' q → ◌≡◌ {A = ℕ} (cond o 1 0) (cond o' 1 0) → p ≡ q
alike first got sent sent' p q true true a b s s' e = s.last a ∙ sym (s'.last b)
alike first got sent sent' p q false false a b s s' e = sym (settled_same p a) ∙ s.same ∙ sym s'.same ∙ settled_same q b
alike first got sent sent' p q true false a b s s' e = absurd (omega (arith, e))
alike first got sent sent' p q false true a b s s' e = absurd (omega (arith, e))

pub same_bytes_same_page : SameBytesSamePage
same_bytes_same_page x ts us same_bytes count =
    let s = all_turns x ts [] [] x (begins x) in
    let s' = subst (λ (l : List ℕ). SoFar x l (sent_in x us) (after x us)) (sym same_bytes) (all_turns x us [] [] x (begins x)) in
    let both = split_same (sent_in x ts) (sent_in x us) _ _ (s.replies ∙ sym s'.replies) count in
    (alike x _ _ _ (after x ts) (after x us) (owes (after x ts)) (owes (after x us)) refl refl s s' (sym (owed_count (after x ts)) ∙ ap length both.1 ∙ owed_count (after x us)), both.0)
