-- What turns did, one turn on.
use Rattle.std.proofs.Common.{◌≡◌, ℕ, ◌+◌, ◌<◌, ◌≤◌, List, [], ◌∷◌, ◌++◌, map, length, get_or, take, Result, sym, refl, ap, ◌∙◌, subst, append_assoc, append-nil, arith, Bor}
use Rattle.std.proofs.lemmas.List.{take_more, take_all, get_or-map, length-map, map_push}
use Rattle.refusal.specs.Table.{Answer, answer}
use Rattle.refusal.specs.declared.Refusal.{Refusal}
use Rattle.page.specs.Plain.{Plain, OnPanel}
use Rattle.panel.specs.Screens.{Beyond}
use Rattle.picture.specs.Calls.{Outcome, replies, pictures}
use Rattle.turns.specs.declared.turn.Turn as program
use Rattle.turns.specs.declared.turn.Turn.TheVariants.{Deliver, Reply, Picture}
use Rattle.turns.specs.Turns.{Turn, deliver, turn, after, answers, written_in}
use Rattle.turns.specs.Running.{meant, Did, Ran, SomeRan, turned}

after_push : (x : Plain) (ts : List Turn) (t : Turn) → after x (ts ++ t ∷ []) ≡ (turn (after x ts) t).after
unfolding after
after_push x [] t = refl
after_push x (u ∷ ts) t = after_push (turn x u).after ts t

answers_push : (x : Plain) (ts : List Turn) (t : Turn) → answers x (ts ++ t ∷ []) ≡ answers x ts ++ (turn (after x ts) t).says ∷ []
unfolding after answers
answers_push x [] t = refl
answers_push x (u ∷ ts) t = ap (λ (l : List (Answer ℕ)). (turn x u).says ∷ l) (answers_push (turn x u).after ts t)

written_push : (x : Plain) (ts : List Turn) (t : Turn) → written_in x (ts ++ t ∷ []) ≡ written_in x ts ++ (turn (after x ts) t).writes
unfolding after written_in
written_push x [] t = append-nil (turn x t).writes
written_push x (u ∷ ts) t =
    ap (λ (l : List ℕ). (turn x u).writes ++ l) (written_push (turn x u).after ts t)
    ∙ sym (append_assoc (turn x u).writes (written_in (turn x u).after ts) (turn (after (turn x u).after ts) t).writes)

pub ran_none : (x : OnPanel) (ts : List Turn) (rs : List (Result ℕ Refusal)) (w : List ℕ) → rs ≡ [] → w ≡ [] → Ran x (take 0 ts) rs w x
unfolding after answers written_in
ran_none x ts rs w e f = record { answered = ap (map answer) e; wrote = f; leaves = refl }

pub none_ran : (x : OnPanel) (ts : List Turn) → SomeRan x ts x
unfolding after
none_ran x ts = record { many = 0; leaves = refl }

-- a turn that memory failed leaves what the turns before it left
pub some_ran : {x y z : OnPanel} {ts : List Turn} {rs : List (Result ℕ Refusal)} {w : List ℕ} (i : ℕ) → Ran x (take i ts) rs w y → z ≡ y → SomeRan x ts z
some_ran i r e = record { many = i; leaves = e ∙ r.leaves }

pub ran_all : (x y : OnPanel) (ts : List program.Turn) (i : ℕ) (rs : List (Result ℕ Refusal)) (w : List ℕ) → length ts ≤ i → Ran x (take i (map meant ts)) rs w y → Ran x (map meant ts) rs w y
ran_all x y ts i rs w h r =
    subst (λ (l : List Turn). Ran x l rs w y) (take_all i (map meant ts) (let n : length (map meant ts) ≡ length ts = length-map ts meant in omega arith)) r

pub ran_more : (x y z : OnPanel) (ts : List program.Turn) (i : ℕ) (t : program.Turn) (rs rs' : List (Result ℕ Refusal)) (a : Result ℕ Refusal) (w w' : List ℕ)
    → i < length ts → t ≡ get_or ts i t → Ran x (take i (map meant ts)) rs w y → Did (turn y.plain (meant t)) a y.beyond z w w' → rs' ≡ rs ++ a ∷ [] → Ran x (take (i + 1) (map meant ts)) rs' w' z
ran_more x y z ts i t rs rs' a w w' lt read so_far did pushed =
    let us = take i (map meant ts) in
    let n : length (map meant ts) ≡ length ts = length-map ts meant in
    let here : get_or (map meant ts) i (meant t) ≡ meant t = get_or-map meant ts i t (meant t) lt ∙ ap meant (sym read) in
    let step : take (i + 1) (map meant ts) ≡ us ++ meant t ∷ [] = take_more (map meant ts) i (meant t) (omega arith) ∙ ap (λ (u : Turn). us ++ u ∷ []) here in
    let same : turn y.plain (meant t) ≡ turn (after x.plain us) (meant t) = ap (λ (q : OnPanel). turn q.plain (meant t)) so_far.leaves in
    subst (λ (l : List Turn). Ran x l rs' w' z) (sym step)
    (record {
      answered = ap (map answer) pushed ∙ map_push answer rs a ∙ ap (λ (l : List (Answer ℕ)). l ++ answer a ∷ []) so_far.answered ∙ ap (λ (v : Answer ℕ). answers x.plain us ++ v ∷ []) (did.says ∙ ap (λ (o : Outcome). o.says) same) ∙ sym (answers_push x.plain us (meant t));
      wrote = did.adds ∙ ap (λ (l : List ℕ). l ++ (turn y.plain (meant t)).writes) so_far.wrote ∙ ap (λ (o : Outcome). written_in x.plain us ++ o.writes) same ∙ sym (written_push x.plain us (meant t));
      leaves = did.leaves ∙ (λ k. record { plain = (same k).after; beyond = (so_far.leaves k).beyond }) ∙ ap (λ (p : Plain). record { plain = p; beyond = x.beyond }) (sym (after_push x.plain us (meant t)));
    })

as_long : (o : ℕ → Outcome) {r : Result ℕ Refusal} {β : Beyond} {y : OnPanel} {v w w' : List ℕ} (k room : ℕ) → k ≡ room → v ≡ w → Did (o k) r β y v w' → Did (o room) r β y w w'
as_long o {r} {β} {y} {v} {w} {w'} k room long same d = subst (λ (n : ℕ). Did (o n) r β y w w') long (subst (λ (u : List ℕ). Did (o k) r β y u w') same d)

-- one turn of the program, by its kind
module _ (x : Plain) {r : Result ℕ Refusal} {β : Beyond} {y : OnPanel} {w w' : List ℕ} (t : program.Turn) where
  pub deliver_did : (bytes : Bor (List ℕ)) → t ≡ Deliver bytes → Did (turn x (deliver bytes.now)) r β y w w' → Did (turn x (meant t)) r β y w w'
  deliver_did bytes e d = subst (λ (u : program.Turn). Did (turn x (meant u)) r β y w w') (sym e) d

  module _ {v : List ℕ} (k room : ℕ) (long : k ≡ room) (same : v ≡ w) where
    pub reply_did : t ≡ Reply room → Did (replies k x) r β y v w' → Did (turn x (meant t)) r β y w w'
    unfolding turn
    reply_did e d = subst (λ (u : program.Turn). Did (turn x (meant u)) r β y w w') (sym e) (as_long (λ n. replies n x) k room long same d)

    pub picture_did : t ≡ Picture room → Did (pictures k x) r β y v w' → Did (turn x (meant t)) r β y w w'
    unfolding turn
    picture_did e d = subst (λ (u : program.Turn). Did (turn x (meant u)) r β y w w') (sym e) (as_long (λ n. pictures n x) k room long same d)

-- turns that all ran are some of them
pub all_ran : {x y : OnPanel} {ts : List Turn} {rs : List (Result ℕ Refusal)} {w : List ℕ} → Ran x ts rs w y → SomeRan x ts y
all_ran {x} {y} {ts} r = record { many = length ts; leaves = r.leaves ∙ ap (turned x) (sym (take_all (length ts) ts (omega arith))) }
