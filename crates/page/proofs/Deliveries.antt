-- Deliveries: what is left of the bytes leads where all of them do.
use Rattle.std.proofs.Common.{◌≡◌, ℕ, suc, ◌+◌, ◌<◌, ◌≤◌, Bool, true, false, leb, List, ◌∷◌, length, get_or, take, drop, is_some, sym, refl, ap, ◌∙◌, arith, drop_of_length-le}
use Rattle.std.proofs.lemmas.List.{drop_more, length-take-le}
use Rattle.std.proofs.lemmas.Bool.{cond-true, cond-false, le-leb}
use Rattle.reader.specs.Steps.{Standing}
use Rattle.reader.specs.Requests.{until_request}
use Rattle.reader.proofs.Stopping.{request_here, request_later, finds_first}
use Rattle.page.specs.Sheets.{Sheet, Placed, sheet_of, upon}
use Rattle.page.specs.Effects.{stepped, run}
use Rattle.refusal.specs.Table.{accepted}
use Rattle.page.specs.Plain.{Plain, known, owes, taken_at, by_delivery, page_refuses, deliver_answer, delivered, after_bytes, taken}
use Rattle.page.proofs.Stepping.{stepped_standing, stepped_owes}

-- all that bytes do
abbrev pub fed : List ℕ → Sheet → Sheet
fed bs x = run x (taken_at x.state.standing bs)

abbrev stops : Sheet → List ℕ → ℕ
stops x bs = until_request x.state.standing bs

module _ (x : Sheet) (b : ℕ) (bs : List ℕ) (free : is_some x.state.owed ≡ false) where
  pub last_byte : is_some (stepped x b).state.owed ≡ true → (stops x (b ∷ bs) ≡ 1) × (fed (b ∷ bs) x ≡ stepped x b)
  unfolding run
  last_byte h =
      let one = request_here x.state.standing b bs (sym (stepped_owes x b free) ∙ h) in
      (one, ap (λ (n : ℕ). run x (take n (b ∷ bs))) one)

  pub one_byte : is_some (stepped x b).state.owed ≡ false → (stops x (b ∷ bs) ≡ suc (stops (stepped x b) bs)) × (fed (b ∷ bs) x ≡ fed bs (stepped x b))
  unfolding run
  one_byte h =
      let more = request_later x.state.standing b bs (sym (stepped_owes x b free) ∙ h) ∙ ap (λ (s : Standing). suc (until_request s bs)) (sym (stepped_standing x b)) in
      (more, ap (λ (n : ℕ). run x (take n (b ∷ bs))) more)

-- after i of the bytes, of which none has made a reply owed
pub record Going (was here : Placed) (bytes : List ℕ) (i : ℕ) : Type 0 where
  pub free : is_some here.state.owed ≡ false
  pub left : fed (drop i bytes) (sheet_of here) ≡ fed bytes (sheet_of was)
  pub beyond : here.screen.beyond ≡ was.screen.beyond
  pub count : i + stops (sheet_of here) (drop i bytes) ≡ stops (sheet_of was) bytes

pub going_none : (x : Placed) (bytes : List ℕ) → is_some x.state.owed ≡ false → Going x x bytes 0
going_none x bytes f = record { free = f; left = refl; beyond = refl; count = omega arith }

module _ {was here : Placed} {bytes : List ℕ} {i : ℕ} (g : Going was here bytes i) (lt : i < length bytes) (b : ℕ) (is : b ≡ get_or bytes i 0) (after : Placed) (e : after ≡ upon (λ x. stepped x b) here) where
  cut : drop i bytes ≡ b ∷ drop (i + 1) bytes
  cut = drop_more bytes i 0 lt ∙ ap (λ (x : ℕ). x ∷ drop (i + 1) bytes) (sym is)

  now : Sheet
  now = stepped (sheet_of here) b

  is_now : sheet_of after ≡ now
  unfolding now
  is_now = ap sheet_of e

  owes_now : (t : Bool) → is_some after.state.owed ≡ t → is_some (stepped (sheet_of here) b).state.owed ≡ t
  owes_now t f = ap (λ (y : Placed). is_some y.state.owed) (sym e) ∙ f

  pub going_more : is_some after.state.owed ≡ false → Going was after bytes (i + 1)
  unfolding now
  going_more f =
      let one = one_byte (sheet_of here) b (drop (i + 1) bytes) g.free (owes_now false f) in
      let same : stops (sheet_of after) (drop (i + 1) bytes) ≡ stops (stepped (sheet_of here) b) (drop (i + 1) bytes) = ap (λ (y : Sheet). stops y (drop (i + 1) bytes)) is_now in
      let cut_count : stops (sheet_of here) (drop i bytes) ≡ stops (sheet_of here) (b ∷ drop (i + 1) bytes) = ap (stops (sheet_of here)) cut in
      record {
        free = f;
        left = ap (fed (drop (i + 1) bytes)) is_now ∙ sym (ap (λ (l : List ℕ). fed l (sheet_of here)) cut ∙ one.1) ∙ g.left;
        beyond = ap (λ (y : Placed). y.screen.beyond) e ∙ g.beyond;
        count = omega (arith, one.0, same, cut_count, g.count);
      }

  pub going_stop : is_some after.state.owed ≡ true → (after ≡ upon (fed bytes) was) × (i + 1 ≡ stops (sheet_of was) bytes)
  unfolding now
  going_stop f =
      let one = last_byte (sheet_of here) b (drop (i + 1) bytes) g.free (owes_now true f) in
      let whole : stepped (sheet_of here) b ≡ fed bytes (sheet_of was) = sym (ap (λ (l : List ℕ). fed l (sheet_of here)) cut ∙ one.1) ∙ g.left in
      let cut_count : stops (sheet_of here) (drop i bytes) ≡ stops (sheet_of here) (b ∷ drop (i + 1) bytes) = ap (stops (sheet_of here)) cut in
      (e ∙ (λ j. record { state = (whole j).state; screen = record { grid = (whole j).grid; beyond = g.beyond j } }), omega (arith, one.0, cut_count, g.count))

pub going_all : {was here : Placed} {bytes : List ℕ} {i : ℕ} → Going was here bytes i → length bytes ≤ i → i ≤ length bytes → (here ≡ upon (fed bytes) was) × (length bytes ≡ stops (sheet_of was) bytes)
unfolding run until_request
going_all {was} {here} {bytes} {i} g h k =
    let none = drop_of_length-le bytes h in
    let whole : sheet_of here ≡ fed bytes (sheet_of was) = sym (ap (λ (l : List ℕ). fed l (sheet_of here)) none) ∙ g.left in
    let zero_left : stops (sheet_of here) (drop i bytes) ≡ 0 = ap (stops (sheet_of here)) none in
    ((λ j. record { state = (whole j).state; screen = record { grid = (whole j).grid; beyond = g.beyond j } }), omega (arith, zero_left, g.count))

-- a delivery that is not refused
pub goes : {A : Type 0} (x : Plain) (bs : List ℕ) (refuse : ℕ → A) (go : A) → known x ≡ true → length bs ≤ 4096 → owes x ≡ false → by_delivery x bs refuse go ≡ go
goes x bs refuse go k l f = cond-true (known x) _ _ k ∙ cond-true (leb (length bs) 4096) _ _ (le-leb _ _ l) ∙ cond-false (owes x) _ _ f

pub delivered_goes : (x : Plain) (bs : List ℕ) → known x ≡ true → length bs ≤ 4096 → owes x ≡ false → delivered bs x ≡ after_bytes x (taken x bs)
delivered_goes x bs k l f = goes x bs (λ n. x) (after_bytes x (taken x bs)) k l f

-- as many bytes are taken as go through the first request
pub taken_count : (s : Standing) (bs : List ℕ) → length (taken_at s bs) ≡ until_request s bs
taken_count s bs = length-take-le (until_request s bs) bs (finds_first s bs).within

-- what a delivery that was not refused answers, and leaves
pub delivers : (x : Plain) (bs : List ℕ) (n : ℕ) → known x ≡ true → length bs ≤ 4096 → owes x ≡ false → n ≡ until_request x.sheet.state.standing bs → accepted (record { taken = n }) ≡ deliver_answer x bs
delivers x bs n k l f e = ap (λ (m : ℕ). accepted (record { taken = m })) (e ∙ sym (taken_count x.sheet.state.standing bs)) ∙ sym (goes x bs page_refuses _ k l f)
