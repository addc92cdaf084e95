-- Where a delivery stops is the one place behind its first request.
use Rattle.std.proofs.Common.{◌≡◌, ℕ, zero, suc, ◌+◌, ◌<◌, ◌≤◌, Bool, true, false, ◌||◌, List, [], ◌∷◌, ◌++◌, length, get_or, take, drop, sym, refl, ap, ◌∙◌, inl, inr, ⊎_elim, append-nil, le_of_suc-le-suc, not-suc-le-zero, add-one, arith, drop_of_length-le, drop-cons}
use Rattle.std.proofs.lemmas.Bool.{both_ways, cases_lt}
use Rattle.reader.specs.Functions.{Function}
use Rattle.reader.specs.Steps.{Standing, step, performed}
use Rattle.reader.specs.Requests.{requests, any_requests, until_request, FirstRequest}
use Rattle.reader.specs.Laws.{StopsAtRequest}

pub any_append : (fs gs : List Function) → any_requests (fs ++ gs) ≡ (any_requests fs || any_requests gs)
any_append [] gs = refl
any_append (f ∷ fs) gs = ap (λ (t : Bool). requests f || t) (any_append fs gs) ∙ group (requests f) (any_requests fs) (any_requests gs)
  where
    group : (x y z : Bool) → (x || (y || z)) ≡ ((x || y) || z)
    group true y z = refl
    group false y z = refl

-- a byte that completes no request, and then others
after_quiet : (s : Standing) (b : ℕ) (bs : List ℕ) → any_requests (step s b).performs ≡ false → any_requests (performed s (b ∷ bs)) ≡ any_requests (performed (step s b).standing bs)
after_quiet s b bs h = any_append (step s b).performs _ ∙ ap (λ (t : Bool). t || any_requests (performed (step s b).standing bs)) h

one_byte : (s : Standing) (b : ℕ) → any_requests (performed s (b ∷ [])) ≡ any_requests (step s b).performs
one_byte s b = ap any_requests (append-nil (step s b).performs)

until : (s : Standing) (b : ℕ) (bs : List ℕ) → Bool → ℕ
until s b bs t = elim t [ true ↦ 1 | false ↦ suc (until_request (step s b).standing bs) ]

first_there : (s : Standing) (b : ℕ) (bs : List ℕ) → any_requests (step s b).performs ≡ true → FirstRequest s (b ∷ bs) 1
first_there s b bs h = record { within = omega arith; none_before = before; stops = inl (one_byte s b ∙ h) }
  where
    before : (k : ℕ) → k < 1 → any_requests (performed s (take k (b ∷ bs))) ≡ false
    before zero l = refl
    before (suc k) l = absurd (not-suc-le-zero (le_of_suc-le-suc l))

first_later : (s : Standing) (b : ℕ) (bs : List ℕ) (n : ℕ) → any_requests (step s b).performs ≡ false → FirstRequest (step s b).standing bs n → FirstRequest s (b ∷ bs) (suc n)
first_later s b bs n h f =
    record {
      within = omega (arith, f.within);
      none_before = before;
      stops = ⊎_elim (λ e. inl (after_quiet s b (take n bs) h ∙ e)) (λ e. inr (ap suc e.0, after_quiet s b bs h ∙ e.1)) f.stops;
    }
  where
    before : (k : ℕ) → k < suc n → any_requests (performed s (take k (b ∷ bs))) ≡ false
    before zero l = refl
    before (suc k) l = after_quiet s b (take k bs) h ∙ f.none_before k (le_of_suc-le-suc l)

first_by : (s : Standing) (b : ℕ) (bs : List ℕ) → FirstRequest (step s b).standing bs (until_request (step s b).standing bs) → (t : Bool) → any_requests (step s b).performs ≡ t → FirstRequest s (b ∷ bs) (until s b bs t)
unfolding until
first_by s b bs f true e = first_there s b bs e
first_by s b bs f false e = first_later s b bs (until_request (step s b).standing bs) e f

pub finds_first : (s : Standing) (bs : List ℕ) → FirstRequest s bs (until_request s bs)
unfolding until_request until
finds_first s [] = record { within = omega arith; none_before = λ k l. absurd (not-suc-le-zero l); stops = inr (refl, refl) }
finds_first s (b ∷ bs) = first_by s b bs (finds_first (step s b).standing bs) (any_requests (step s b).performs) refl

-- of two such places neither is before the other
not_before : (s : Standing) (bs : List ℕ) (m n : ℕ) → FirstRequest s bs m → FirstRequest s bs n → m < n → ⊥
not_before s bs m n f g l =
    ⊎_elim (λ e. both_ways (any_requests (performed s (take m bs))) (g.none_before m l) e) (λ e. omega (arith, e.0, g.within)) f.stops

pub stops_at_request : StopsAtRequest
stops_at_request s bs = (finds_first s bs, λ n f. same n f)
  where
    same : (n : ℕ) → FirstRequest s bs n → n ≡ until_request s bs
    same n f =
        let m = until_request s bs in
        let here = finds_first s bs in
        ⊎_elim (λ l. absurd (not_before s bs n m f here l)) (λ h. ⊎_elim (λ l. absurd (not_before s bs m n here f l)) (λ k. omega arith) (cases_lt m n)) (cases_lt n m)

-- one byte of the walk to a request
request_by : (s : Standing) (b : ℕ) (bs : List ℕ) (t : Bool) → any_requests (step s b).performs ≡ t → until_request s (b ∷ bs) ≡ until s b bs t
unfolding until_request until
request_by s b bs t h = ap (until s b bs) h

pub request_here : (s : Standing) (b : ℕ) (bs : List ℕ) → any_requests (step s b).performs ≡ true → until_request s (b ∷ bs) ≡ 1
unfolding until
request_here s b bs h = request_by s b bs true h

pub request_later : (s : Standing) (b : ℕ) (bs : List ℕ) → any_requests (step s b).performs ≡ false → until_request s (b ∷ bs) ≡ suc (until_request (step s b).standing bs)
unfolding until
request_later s b bs h = request_by s b bs false h

-- what is left of the bytes stops where all of them do
module _ (n i : ℕ) (s : Standing) (xs : List ℕ) (h : i < length xs) (left : n ≡ i + until_request s (drop i xs)) where
  pub stops_here : (t : Bool) → any_requests (step s (get_or xs i 0)).performs ≡ t → t ≡ true → i + 1 ≡ n
  stops_here t e there =
      sym (left ∙ ap (λ (l : List ℕ). i + until_request s l) (drop-cons xs i 0 h) ∙ ap (λ (k : ℕ). i + k) (request_here s (get_or xs i 0) (drop (suc i) xs) (e ∙ there)))

  pub goes_on : (s' : Standing) → s' ≡ (step s (get_or xs i 0)).standing → any_requests (step s (get_or xs i 0)).performs ≡ false → n ≡ (i + 1) + until_request s' (drop (i + 1) xs)
  goes_on s' e none =
      let one = left ∙ ap (λ (l : List ℕ). i + until_request s l) (drop-cons xs i 0 h) ∙ ap (λ (k : ℕ). i + k) (request_later s (get_or xs i 0) (drop (suc i) xs) none) in
      let same : until_request s' (drop (i + 1) xs) ≡ until_request (step s (get_or xs i 0)).standing (drop (suc i) xs) = λ j. until_request (e j) (drop (add-one i j) xs) in
      omega (arith, one, same)

-- at the end of the bytes
pub stops_at_end : (n i : ℕ) (s : Standing) (xs : List ℕ) → i ≤ length xs → length xs ≤ i → n ≡ i + until_request s (drop i xs) → length xs ≡ n
unfolding until_request
stops_at_end n i s xs low high left =
    let none : until_request s (drop i xs) ≡ 0 = ap (until_request s) (drop_of_length-le xs high) in
    omega (arith, left, none)
