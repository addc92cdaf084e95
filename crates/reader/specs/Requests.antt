-- Where a delivery of bytes stops: behind the first byte that requests a reply.
use Rattle.std.specs.Prelude.{◌≡◌, ℕ, suc, ◌<◌, ◌≤◌, Bool, true, false, not, ◌&&◌, ◌||◌, ◌⊎◌, List, [], ◌∷◌, length, take, Some, None, ◌==◌}
use Rattle.reader.specs.Functions.{Parameter, Function, graphic, control, reset, sequence}
use Rattle.reader.specs.Steps.{Standing, step, performed}

-- a single parameter, 5 or 6
abbrev pub is_report : List Parameter → Bool
is_report [] = false
is_report (None ∷ ps) = false
is_report (Some n ∷ []) = n == 5 || n == 6
is_report (Some n ∷ p ∷ ps) = false

-- DSR with 5 or 6, which request a reply
abbrev pub requests : Function → Bool
requests (graphic b) = false
requests (control b) = false
requests reset = false
requests (sequence ps space f) = (not space && f == 0x6E) && is_report ps

abbrev pub any_requests : List Function → Bool
any_requests [] = false
any_requests (f ∷ fs) = requests f || any_requests fs

-- how many bytes go through the first that completes a request; all where none does
unfoldable pub until_request : Standing → List ℕ → ℕ
until_request s [] = 0
until_request s (b ∷ bs) = elim (any_requests (step s b).performs) [ true ↦ 1 | false ↦ suc (until_request (step s b).standing bs) ]

-- the same in words: no request is complete before the n-th byte, and it completes one or is the last
pub record FirstRequest (s : Standing) (bs : List ℕ) (n : ℕ) : Type 0 where
  pub within : n ≤ length bs
  pub none_before : (k : ℕ) → k < n → any_requests (performed s (take k bs)) ≡ false
  pub stops : (any_requests (performed s (take n bs)) ≡ true) ⊎ ((n ≡ length bs) × (any_requests (performed s bs) ≡ false))
