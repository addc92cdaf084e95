-- Stops, one flag after the other.
use Rattle.std.proofs.Common.{Iter, ◌≡◌, ℕ, ◌+◌, ◌<◌, Bool, true, false, cond, List, [], ◌∷◌, ◌++◌, length, get_or, take, drop, sym, refl, ap, ◌∙◌, subst, zero-add, arith}
use Rattle.std.specs.List.{range_with_len, zip}
use Rattle.std.proofs.lemmas.List.{drop_more, drop_all, get_or-take, length-take}
use Rattle.std.proofs.iter.Yields.{fronts, nat_range_steps}
use Rattle.std.specs.declared.iter.Zip.{Zip}
use Rattle.std.specs.declared.ops.Range.{Range}
use Rattle.std.specs.Iterator.Adapters.{zip_first, zip_second}
use Rattle.std.specs.Slice.Iter.{iter_rest}
use Rattle.std.proofs.lemmas.Iterator.{YieldsList, YieldsList-from_range, YieldsList-from_slice, YieldsList-from_zip, zips}
use Rattle.std.proofs.lemmas.List.FromFn.{length-range_with_len, get_or-range_with_len}
use Rattle.std.proofs.lemmas.Slice.Zip.{length-zip, get_or-zip}
use Rattle.reader.specs.Functions.{Function}
use Rattle.picture.specs.declared.stops.Along.{Along}
use Rattle.picture.specs.Pictures.{stops_from}
use Rattle.picture.specs.Pens.{stop_at}
use Rattle.picture.specs.Tape.{Tape}
use Rattle.picture.specs.Draws.{Draws, Leaves}
use Rattle.picture.proofs.Draws.{leaves_on}

-- each flag beside its index, as far as both go
abbrev pub numbered : ℕ → List Bool → List (ℕ × Bool)
numbered n flags = zip (range_with_len 0 n) flags

pub zipped : {s : _} (z : Zip (Range ℕ) (Iter Bool)) (n : ℕ) (flags : List Bool) → s ≡ z → zip_first z ≡ record { start = 0; end = n } → iter_rest (zip_second z) ≡ flags
    → YieldsList (zips nat_range_steps fronts) (λ p. (p.0, p.1.now)) s (numbered n flags)
zipped {s} z n flags e first second = YieldsList-from_zip {s = s} (YieldsList-from_range 0 n n (ap (λ y. zip_first y) e ∙ first) (omega arith)) (YieldsList-from_slice flags (ap (λ y. iter_rest (zip_second y)) e ∙ second))

-- the flag that comes at turn k, and its index
pub record Comes (n : ℕ) (flags : List Bool) (k i : ℕ) (b : Bool) : Type 0 where
  pub below : k < n
  pub within : k < length flags
  pub index : i ≡ k
  pub flag : b ≡ get_or flags k b

count : (n : ℕ) (flags : List Bool) → length (numbered n flags) ≡ length (take n flags)
count n flags = length-zip (range_with_len 0 n) flags ∙ omega (arith, length-range_with_len 0 n, length-take n flags)

pub comes : (n : ℕ) (flags : List Bool) (k i : ℕ) (b : Bool) → (k < length (numbered n flags)) × ((i, b) ≡ get_or (numbered n flags) k (i, b)) → Comes n flags k i b
comes n flags k i b turn =
    let h = turn.0 in
    let e = turn.1 in
    let c = count n flags in
    let t = length-take n flags in
    let below : k < n = omega arith in
    let within : k < length flags = omega arith in
    let is = e ∙ get_or-zip (range_with_len 0 n) flags k (i, b) (omega (arith, length-range_with_len 0 n)) within in
    record { below = below; within = within; index = ap (λ p. p.0) is ∙ get_or-range_with_len 0 n k i below ∙ zero-add k; flag = ap (λ p. p.1) is }

module _ (a : Along) where
  abbrev pub left : ℕ → ℕ → List Bool → List Function
  left k n flags = stops_from (stop_at a) (k + 1) (drop k (take n flags))

  one_stop : (k : ℕ) (b : Bool) (bs : List Bool) → stops_from (stop_at a) k (b ∷ bs) ≡ cond b (stop_at a k) [] ++ stops_from (stop_at a) (k + 1) bs
  unfolding stops_from
  one_stop k true bs = refl
  one_stop k false bs = refl

  more : (n : ℕ) (flags : List Bool) (k i : ℕ) (b : Bool) → Comes n flags k i b → left k n flags ≡ cond b (stop_at a (i + 1)) [] ++ left (k + 1) n flags
  more n flags k i b c =
      let t = length-take n flags in
      let rest = left (k + 1) n flags in
      let lt : k < length (take n flags) = omega (arith, c.below, c.within) in
      ap (stops_from (stop_at a) (k + 1)) (drop_more (take n flags) k b lt)
      ∙ one_stop (k + 1) (get_or (take n flags) k b) (drop (k + 1) (take n flags))
      ∙ ap (λ x. cond x (stop_at a (k + 1)) [] ++ rest) (get_or-take n flags k b c.below ∙ sym c.flag)
      ∙ ap (λ j. cond b (stop_at a (j + 1)) [] ++ rest) (sym c.index)

  pub turn : {n : ℕ} {flags : List Bool} {k i : ℕ} {b : Bool} {t u v : Tape} {all : List Function} (m : ℕ) → m ≡ k + 1 → Comes n flags k i b
      → Leaves u (left k n flags) t all → Draws u (cond b (stop_at a (i + 1)) []) v → Leaves v (left m n flags) t all
  turn {n} {flags} {k} {i} {b} {t} {u} {v} {all} m e c l d = subst (λ j. Leaves v (left j n flags) t all) (sym e) (leaves_on l (more n flags k i b c) d)

  pub none_left : (n : ℕ) (flags : List Bool) (k : ℕ) → k ≡ length (numbered n flags) → left k n flags ≡ []
  unfolding stops_from
  none_left n flags k e = ap (stops_from (stop_at a) (k + 1)) (drop_all k (take n flags) (omega (arith, count n flags)))
