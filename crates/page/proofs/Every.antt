-- What holds of every cell of a grid still does, after a set, an erasure or a shift.
use Rattle.std.proofs.Common.{◌≡◌, ℕ, zero, suc, ◌+◌, ◌*◌, ◌/◌, ◌%◌, Bool, true, cond, List, [], ◌∷◌, ◌++◌, map, get_or, take, drop, set, replicate}
use Rattle.std.specs.List.{range_with_len}
use Rattle.std.proofs.lemmas.Bool.{cond_both}
use Rattle.panel.specs.declared.cell.Cell.{Cell}
use Rattle.panel.specs.declared.rectangle.Rectangle.{Rectangle}
use Rattle.panel.specs.declared.shifting.Direction.{Direction}
use Rattle.panel.specs.Grids.{Grid, erased, on, run_on, index, wiped, with_cells, cell_at, after_set, after_erase}
use Rattle.panel.specs.Rectangles.{inside, covers, in_rectangle}
use Rattle.panel.specs.Shifts.{source, from_source, incoming_at, shifted, after_shift}

abbrev pub Every : (Cell → Bool) → List Cell → Type 0
Every Q [] = Unit {0}
Every Q (x ∷ xs) = (Q x ≡ true) × Every Q xs

module _ (Q : Cell → Bool) where
  pub every_append : (xs ys : List Cell) → Every Q xs → Every Q ys → Every Q (xs ++ ys)
  every_append [] ys a b = b
  every_append (x ∷ xs) ys a b = (a.0, every_append xs ys a.1 b)

  every_take : (n : ℕ) (xs : List Cell) → Every Q xs → Every Q (take n xs)
  every_take zero xs a = tt
  every_take (suc n) [] a = tt
  every_take (suc n) (x ∷ xs) a = (a.0, every_take n xs a.1)

  every_drop : (n : ℕ) (xs : List Cell) → Every Q xs → Every Q (drop n xs)
  every_drop zero xs a = a
  every_drop (suc n) [] a = tt
  every_drop (suc n) (x ∷ xs) a = every_drop n xs a.1

  pub every_replicate : (n : ℕ) (x : Cell) → Q x ≡ true → Every Q (replicate n x)
  every_replicate zero x e = tt
  every_replicate (suc n) x e = (e, every_replicate n x e)

  every_put : (xs : List Cell) (i : ℕ) (x : Cell) → Q x ≡ true → Every Q xs → Every Q (set xs i x)
  every_put [] i x e a = tt
  every_put (y ∷ ys) zero x e a = (e, a.1)
  every_put (y ∷ ys) (suc i) x e a = (a.0, every_put ys i x e a.1)

  every_map : (f : ℕ → Cell) → ((k : ℕ) → Q (f k) ≡ true) → (ks : List ℕ) → Every Q (map f ks)
  every_map f h [] = tt
  every_map f h (k ∷ ks) = (h k, every_map f h ks)

  abbrev Holds : Cell → Type 0
  Holds x = Q x ≡ true

  abbrev EveryIn : Grid → Type 0
  EveryIn g = Every Q g.cells

  pub every_set : (g : Grid) (l n : ℕ) (x : Cell) → Q x ≡ true → Every Q g.cells → Every Q (after_set g l n x).cells
  every_set g l n x e a = cond_both (on g l n) (with_cells g (set g.cells (index g l n) x)) g EveryIn (λ _. every_put g.cells (index g l n) x e a) (λ _. a)

  module _ (blank : Q erased ≡ true) where
    every_at : (xs : List Cell) (k : ℕ) → Every Q xs → Q (get_or xs k erased) ≡ true
    every_at [] k a = blank
    every_at (x ∷ xs) zero a = a.0
    every_at (x ∷ xs) (suc k) a = every_at xs k a.1

    pub every_erase : (g : Grid) (l n count : ℕ) → Every Q g.cells → Every Q (after_erase g l n count).cells
    every_erase g l n count a =
        cond_both (run_on g l n count) (with_cells g (wiped g.cells (index g l n) count)) g EveryIn
        (λ _. every_append (take (index g l n) g.cells) _ (every_take (index g l n) g.cells a) (every_append (replicate count erased) _ (every_replicate count erased blank) (every_drop (index g l n + count) g.cells a)))
        (λ _. a)

    every_source : (r : Rectangle) (g : Grid) (p : ℕ × ℕ) → Every Q g.cells → Q (from_source r g p) ≡ true
    every_source r g p a = cond_both (in_rectangle r p.0 p.1) (cell_at g p.0 p.1) erased Holds (λ _. every_at g.cells (index g p.0 p.1) a) (λ _. blank)

    every_new : (r : Rectangle) (d : Direction) (n : ℕ) (g : Grid) → Every Q g.cells → (k : ℕ) → Q (cond (covers g.columns r k) (incoming_at r d n g k) (get_or g.cells k erased)) ≡ true
    every_new r d n g a k =
        cond_both (covers g.columns r k) (incoming_at r d n g k) (get_or g.cells k erased) Holds
        (λ _. every_source r g (source d n (k / g.columns + 1) (k % g.columns + 1)) a) (λ _. every_at g.cells k a)

    pub every_shift : (g : Grid) (r : Rectangle) (d : Direction) (n : ℕ) → Every Q g.cells → Every Q (after_shift g r d n).cells
    every_shift g r d n a =
        cond_both (inside g.lines g.columns r) (shifted r d n g) g EveryIn
        (λ _. every_map (λ k. cond (covers g.columns r k) (incoming_at r d n g k) (get_or g.cells k erased)) (every_new r d n g a) (range_with_len 0 (g.lines * g.columns))) (λ _. a)
