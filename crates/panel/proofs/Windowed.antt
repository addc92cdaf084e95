-- What a window shows after a call of the panel below.
use Rattle.std.proofs.Common.{◌≡◌, ℕ, ◌+◌, ◌-◌, ◌*◌, ◌/◌, ◌%◌, ◌^◌, ◌<◌, ◌≤◌, Bool, true, false, cond, List, length, get_or, set, is_some, Some, None, Option, sym, refl, ap, ◌∙◌, arith}
use Rattle.std.proofs.lemmas.Bool.{cond-true, and_from, and_parts, le-leb, true≢false}
use Rattle.refusal.specs.Table.{accepted}
use Rattle.panel.specs.declared.cell.Cell.{Cell}
use Rattle.panel.specs.declared.cell.Position.{Position}
use Rattle.panel.specs.declared.rectangle.Rectangle.{Rectangle}
use Rattle.panel.specs.Grids.{Grid, erased, within, index_in, index, on, run_on, cell_answer, with_cells, wiped}
use Rattle.panel.specs.Screens.{Screen, Sound, around, with_grid, set_on, erase_on, put_on, wipe_on}
use Rattle.panel.specs.Rectangles.{Fit, framed, covers}
use Rattle.panel.specs.Copies.{part_within}
use Rattle.panel.specs.Windows.{under, part_beneath, windowed, through, seen, masked}
use Rattle.panel.proofs.Places.{Within, within_true, true_within, index_lt}
use Rattle.panel.proofs.Seen.{get_or_seen, seen_set, seen_wiped}
use Rattle.panel.proofs.Replaced.{replaced_under_set, replaced_under_wiped}
use Rattle.panel.proofs.Framed.{framed_fit, under_at, within_below, under_inj, under_lt, under_run, covers_under, pos}

-- a line and column of a window, and those below
pub record Beneath (f : Rectangle) (line column l c : ℕ) : Type 0 where
  pub test : within f.lines f.columns line column ≡ true
  pub line_is : l ≡ f.top + (line - 1)
  pub column_is : c ≡ f.left + (column - 1)

pub found_if : (b : Bool) (a d : Position) → Some a ≡ cond b (Some d) None → (b ≡ true) × (a ≡ d)
found_if true a d e = (refl, ap (or_else a) e)
  where
    or_else : Position → Option Position → Position
    or_else z None = z
    or_else z (Some x) = x
found_if false a d e = absurd (true≢false (ap is_some e))

beneath_some : (f : Rectangle) (at p : Position) → Some p ≡ part_beneath f at 1 → Beneath f at.line at.column p.line p.column
beneath_some f at p e =
    let h = found_if (part_within f.lines f.columns at 1) p (record { line = f.top + (at.line - 1); column = f.left + (at.column - 1) }) e in
    record { test = (and_parts (within f.lines f.columns at.line at.column) _ h.0).0; line_is = ap (λ z. z.line) h.1; column_is = ap (λ z. z.column) h.1 }

-- a rectangle of a screen, by its cells and the cells around it
abbrev window_of : Rectangle → Screen → List Cell → Grid → Screen
window_of f s xs g = record { grid = record { lines = f.lines; columns = f.columns; cells = xs }; beyond = around f.top f.left g s.beyond }

module _ (s : Screen) (h : Sound s) (f : Rectangle) (fit : Fit s.grid.lines s.grid.columns f) (line column l c : ℕ) (b : Beneath f line column l c) where
  w : Within f.lines f.columns line column
  w = within_true _ _ _ _ b.test

  -- the index in the window
  abbrev k : ℕ
  k = index_in f.columns line column

  below_is : index s.grid l c ≡ under s.grid.columns f k
  below_is =
      ap (λ z. index_in s.grid.columns z c) b.line_is ∙ ap (λ z. index_in s.grid.columns (f.top + (line - 1)) z) b.column_is
      ∙ sym (under_at s.grid.lines s.grid.columns f fit line column w)

  below_on : on s.grid l c ≡ true
  below_on = rw (b.line_is, b.column_is) (true_within _ _ _ _ (within_below s.grid.lines s.grid.columns f fit line column w))

  in_window : k < f.lines * f.columns
  in_window = index_lt _ _ _ _ w

  pub through_cell : cell_answer s.grid l c ≡ cell_answer (through f s).grid line column
  through_cell =
      cond-true _ _ _ below_on
      ∙ ap accepted (ap (λ z. get_or s.grid.cells z erased) below_is ∙ sym (get_or_seen (under s.grid.columns f) (f.lines * f.columns) s.grid.cells k in_window))
      ∙ sym (cond-true _ _ _ b.test)

  pub through_set : (x : Cell) → through f (put_on s (index s.grid l c) x) ≡ put_on (through f s) k x
  through_set x =
      let u = under s.grid.columns f in
      let n = f.lines * f.columns in
      let xs = s.grid.cells in
      let ys = set xs (u k) x in
      let e : seen u n ys ≡ set (seen u n xs) k x =
      seen_set u n xs k x in_window (rw h.count (under_lt s.grid.lines s.grid.columns f fit k in_window)) (under_inj s.grid.lines s.grid.columns f fit) in
      let o : masked f (with_cells s.grid ys) ≡ masked f s.grid =
      replaced_under_set (covers s.grid.columns f) (λ i. erased) s.grid xs (u k) x (covers_under s.grid.lines s.grid.columns f fit k in_window) in
      ap (λ i. through f (put_on s i x)) below_is
      ∙ ap (λ zs. window_of f s zs (masked f (with_cells s.grid ys))) e
      ∙ ap (window_of f s (set (seen u n xs) k x)) o

-- a cell of a window
module _ (s : Screen) (h : Sound s) (f : Rectangle) (at p : Position) (e : Some p ≡ part_beneath (framed s.grid.lines s.grid.columns f) at 1) where
  abbrev F : Rectangle
  F = framed s.grid.lines s.grid.columns f

  fit : Fit s.grid.lines s.grid.columns F
  fit = framed_fit s.grid.lines s.grid.columns f

  b : Beneath F at.line at.column p.line p.column
  b = beneath_some F at p e

  pub windowed_cell : cell_answer s.grid p.line p.column ≡ cell_answer (windowed s f).grid at.line at.column
  windowed_cell = through_cell s h F fit at.line at.column p.line p.column b

  pub windowed_set : (x : Cell) → windowed (set_on s p.line p.column x) f ≡ set_on (windowed s f) at.line at.column x
  windowed_set x =
      ap (λ z. windowed (with_grid s z) f) (cond-true _ _ _ (below_on s h F fit at.line at.column p.line p.column b))
      ∙ through_set s h F fit at.line at.column p.line p.column b x
      ∙ ap (with_grid (windowed s f)) (sym (cond-true _ _ _ b.test))

-- a run of cells in one line of the window, from its index i
module _ (s : Screen) (h : Sound s) (f : Rectangle) (fit : Fit s.grid.lines s.grid.columns f) (i n : ℕ) (some : 0 < n) (line : i % f.columns + n ≤ f.columns) (low : i + n ≤ f.lines * f.columns) where
  abbrev u : ℕ → ℕ
  u = under s.grid.columns f

  run : (t : ℕ) → t < n → u (i + t) ≡ u i + t
  run = under_run s.grid.lines s.grid.columns f fit i n line (omega arith)

  run_low : u i + n ≤ s.grid.lines * s.grid.columns
  run_low = omega (arith, run (n - 1) (omega arith), under_lt s.grid.lines s.grid.columns f fit (i + (n - 1)) (omega arith))

  run_within_below : Within s.grid.lines s.grid.columns (f.top + i / f.columns) (f.left + i % f.columns)
  run_within_below = let p = pos f i (omega arith) in record { line_low = omega arith; line_high = omega arith; column_low = omega arith; column_high = omega arith }

  pub run_on_below : run_on s.grid (f.top + i / f.columns) (f.left + i % f.columns) n ≡ true
  run_on_below = and_from _ _ (true_within _ _ _ _ run_within_below) (le-leb _ _ run_low)

  pub through_wiped : through f (wipe_on s (u i) n) ≡ wipe_on (through f s) i n
  through_wiped =
      let m = f.lines * f.columns in
      let xs = s.grid.cells in
      let room : u i + n ≤ length xs = rw h.count run_low in
      let e : seen u m (wiped xs (u i) n) ≡ wiped (seen u m xs) i n = seen_wiped u m xs i n low room (under_inj s.grid.lines s.grid.columns f fit) run in
      let o : masked f (with_cells s.grid (wiped xs (u i) n)) ≡ masked f s.grid =
      replaced_under_wiped (covers s.grid.columns f) (λ k. erased) s.grid xs (u i) n room
      (λ t l. rw (← run t l) (covers_under s.grid.lines s.grid.columns f fit (i + t) (omega arith))) in
      ap (λ zs. window_of f s zs (masked f (with_cells s.grid (wiped xs (u i) n)))) e
      ∙ ap (window_of f s (wiped (seen u m xs) i n)) o

pub windowed_erase : (s : Screen) (h : Sound s) (g f : Rectangle) → f ≡ framed s.grid.lines s.grid.columns g → (i n : ℕ) → 0 < n → i % f.columns + n ≤ f.columns → i + n ≤ f.lines * f.columns →
    windowed (erase_on s (f.top + i / f.columns) (f.left + i % f.columns) n) g ≡ wipe_on (windowed s g) i n
windowed_erase s h g f e i n a b d =
    let fit : Fit s.grid.lines s.grid.columns f = rw e (framed_fit s.grid.lines s.grid.columns g) in
    ap (λ z. windowed (with_grid s z) g) (cond-true _ _ _ (run_on_below s h f fit i n a b d))
    ∙ ap (λ z. through z (wipe_on s (under s.grid.columns f i) n)) (sym e)
    ∙ through_wiped s h f fit i n a b d
    ∙ ap (λ z. wipe_on (through z s) i n) e

-- a cell of the window, as a line and column below
pub record Stands (s : Screen) (f : Rectangle) (i : ℕ) : Type 0 where
  pub line : f.top + i / f.columns ≤ s.grid.lines
  pub column : f.left + i % f.columns ≤ s.grid.columns
  pub tall : s.grid.lines < 2 ^ 16
  pub wide : s.grid.columns < 2 ^ 16

pub stands : (s : Screen) (h : Sound s) (g f : Rectangle) → f ≡ framed s.grid.lines s.grid.columns g → (i n : ℕ) → 0 < n → i + n ≤ f.lines * f.columns → Stands s f i
stands s h g f e i n a b =
    let fit : Fit s.grid.lines s.grid.columns f = rw e (framed_fit s.grid.lines s.grid.columns g) in
    let p = pos f i (omega arith) in
    record { line = omega arith; column = omega arith; tall = h.tall; wide = h.wide }
