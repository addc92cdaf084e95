-- Cells of a line copied below a window.
use Rattle.std.proofs.Common.{◌≡◌, ℕ, ◌+◌, ◌-◌, ◌*◌, ◌%◌, ◌^◌, ◌<◌, ◌≤◌, true, false, ◌&&◌, ltb, leb, get_or, Some, sym, refl, ap, ◌∙◌, ⊎_elim, arith}
use Rattle.std.proofs.lemmas.Nat.{mod-mul-add, mul-le}
use Rattle.std.proofs.lemmas.Bool.{and_from, and_parts, le-leb, lt-ltb, leb-true, ltb-true, cond-true, cond-false, cases_Bool, both_ways}
use Rattle.panel.specs.declared.cell.Position.{Position}
use Rattle.panel.specs.declared.rectangle.Rectangle.{Rectangle}
use Rattle.panel.specs.Grids.{Grid, erased, within, index_in, index, with_cells}
use Rattle.panel.specs.Screens.{Screen, Sound, around, with_grid}
use Rattle.panel.specs.Rectangles.{Fit, framed, covers}
use Rattle.panel.specs.Copies.{part_within, part_on, in_run, copy_of, copied, copy_answer, copy_on}
use Rattle.panel.specs.Windows.{under, part_beneath, windowed, through, seen, masked}
use Rattle.panel.proofs.Places.{Within, within_true, true_within, index_lt}
use Rattle.panel.proofs.Seen.{OneToOne, get_or_seen, length_seen}
use Rattle.panel.proofs.Replaced.{get_or_replaced, replaced_out, is_replaced, replaced_same}
use Rattle.panel.proofs.Windowed.{found_if}
use Rattle.panel.proofs.Framed.{framed_fit, under_at, within_below, under_inj, under_lt, under_run, covers_under}

-- an index in a run
in_true : (at n k : ℕ) → in_run at n k ≡ true → (at ≤ k) × (k < at + n)
in_true at n k t = let p = and_parts (leb at k) (ltb k (at + n)) t in (leb-true _ _ p.0, ltb-true _ _ p.1)

true_in : (at n k : ℕ) → at ≤ k → k < at + n → in_run at n k ≡ true
true_in at n k a b = and_from _ _ (le-leb _ _ a) (lt-ltb _ _ b)

-- runs that are seen through indices one to one, and one after the other
module _ (u : ℕ → ℕ) (m : ℕ) (inj : OneToOne u m) (fw tw n : ℕ) (room : tw + n ≤ m) (from_run : (t : ℕ) → t < n → u (fw + t) ≡ u fw + t) (to_run : (t : ℕ) → t < n → u (tw + t) ≡ u tw + t) where
  -- an index of the run is seen at one of the run
  run_seen : (k : ℕ) → in_run tw n k ≡ true → u k ≡ u tw + (k - tw)
  run_seen k t =
      let p = in_true tw n k t in
      let a = p.0 in
      let b = p.1 in
      let e : tw + (k - tw) ≡ k = omega arith in
      ap u (sym e) ∙ to_run (k - tw) (omega arith)

  in_seen : (k : ℕ) → in_run tw n k ≡ true → in_run (u tw) n (u k) ≡ true
  in_seen k t =
      let p = in_true tw n k t in
      let a = p.0 in
      let b = p.1 in
      let e = run_seen k t in
      true_in (u tw) n (u k) (omega arith) (omega arith)

  out_seen : (k : ℕ) → k < m → in_run tw n k ≡ false → in_run (u tw) n (u k) ≡ false
  out_seen k low f =
      ⊎_elim
      (λ t. let p = in_true (u tw) n (u k) t in
      let a = p.0 in
      let b = p.1 in
      let j = u k - u tw in
      let e : u k ≡ u (tw + j) = omega (arith, to_run j (omega arith)) in
      let q = inj (tw + j) k (omega arith) low e in
      absurd (both_ways (in_run tw n k) f (true_in tw n k (omega arith) (omega arith))))
      (λ e. e)
      (cases_Bool (in_run (u tw) n (u k)))

  -- the copy that is seen
  pub seen_copied : (g w : Grid) → w.lines * w.columns ≡ m → w.cells ≡ seen u m g.cells → fw + n ≤ m → ((k : ℕ) → k < m → u k < g.lines * g.columns) →
      with_cells w (seen u m (copied (u fw) (u tw) n g).cells) ≡ copied fw tw n w
  seen_copied g w size cells from_room low =
      let cs = (copied (u fw) (u tw) n g).cells in
      is_replaced (in_run tw n) (copy_of fw tw w) w (seen u m cs) (length_seen u m cs ∙ sym size) (λ k b.
      let less : k < m = omega (arith, size) in
      get_or_seen u m cs k less ∙ get_or_replaced (in_run (u tw) n) (copy_of (u fw) (u tw) g) g (u k) (low k less)
      ∙ ⊎_elim
      (λ t. let p = in_true tw n k t in
      let a = p.0 in
      let d = p.1 in
      let j = k - tw in
      let e : u fw + (u k - u tw) ≡ u (fw + j) = omega (arith, run_seen k t, from_run j (omega arith)) in
      cond-true (in_run (u tw) n (u k)) (copy_of (u fw) (u tw) g (u k)) (get_or g.cells (u k) erased) (in_seen k t)
      ∙ ap (λ z. get_or g.cells z erased) e
      ∙ sym (cond-true (in_run tw n k) (copy_of fw tw w k) (get_or w.cells k erased) t ∙ ap (λ xs. get_or xs (fw + j) erased) cells ∙ get_or_seen u m g.cells (fw + j) (omega arith)))
      (λ f. cond-false (in_run (u tw) n (u k)) (copy_of (u fw) (u tw) g (u k)) (get_or g.cells (u k) erased) (out_seen k less f)
      ∙ sym (cond-false (in_run tw n k) (copy_of fw tw w k) (get_or w.cells k erased) f ∙ ap (λ xs. get_or xs k erased) cells ∙ get_or_seen u m g.cells k less))
      (cases_Bool (in_run tw n k)))

-- some cells of a line of a rectangle, and where they are below
module _ (s : Screen) (f : Rectangle) (fit : Fit s.grid.lines s.grid.columns f) (at : Position) (n : ℕ) (t : part_within f.lines f.columns at n ≡ true) where
  both : (within f.lines f.columns at.line at.column ≡ true) × (leb (at.column + n) (f.columns + 1) ≡ true)
  both = and_parts (within f.lines f.columns at.line at.column) (leb (at.column + n) (f.columns + 1)) t

  inside : Within f.lines f.columns at.line at.column
  inside = within_true _ _ _ _ both.0

  abbrev pub start : ℕ
  start = index_in f.columns at.line at.column

  abbrev pub below : Position
  below = record { line = f.top + (at.line - 1); column = f.left + (at.column - 1) }

  pub below_is : index s.grid below.line below.column ≡ under s.grid.columns f start
  below_is = sym (under_at s.grid.lines s.grid.columns f fit at.line at.column inside)

  ends : at.column + n ≤ f.columns + 1
  ends = leb-true _ _ both.1

  pub below_on : part_on s.grid below n ≡ true
  below_on =
      let w = inside in
      let e = ends in
      and_from _ _ (true_within _ _ _ _ (within_below s.grid.lines s.grid.columns f fit at.line at.column inside)) (le-leb _ _ (omega (arith, fit.column_end, fit.left_low, w.column_low)))

  pub start_lt : start < f.lines * f.columns
  start_lt = index_lt _ _ _ _ inside

  start_mod : start % f.columns ≡ at.column - 1
  start_mod = let w = inside in mod-mul-add (at.line - 1) f.columns (at.column - 1) (omega (arith, w.column_low, w.column_high))

  pub start_run : (j : ℕ) → j < n → under s.grid.columns f (start + j) ≡ under s.grid.columns f start + j
  start_run = let w = inside in under_run s.grid.lines s.grid.columns f fit start n (omega (arith, start_mod, ends, w.column_low)) start_lt

  pub start_room : start + n ≤ f.lines * f.columns
  start_room =
      let w = inside in
      let e : ((at.line - 1) + 1) * f.columns ≤ f.lines * f.columns = mul-le ((at.line - 1) + 1) f.columns f.lines f.columns (omega (arith, w.line_low, w.line_high)) (omega arith) in
      omega (arith, ends, w.column_low)

-- a rectangle of a screen after a copy below
module _ (s : Screen) (h : Sound s) (f : Rectangle) (fit : Fit s.grid.lines s.grid.columns f) (from to : Position) (n : ℕ) (ft : part_within f.lines f.columns from n ≡ true) (ot : part_within f.lines f.columns to n ≡ true) where
  abbrev g : Grid
  g = s.grid

  abbrev u : ℕ → ℕ
  u = under s.grid.columns f

  abbrev fw : ℕ
  fw = start s f fit from n ft

  abbrev tw : ℕ
  tw = start s f fit to n ot

  -- what is not covered is not written
  not_written : (k : ℕ) → covers g.columns f k ≡ false → in_run (u tw) n k ≡ false
  not_written k c =
      ⊎_elim
      (λ t. let p = in_true (u tw) n k t in
      let a = p.0 in
      let b = p.1 in
      let j = k - u tw in
      let e : u (tw + j) ≡ k = omega (arith, start_run s f fit to n ot j (omega arith)) in
      absurd (both_ways (covers g.columns f k) c (ap (covers g.columns f) (sym e) ∙ covers_under g.lines g.columns f fit (tw + j) (omega (arith, start_room s f fit to n ot)))))
      (λ e. e)
      (cases_Bool (in_run (u tw) n k))

  -- a rectangle by its grid and the grid around it
  abbrev shape : Grid → Grid → Screen
  shape inner outer = record { grid = inner; beyond = around f.top f.left outer s.beyond }

  around_same : masked f (copied (u fw) (u tw) n g) ≡ masked f g
  around_same = replaced_same (covers g.columns f) (λ k. erased) g (copied (u fw) (u tw) n g).cells g.cells (λ k c. replaced_out (in_run (u tw) n) (copy_of (u fw) (u tw) g) g k h (not_written k c))

  inner_copied : with_cells (through f s).grid (seen u (f.lines * f.columns) (copied (u fw) (u tw) n g).cells) ≡ copied fw tw n (through f s).grid
  inner_copied =
      seen_copied u (f.lines * f.columns) (under_inj g.lines g.columns f fit) fw tw n (start_room s f fit to n ot) (start_run s f fit from n ft) (start_run s f fit to n ot)
      g (through f s).grid refl refl (start_room s f fit from n ft) (under_lt g.lines g.columns f fit)

  pub through_copied : through f (copy_on s (below s f fit from n ft) (below s f fit to n ot) n) ≡ copy_on (through f s) from to n
  through_copied =
      ap (λ z. through f (with_grid s z)) (cond-true _ _ _ (and_from _ _ (below_on s f fit from n ft) (below_on s f fit to n ot)))
      ∙ ap (λ z. through f (with_grid s (copied z (index g (below s f fit to n ot).line (below s f fit to n ot).column) n g))) (below_is s f fit from n ft)
      ∙ ap (λ z. through f (with_grid s (copied (u fw) z n g))) (below_is s f fit to n ot)
      ∙ ap (λ z. shape z (masked f (copied (u fw) (u tw) n g))) inner_copied
      ∙ ap (shape (copied fw tw n (through f s).grid)) around_same
      ∙ ap (with_grid (through f s)) (sym (cond-true _ _ _ (and_from _ _ ft ot)))

  pub copied_answer : copy_answer g (below s f fit from n ft) (below s f fit to n ot) n ≡ copy_answer (through f s).grid from to n
  copied_answer =
      cond-true _ _ _ (below_on s f fit from n ft) ∙ cond-true _ _ _ (below_on s f fit to n ot)
      ∙ sym (cond-true _ _ _ ft ∙ cond-true _ _ _ ot)

-- a part that was found below, or not
-- where a part begins below, both numbers have 16 bits
pub record Small (a d : ℕ) : Type 0 where
  pub line : a < 2 ^ 16
  pub column : d < 2 ^ 16

-- a window after a copy below
module _ (s : Screen) (h : Sound s) (r : Rectangle) (from to : Position) (n : ℕ) where
  abbrev shown : Rectangle
  shown = framed s.grid.lines s.grid.columns r

  shown_fit : Fit s.grid.lines s.grid.columns shown
  shown_fit = framed_fit s.grid.lines s.grid.columns r

  -- where a part begins below, if it is in the window
  abbrev begun : Position → Position
  begun at = record { line = shown.top + (at.line - 1); column = shown.left + (at.column - 1) }

  found : (at a : Position) → Some a ≡ part_beneath shown at n → (part_within shown.lines shown.columns at n ≡ true) × (a ≡ begun at)
  found at a e = found_if (part_within shown.lines shown.columns at n) a (begun at) e

  -- all are
  module _ (a d : Position) (i : Some a ≡ part_beneath shown from n) (o : Some d ≡ part_beneath shown to n) where
    ft : part_within shown.lines shown.columns from n ≡ true
    ft = (found from a i).0

    ot : part_within shown.lines shown.columns to n ≡ true
    ot = (found to d o).0

    abbrev source : Position
    source = below s shown shown_fit from n ft

    abbrev target : Position
    target = below s shown shown_fit to n ot

    pub both_says : copy_answer s.grid a d n ≡ copy_answer (windowed s r).grid from to n
    both_says =
        ap (λ p. copy_answer s.grid p d n) (found from a i).1 ∙ ap (λ p. copy_answer s.grid source p n) (found to d o).1
        ∙ copied_answer s h shown shown_fit from to n ft ot

    pub both_after : windowed (copy_on s a d n) r ≡ copy_on (windowed s r) from to n
    both_after =
        let e : part_on s.grid source n && part_on s.grid target n ≡ true = and_from _ _ (below_on s shown shown_fit from n ft) (below_on s shown shown_fit to n ot) in
        ap (λ p. windowed (copy_on s p d n) r) (found from a i).1 ∙ ap (λ p. windowed (copy_on s source p n) r) (found to d o).1
        ∙ ap (λ z. windowed (with_grid s z) r) (cond-true _ _ _ e)
        ∙ sym (ap (λ z. through shown (with_grid s z)) (cond-true _ _ _ e))
        ∙ through_copied s h shown shown_fit from to n ft ot
