-- A run of cells copied cell by cell, and parts of lines.
use Rattle.std.proofs.Common.{◌≡◌, ℕ, ◌+◌, ◌-◌, ◌*◌, ◌<◌, ◌≤◌, Bool, true, false, cond, leb, ◌⊎◌, get_or, sym, ap, ◌∙◌, ⊎_elim, arith}
use Rattle.std.proofs.lemmas.Nat.{mul-le}
use Rattle.std.proofs.lemmas.Bool.{and_from, and_parts, and_left, and_right, le-leb, lt-leb, lt-ltb, le-ltb, leb-true, cases_lt, cond-true}
use Rattle.std.proofs.lemmas.Bool.Decides.{nat_tests}
use Rattle.refusal.specs.Table.{Answer, accepted, refused}
use Rattle.panel.specs.declared.cell.Cell.{Cell}
use Rattle.panel.specs.declared.cell.Position.{Position}
use Rattle.panel.specs.declared.size.Size.{Size}
use Rattle.panel.specs.Grids.{Grid, erased, size_of, on, index, cell_at, cell_answer, replaced}
use Rattle.panel.specs.Screens.{Screen, Sound, with_grid, set_on, put_on}
use Rattle.panel.specs.Shifts.{Part}
use Rattle.panel.specs.Copies.{part_within, in_run, copy_of}
use Rattle.panel.proofs.Places.{within_true, true_within}
use Rattle.panel.proofs.Replaced.{replaced_set, replaced_out, is_replaced}

-- a part of a line that was found to be within the size
pub true_part : (g : Grid) (z : Size) (at : Position) (count : ℕ) → z ≡ size_of g → true ≡ part_within z.lines z.columns at count → Part g at.line at.column count
true_part g z at count e t =
    let p = and_parts (on g at.line at.column) (leb (at.column + count) (g.columns + 1)) (sym (t ∙ ap (λ y. part_within y.lines y.columns at count) e)) in
    let w = within_true g.lines g.columns at.line at.column p.0 in
    record { line_low = w.line_low; line_high = w.line_high; column_low = w.column_low; column_end = leb-true _ _ p.1 }

-- each cell of a part of a line is on the grid
pub part_cell : (g : Grid) (line column count i : ℕ) → Part g line column count → i < count → on g line (column + i) ≡ true
part_cell g line column count i p l =
    true_within g.lines g.columns line (column + i)
    (record { line_low = p.line_low; line_high = p.line_high; column_low = omega (arith, p.column_low); column_high = omega (arith, p.column_end) })

-- and so is the run
pub part_end : (g : Grid) (line column count : ℕ) → Part g line column count → index g line column + count ≤ g.lines * g.columns
part_end g line column count p =
    let a = p.line_low in
    let b = p.line_high in
    let c = p.column_low in
    let d = p.column_end in
    let e : ((line - 1) + 1) * g.columns ≤ g.lines * g.columns = mul-le ((line - 1) + 1) g.columns g.lines g.columns (omega arith) (omega arith) in
    omega arith

-- parts of two lines are apart
pub lines_apart : (g : Grid) (al ac bl bc n : ℕ) → Part g al ac n → 1 ≤ bl → al < bl → index g al ac + n ≤ index g bl bc
lines_apart g al ac bl bc n p low l =
    let a = p.line_low in
    let c = p.column_low in
    let d = p.column_end in
    let e : ((al - 1) + 1) * g.columns ≤ (bl - 1) * g.columns = mul-le ((al - 1) + 1) g.columns (bl - 1) g.columns (omega arith) (omega arith) in
    omega arith

-- the cell that was read is put where it is set
value : Answer Cell → Cell
value (accepted x) = x
value (refused n l p) = erased

pub cell_put : (t u : Screen) (fl fc tl tc : ℕ) (x : Cell) → (on t.grid fl fc ≡ true) × (on t.grid tl tc ≡ true) → accepted x ≡ cell_answer t.grid fl fc → u ≡ set_on t tl tc x →
    u ≡ put_on t (index t.grid tl tc) (cell_at t.grid fl fc)
unfolding value
cell_put t u fl fc tl tc x o e m =
    m ∙ ap (with_grid t) (cond-true _ _ _ o.1) ∙ ap (put_on t (index t.grid tl tc)) (ap value (e ∙ cond-true _ _ _ o.0))

-- along a line the index grows by one
pub index_more : (g : Grid) (line column i : ℕ) → 1 ≤ column → index g line (column + i) ≡ index g line column + i
index_more g line column i h = omega arith

-- a run copied from a part of a line to another, cell by cell
module _ (s : Screen) (h : Sound s) (fl fc tl tc n : ℕ) (fp : Part s.grid fl fc n) (tp : Part s.grid tl tc n) where
  abbrev g : Grid
  g = s.grid

  abbrev from : ℕ
  from = index s.grid fl fc

  abbrev to : ℕ
  to = index s.grid tl tc

  -- the screen with the cells at some indices copied already
  abbrev pub partly : (ℕ → Bool) → Screen
  partly done = with_grid s (replaced done (copy_of from to g) g)

  -- one more cell is copied, from an index that was not written yet
  pub copied_next : (done more : ℕ → Bool) (i : ℕ) (t u : Screen) → i < n → done (from + i) ≡ false → more (to + i) ≡ true → ((j : ℕ) → (j ≡ to + i → ⊥) → more j ≡ done j) →
      t ≡ partly done → u ≡ put_on t (index t.grid tl (tc + i)) (cell_at t.grid fl (fc + i)) → u ≡ partly more
  copied_next done more i t u low unread written same et eu =
      let e : from + ((to + i) - to) ≡ from + i = omega arith in
      let room : to + i < g.lines * g.columns = omega (arith, part_end g tl tc n tp) in
      eu ∙ ap (λ z. put_on z (index z.grid tl (tc + i)) (cell_at z.grid fl (fc + i))) et
      ∙ ap (λ k. put_on (partly done) k (cell_at (partly done).grid fl (fc + i))) (index_more g tl tc i tp.column_low)
      ∙ ap (λ k. put_on (partly done) (to + i) (get_or (partly done).grid.cells k erased)) (index_more g fl fc i fp.column_low)
      ∙ ap (put_on (partly done) (to + i)) (replaced_out done (copy_of from to g) g (from + i) h unread ∙ ap (λ k. get_or g.cells k erased) (sym e))
      ∙ ap (with_grid s) (replaced_set done more (copy_of from to g) g (to + i) room written same)

  -- both cells are on the panel
  pub copied_on : (done : ℕ → Bool) (i : ℕ) (t : Screen) → i < n → t ≡ partly done → (on t.grid fl (fc + i) ≡ true) × (on t.grid tl (tc + i) ≡ true)
  copied_on done i t low et = rw et (part_cell g fl fc n i fp low, part_cell g tl tc n i tp low)

  -- at the start nothing is copied
  pub copied_none : (done : ℕ → Bool) → ((k : ℕ) → done k ≡ false) → s ≡ partly done
  copied_none done none = ap (with_grid s) (is_replaced done (copy_of from to g) g g.cells h.count (λ k l. ap (λ b. cond b (copy_of from to g k) (get_or g.cells k erased)) (sym (none k))))

-- a run that grows at its end, and at its front
pub run_none : (at k : ℕ) → in_run at 0 k ≡ false
run_none at k = grind (arith, nat_tests)

pub run_last : (at n : ℕ) → in_run at (n + 1) (at + n) ≡ true
run_last at n = and_from _ _ (le-leb at (at + n) (omega arith)) (lt-ltb (at + n) (at + (n + 1)) (omega arith))

pub run_more : (at n j : ℕ) → (j ≡ at + n → ⊥) → in_run at (n + 1) j ≡ in_run at n j
run_more at n j ne = grind (arith, nat_tests)

pub run_past : (at n k : ℕ) → at + n ≤ k → in_run at n k ≡ false
run_past at n k l = and_right _ _ (le-ltb _ _ l)

pub run_before : (at n k : ℕ) → k < at → in_run at n k ≡ false
run_before at n k l = and_left _ _ (lt-leb _ _ l)

pub run_first : (at n : ℕ) → 0 < n → in_run at n at ≡ true
run_first at n l = and_from _ _ (le-leb at at (omega arith)) (lt-ltb at (at + n) (omega arith))

-- the end of a run from the i-th cell on
abbrev pub tail_run : ℕ → ℕ → ℕ → ℕ → Bool
tail_run at n i k = in_run (at + i) (n - i) k

pub tail_first : (at n i : ℕ) → 0 < i → i ≤ n → tail_run at n (i - 1) (at + (i - 1)) ≡ true
tail_first at n i l m = run_first (at + (i - 1)) (n - (i - 1)) (omega arith)

pub tail_more : (at n i j : ℕ) → 0 < i → i ≤ n → (j ≡ at + (i - 1) → ⊥) → tail_run at n (i - 1) j ≡ tail_run at n i j
tail_more at n i j l m ne = grind (arith, nat_tests)

pub tail_none : (at n k : ℕ) → tail_run at n n k ≡ false
tail_none at n k = grind (arith, nat_tests)

pub tail_before : (at n i k : ℕ) → k < at + i → tail_run at n i k ≡ false
tail_before at n i k l = run_before (at + i) (n - i) k l

-- a cell that is still to be read is not written yet, from the first one on
pub unread_ahead : (g : Grid) (fl fc tl tc n i : ℕ) → Part g fl fc n → Part g tl tc n → ((fl ≡ tl → ⊥) ⊎ ((fl ≡ tl) × (tc ≤ fc))) → i < n → in_run (index g tl tc) i (index g fl fc + i) ≡ false
unread_ahead g fl fc tl tc n i fp tp way low =
    let past : index g tl tc ≤ index g fl fc → in_run (index g tl tc) i (index g fl fc + i) ≡ false = λ l. run_past (index g tl tc) i (index g fl fc + i) (omega arith) in
    ⊎_elim
    (λ ne. ⊎_elim
    (λ a. run_before (index g tl tc) i (index g fl fc + i) (omega (arith, lines_apart g fl fc tl tc n fp tp.line_low a)))
    (λ b. past (omega (arith, lines_apart g tl tc fl fc n tp fp.line_low (let d : fl ≡ tl → ⊥ = ne in omega arith))))
    (cases_lt fl tl))
    (λ e. past (let m : (fl - 1) * g.columns ≡ (tl - 1) * g.columns = ap (λ z. (z - 1) * g.columns) e.0 in omega (arith, e.1)))
    way

-- and from the last one on
pub unread_behind : (g : Grid) (fl fc tl tc n i : ℕ) → fl ≡ tl → fc < tc → 1 ≤ fc → 0 < i → tail_run (index g tl tc) n i (index g fl fc + (i - 1)) ≡ false
unread_behind g fl fc tl tc n i e l one some =
    let m : (fl - 1) * g.columns ≡ (tl - 1) * g.columns = ap (λ z. (z - 1) * g.columns) e in
    tail_before (index g tl tc) n i (index g fl fc + (i - 1)) (omega arith)
