-- A rectangle shifted line by line.
use Rattle.std.proofs.Common.{◌≡◌, ℕ, ◌+◌, ◌-◌, ◌*◌, ◌/◌, ◌%◌, ◌<◌, ◌≤◌, Bool, true, false, cond, ◌&&◌, eqb, ltb, leb, ◌⊎◌, List, length, get_or, sym, refl, ap, ◌∙◌, inl, inr, ⊎_elim, arith}
use Rattle.std.proofs.lemmas.Nat.{div-mul-add, mod-mul-add, div-add-mod'}
use Rattle.std.proofs.lemmas.Bool.{and_from, and_parts, and_left, and_right, le-leb, lt-leb, lt-ltb, le-ltb, leb-true, leb-false, ltb-true, ltb-false, eqb-true, eq-eqb, ne_eqb, cond-true, cond-false, cases_Bool, cases_lt, cases_eq, both_ways, true≢false, false≢true}
use Rattle.std.proofs.lemmas.Bool.Decides.{nat_tests}
use Rattle.panel.specs.declared.cell.Cell.{Cell}
use Rattle.panel.specs.declared.rectangle.Rectangle.{Rectangle}
use Rattle.panel.specs.declared.shifting.Direction.{Direction}
use Rattle.panel.specs.declared.shifting.Direction.TheVariants.{Up, Down, Left, Right}
use Rattle.panel.specs.Grids.{Grid, Whole, erased, index, with_cells, replaced, wiped}
use Rattle.panel.specs.Rectangles.{Fit, in_rectangle, covers}
use Rattle.panel.specs.Shifts.{source, from_source, incoming, incoming_at, shifted, line_shifted, is_forward, turn, Line, Part}
use Rattle.panel.specs.Copies.{in_run, copy_of, copied}
use Rattle.panel.proofs.Wiped.{length_wiped, get_or_wiped_in, get_or_wiped_out}
use Rattle.panel.proofs.Replaced.{choice, length_replaced, get_or_replaced, replaced_in, replaced_out, is_replaced}
use Rattle.panel.proofs.Copied.{part_end}

-- whether a line and column are in a rectangle
pub rectangle_in : (r : Rectangle) (l c : ℕ) → r.top ≤ l → l < r.top + r.lines → r.left ≤ c → c < r.left + r.columns → in_rectangle r l c ≡ true
rectangle_in r l c a b d e = and_from _ _ (and_from _ _ (le-leb _ _ a) (lt-ltb _ _ b)) (and_from _ _ (le-leb _ _ d) (lt-ltb _ _ e))

pub rectangle_above : (r : Rectangle) (l c : ℕ) → l < r.top → in_rectangle r l c ≡ false
rectangle_above r l c a = and_left _ _ (and_left _ _ (lt-leb _ _ a))

pub rectangle_below : (r : Rectangle) (l c : ℕ) → r.top + r.lines ≤ l → in_rectangle r l c ≡ false
rectangle_below r l c a = and_left _ _ (and_right (leb r.top l) _ (le-ltb _ _ a))

pub rectangle_left : (r : Rectangle) (l c : ℕ) → c < r.left → in_rectangle r l c ≡ false
rectangle_left r l c a = and_right (leb r.top l && ltb l (r.top + r.lines)) _ (and_left _ _ (lt-leb _ _ a))

pub rectangle_right : (r : Rectangle) (l c : ℕ) → r.left + r.columns ≤ c → in_rectangle r l c ≡ false
rectangle_right r l c a = and_right (leb r.top l && ltb l (r.top + r.lines)) _ (and_right (leb r.left c) _ (le-ltb _ _ a))

-- the lines and columns of a place in a rectangle
pub record In (r : Rectangle) (l c : ℕ) : Type 0 where
  pub top : r.top ≤ l
  pub bottom : l < r.top + r.lines
  pub left : r.left ≤ c
  pub right : c < r.left + r.columns

pub in_true : (r : Rectangle) (l c : ℕ) → in_rectangle r l c ≡ true → In r l c
in_true r l c e =
    let a = and_parts _ _ e in
    let b = and_parts _ _ a.0 in
    let d = and_parts _ _ a.1 in
    record { top = leb-true _ _ b.0; bottom = ltb-true _ _ b.1; left = leb-true _ _ d.0; right = ltb-true _ _ d.1 }

-- the cells of a line of a rectangle
pub rectangle_part : (g : Grid) (r : Rectangle) (line : ℕ) → Fit g.lines g.columns r → r.top ≤ line → line < r.top + r.lines → Part g line r.left r.columns
rectangle_part g r line f a b = record { line_low = omega (arith, f.top_low); line_high = omega (arith, f.line_end); column_low = f.left_low; column_end = f.column_end }

-- a line of a rectangle
module _ (g : Grid) (h : Whole g) (r : Rectangle) (n line : ℕ) (l : Line g r n line) where
  abbrev w : ℕ
  w = g.columns

  abbrev C : ℕ
  C = r.columns

  -- the index of its first cell
  abbrev start : ℕ
  start = index g line r.left

  pub line_part : Part g line r.left C
  line_part = rectangle_part g r line l.fit l.from l.to

  pub line_room : start + C ≤ length g.cells
  line_room = omega (arith, h.count, part_end g line r.left C line_part)

  -- an index in the line of the rectangle is that of one of its columns
  record Column (k : ℕ) : Type 0 where
    pub line_is : k / w + 1 ≡ line
    pub left : r.left ≤ k % w + 1
    pub right : k % w + 1 < r.left + C
    pub is : k ≡ index g line (k % w + 1)

  column : (k : ℕ) → in_run start C k ≡ true → Column k
  column k t =
      let p = and_parts _ _ t in
      let a : start ≤ k = leb-true _ _ p.0 in
      let b : k < start + C = ltb-true _ _ p.1 in
      let part = line_part in
      let j = k - (line - 1) * w in
      let low : j < w = omega arith in
      let e : k ≡ (line - 1) * w + j = omega arith in
      let d : k / w ≡ line - 1 = ap (λ z. z / w) e ∙ div-mul-add (line - 1) w j low in
      let m : k % w ≡ j = ap (λ z. z % w) e ∙ mod-mul-add (line - 1) w j low in
      record { line_is = omega arith; left = omega arith; right = omega arith; is = omega arith }

  -- whether an index is in the line of the rectangle
  abbrev here : ℕ → Bool
  here k = eqb (k / w + 1) line && covers w r k

  here_true : (k : ℕ) → Column k → here k ≡ true
  here_true k q =
      let e = q.line_is in
      let a = l.from in
      let b = l.to in
      and_from _ _ (eq-eqb _ _ e) (rectangle_in r (k / w + 1) (k % w + 1) (omega arith) (omega arith) q.left q.right)

  here_false : (k : ℕ) → in_run start C k ≡ false → here k ≡ false
  here_false k f =
      ⊎_elim
      (λ t. let p = and_parts (eqb (k / w + 1) line) (covers w r k) t in
      let e : k / w + 1 ≡ line = eqb-true _ _ p.0 in
      let i = in_true r (k / w + 1) (k % w + 1) p.1 in
      let d : k / w ≡ line - 1 = omega arith in
      let v : (line - 1) * w + k % w ≡ k = ap (λ z. z * w + k % w) (sym d) ∙ div-add-mod' k w in
      let one = l.fit.left_low in
      let a : start ≤ k = omega (arith, i.left) in
      let b : k < start + C = omega (arith, i.right) in
      absurd (both_ways (in_run start C k) f (and_from _ _ (le-leb _ _ a) (lt-ltb _ _ b))))
      (λ e. e)
      (cases_Bool (here k))

  -- cells of which those of the line come from their sources, and the others stay
  pub is_line : (d : Direction) (ys : List Cell) → length ys ≡ g.lines * g.columns →
      ((c : ℕ) → r.left ≤ c → c < r.left + C → get_or ys (index g line c) erased ≡ incoming r d n g line c) →
      ((k : ℕ) → in_run start C k ≡ false → get_or ys k erased ≡ get_or g.cells k erased) → with_cells g ys ≡ line_shifted r d n line g
  is_line d ys len inner outer =
      is_replaced here (incoming_at r d n g) g ys len (λ k low.
      ⊎_elim
      (λ t. let q = column k t in
      ap (λ z. get_or ys z erased) q.is ∙ inner (k % w + 1) q.left q.right ∙ ap (λ z. incoming r d n g z (k % w + 1)) (sym q.line_is)
      ∙ sym (cond-true (here k) (incoming_at r d n g k) (get_or g.cells k erased) (here_true k q)))
      (λ f. outer k f ∙ sym (cond-false (here k) (incoming_at r d n g k) (get_or g.cells k erased) (here_false k f)))
      (cases_Bool (in_run start C k)))

  -- the index of a column of the line
  column_run : (c : ℕ) → r.left ≤ c → c < r.left + C → (start ≤ index g line c) × (index g line c < start + C)
  column_run c a b = let one = l.fit.left_low in (omega arith, omega arith)

  -- all of the line comes from a run of cells
  pub line_moved : (d : Direction) (from : ℕ) → ((c : ℕ) → r.left ≤ c → c < r.left + C → get_or g.cells (from + (index g line c - start)) erased ≡ incoming r d n g line c) →
      copied from start C g ≡ line_shifted r d n line g
  line_moved d from comes =
      is_line d (copied from start C g).cells (length_replaced (in_run start C) (copy_of from start g) g)
      (λ c a b. let q = column_run c a b in
      replaced_in (in_run start C) (copy_of from start g) g (index g line c) (omega (arith, q.1, line_room, h.count)) (and_from _ _ (le-leb _ _ q.0) (lt-ltb _ _ q.1)) ∙ comes c a b)
      (λ k f. replaced_out (in_run start C) (copy_of from start g) g k h f)

  out_of : (at m k : ℕ) → in_run at m k ≡ false → at ≤ k → k < at + m → ⊥
  out_of at m k f a b = both_ways (in_run at m k) f (and_from _ _ (le-leb _ _ a) (lt-ltb _ _ b))

  -- nothing comes to the line
  pub line_cleared : (d : Direction) → ((c : ℕ) → r.left ≤ c → c < r.left + C → incoming r d n g line c ≡ erased) → with_cells g (wiped g.cells start C) ≡ line_shifted r d n line g
  line_cleared d none =
      is_line d (wiped g.cells start C) (length_wiped g.cells start C line_room ∙ h.count)
      (λ c a b. let q = column_run c a b in get_or_wiped_in g.cells start C (index g line c) line_room q.0 q.1 ∙ sym (none c a b))
      (λ k f. get_or_wiped_out g.cells start C k line_room (out_of start C k f))

  -- a run of m cells is copied within the line, and a run of n cells is erased
  pub line_slid : (d : Direction) (from to m at : ℕ) → start ≤ to → to + m ≤ start + C → start ≤ at → at + n ≤ start + C →
      ((c : ℕ) → r.left ≤ c → c < r.left + C →
      ((at ≤ index g line c) × (index g line c < at + n) × (incoming r d n g line c ≡ erased))
      ⊎ (((at ≤ index g line c) → (index g line c < at + n) → ⊥) × (to ≤ index g line c) × (index g line c < to + m) × (get_or g.cells (from + (index g line c - to)) erased ≡ incoming r d n g line c))) →
      with_cells g (wiped (copied from to m g).cells at n) ≡ line_shifted r d n line g
  line_slid d from to m at t1 t2 a1 a2 each =
      let xs = (copied from to m g).cells in
      let len : length xs ≡ g.lines * g.columns = length_replaced (in_run to m) (copy_of from to g) g in
      let count = h.count in
      let all = line_room in
      let room : at + n ≤ length xs = omega arith in
      is_line d (wiped xs at n) (length_wiped xs at n room ∙ len)
      (λ c a b. let q = column_run c a b in
      ⊎_elim
      (λ e. get_or_wiped_in xs at n (index g line c) room e.0 e.1 ∙ sym e.2)
      (λ e. get_or_wiped_out xs at n (index g line c) room e.0
      ∙ replaced_in (in_run to m) (copy_of from to g) g (index g line c) (omega (arith, q.1)) (and_from _ _ (le-leb _ _ e.1) (lt-ltb _ _ e.2)) ∙ e.3)
      (each c a b))
      (λ k f. get_or_wiped_out xs at n k room (λ a b. out_of start C k f (omega arith) (omega arith))
      ∙ replaced_out (in_run to m) (copy_of from to g) g k h
      (⊎_elim (λ e. let p = and_parts (leb to k) (ltb k (to + m)) e in
      let x : to ≤ k = leb-true _ _ p.0 in
      let y : k < to + m = ltb-true _ _ p.1 in
      absurd (out_of start C k f (omega arith) (omega arith))) (λ e. e) (cases_Bool (in_run to m k))))

  -- the cell that comes, where its source is in the rectangle and where it is not
  comes_in : (d : Direction) (c i : ℕ) → in_rectangle r (source d n line c).0 (source d n line c).1 ≡ true → i ≡ index g (source d n line c).0 (source d n line c).1 → get_or g.cells i erased ≡ incoming r d n g line c
  comes_in d c i t e = ap (λ z. get_or g.cells z erased) e ∙ sym (cond-true _ _ _ t)

  comes_not : (d : Direction) (c : ℕ) → in_rectangle r (source d n line c).0 (source d n line c).1 ≡ false → incoming r d n g line c ≡ erased
  comes_not d c f = cond-false _ _ _ f

  pub up_moved : line + n < r.top + r.lines → copied (index g (line + n) r.left) start C g ≡ line_shifted r Up n line g
  up_moved b =
      let a = l.from in
      let one = l.fit.left_low in
      line_moved Up (index g (line + n) r.left) (λ c x y. comes_in Up c _ (rectangle_in r (line + n) c (omega arith) b x y) (omega arith))

  pub up_cleared : r.top + r.lines ≤ line + n → with_cells g (wiped g.cells start C) ≡ line_shifted r Up n line g
  up_cleared b = line_cleared Up (λ c x y. comes_not Up c (rectangle_below r (line + n) c b))

  pub down_moved : r.top + n ≤ line → copied (index g (line - n) r.left) start C g ≡ line_shifted r Down n line g
  down_moved b =
      let a = l.to in
      let one = l.fit.left_low in
      line_moved Down (index g (line - n) r.left) (λ c x y. comes_in Down c _ (rectangle_in r (line - n) c (omega arith) (omega arith) x y) (omega arith))

  pub down_cleared : line < r.top + n → with_cells g (wiped g.cells start C) ≡ line_shifted r Down n line g
  down_cleared b = let one = l.fit.top_low in line_cleared Down (λ c x y. comes_not Down c (rectangle_above r (line - n) c (omega arith)))

  pub left_moved : n < C → with_cells g (wiped (copied (index g line (r.left + n)) start (C - n) g).cells (index g line (r.left + (C - n))) n) ≡ line_shifted r Left n line g
  left_moved b =
      let one = l.fit.left_low in
      line_slid Left (index g line (r.left + n)) start (C - n) (index g line (r.left + (C - n))) (omega arith) (omega arith) (omega arith) (omega arith)
      (λ c x y. ⊎_elim
      (λ z. inr (λ u v. omega arith, omega arith, omega arith, comes_in Left c _ (rectangle_in r line (c + n) l.from l.to (omega arith) (omega arith)) (omega arith)))
      (λ z. inl (omega arith, omega arith, comes_not Left c (rectangle_right r line (c + n) (omega arith))))
      (cases_lt c (r.left + (C - n))))

  pub left_cleared : C ≤ n → with_cells g (wiped g.cells start C) ≡ line_shifted r Left n line g
  left_cleared b = line_cleared Left (λ c x y. comes_not Left c (rectangle_right r line (c + n) (omega arith)))

  pub right_moved : n < C → with_cells g (wiped (copied start (index g line (r.left + n)) (C - n) g).cells start n) ≡ line_shifted r Right n line g
  right_moved b =
      let one = l.fit.left_low in
      line_slid Right start (index g line (r.left + n)) (C - n) start (omega arith) (omega arith) (omega arith) (omega arith)
      (λ c x y. ⊎_elim
      (λ z. inl (omega arith, omega arith, comes_not Right c (rectangle_left r line (c - n) (omega arith))))
      (λ z. inr (λ u v. omega arith, omega arith, omega arith, comes_in Right c _ (rectangle_in r line (c - n) l.from l.to (omega arith) (omega arith)) (omega arith)))
      (cases_lt c (r.left + n)))

  pub right_cleared : C ≤ n → with_cells g (wiped g.cells start C) ≡ line_shifted r Right n line g
  right_cleared b = let one = l.fit.left_low in line_cleared Right (λ c x y. comes_not Right c (rectangle_left r line (c - n) (omega arith)))

-- the grid of which some lines are shifted already: each cell of theirs is the one that comes, in the rectangle, and stays outside it
abbrev pub done_lines : Grid → Rectangle → Direction → ℕ → (ℕ → Bool) → Grid
done_lines g r d n done = replaced (λ k. done (k / g.columns + 1)) (choice (covers g.columns r) (incoming_at r d n g) g) g

-- the lines of a rectangle shifted one after another
module _ (g : Grid) (h : Whole g) (r : Rectangle) (fit : Fit g.lines g.columns r) (d : Direction) (n : ℕ) where
  abbrev settled : ℕ → Cell
  settled k = choice (covers g.columns r) (incoming_at r d n g) g k

  abbrev lines_done : (ℕ → Bool) → Grid
  lines_done done = done_lines g r d n done

  -- the line of an index
  index_line : (l c : ℕ) → In r l c → index g l c / g.columns + 1 ≡ l
  index_line l c i =
      let a = i.top in
      let b = i.left in
      let e = i.right in
      let p = fit.top_low in
      let q = fit.left_low in
      let z = fit.column_end in
      let x : index g l c / g.columns ≡ l - 1 = div-mul-add (l - 1) g.columns (c - 1) (omega arith) in
      omega arith

  -- a source in a line that is not shifted yet
  source_same : (done : ℕ → Bool) (p : ℕ × ℕ) → done p.0 ≡ false → from_source r (lines_done done) p ≡ from_source r g p
  source_same done p f =
      ⊎_elim
      (λ t. let i = index_line p.0 p.1 (in_true r p.0 p.1 t) in
      ap (λ z. cond (in_rectangle r p.0 p.1) z erased) (replaced_out (λ k. done (k / g.columns + 1)) settled g (index g p.0 p.1) h (ap done i ∙ f)))
      (λ e. cond-false (in_rectangle r p.0 p.1) _ erased e ∙ sym (cond-false (in_rectangle r p.0 p.1) _ erased e))
      (cases_Bool (in_rectangle r p.0 p.1))

  -- one more line
  pub lines_next : (done more : ℕ → Bool) (line : ℕ) → done line ≡ false → more line ≡ true → ((l : ℕ) → (l ≡ line → ⊥) → more l ≡ done l) → ((c : ℕ) → done (source d n line c).0 ≡ false) →
      line_shifted r d n line (lines_done done) ≡ lines_done more
  lines_next done more line unread written same sources =
      let t = lines_done done in
      let w = g.columns in
      let here : ℕ → Bool = λ k. eqb (k / w + 1) line && covers w r k in
      is_replaced (λ k. more (k / w + 1)) settled g (line_shifted r d n line t).cells (length_replaced here (incoming_at r d n t) t) (λ k low.
      get_or_replaced here (incoming_at r d n t) t k low
      ∙ ⊎_elim
      (λ e. ap (λ b. cond (b && covers w r k) (incoming_at r d n t k) (get_or t.cells k erased)) (eq-eqb (k / w + 1) line e)
      ∙ ap (λ x. cond (covers w r k) x (get_or t.cells k erased)) (source_same done (source d n (k / w + 1) (k % w + 1)) (ap (λ z. done (source d n z (k % w + 1)).0) e ∙ sources (k % w + 1)))
      ∙ ap (λ x. cond (covers w r k) (incoming_at r d n g k) x) (replaced_out (λ i. done (i / w + 1)) settled g k h (ap done e ∙ unread))
      ∙ sym (cond-true (more (k / w + 1)) (settled k) (get_or g.cells k erased) (ap more e ∙ written)))
      (λ ne. cond-false (here k) (incoming_at r d n t k) (get_or t.cells k erased) (and_left _ _ (ne_eqb (k / w + 1) line ne))
      ∙ get_or_replaced (λ i. done (i / w + 1)) settled g k low
      ∙ ap (λ b. cond b (settled k) (get_or g.cells k erased)) (sym (same (k / w + 1) ne)))
      (cases_eq (k / w + 1) line))

  -- lines outside the rectangle stay as they are, whether they count as shifted
  pub lines_none : (done : ℕ → Bool) → ((l c : ℕ) → done l ≡ true → in_rectangle r l c ≡ false) → g ≡ lines_done done
  lines_none done stay =
      is_replaced (λ k. done (k / g.columns + 1)) settled g g.cells h.count (λ k low.
      ⊎_elim
      (λ t. sym (cond-true (done (k / g.columns + 1)) (settled k) (get_or g.cells k erased) t ∙ cond-false (covers g.columns r k) (incoming_at r d n g k) _ (stay (k / g.columns + 1) (k % g.columns + 1) t)))
      (λ f. sym (cond-false (done (k / g.columns + 1)) (settled k) (get_or g.cells k erased) f))
      (cases_Bool (done (k / g.columns + 1))))

  -- or not
  pub lines_all : (done : ℕ → Bool) → ((l c : ℕ) → done l ≡ false → in_rectangle r l c ≡ false) → lines_done done ≡ shifted r d n g
  lines_all done stay =
      is_replaced (covers g.columns r) (incoming_at r d n g) g (lines_done done).cells (length_replaced (λ k. done (k / g.columns + 1)) settled g) (λ k low.
      get_or_replaced (λ i. done (i / g.columns + 1)) settled g k low
      ∙ ⊎_elim
      (λ t. cond-true (done (k / g.columns + 1)) (settled k) (get_or g.cells k erased) t)
      (λ f. cond-false (done (k / g.columns + 1)) (settled k) (get_or g.cells k erased) f ∙ sym (cond-false (covers g.columns r k) (incoming_at r d n g k) _ (stay (k / g.columns + 1) (k % g.columns + 1) f)))
      (cases_Bool (done (k / g.columns + 1))))

-- a source is not above a line that goes forward, and not below one that goes backward
pub source_below : (d : Direction) (n line c : ℕ) → is_forward d ≡ true → line ≤ (source d n line c).0
source_below Up n line c t = omega arith
source_below Left n line c t = omega arith
source_below Down n line c t = absurd (false≢true t)
source_below Right n line c t = absurd (false≢true t)

pub source_above : (d : Direction) (n line c : ℕ) → is_forward d ≡ false → (source d n line c).0 ≤ line
source_above Down n line c t = omega arith
source_above Right n line c t = omega arith
source_above Up n line c t = absurd (true≢false t)
source_above Left n line c t = absurd (true≢false t)

-- lines counted off from the first one, and from the last one
pub below_next : (top i l : ℕ) → (l ≡ top + i → ⊥) → ltb l (top + (i + 1)) ≡ ltb l (top + i)
below_next top i l ne = grind (arith, nat_tests)

pub above_next : (top i l : ℕ) → 0 < i → (l ≡ top + (i - 1) → ⊥) → leb (top + (i - 1)) l ≡ leb (top + i) l
above_next top i l p ne = grind (arith, nat_tests)

-- from the first line on, and from the last one on
module _ (g : Grid) (h : Whole g) (r : Rectangle) (fit : Fit g.lines g.columns r) (n : ℕ) where
  none_above : (d : Direction) → g ≡ done_lines g r d n (λ l. ltb l (r.top + 0))
  none_above d = lines_none g h r fit d n (λ l. ltb l (r.top + 0)) (λ l k t. rectangle_above r l k (let q = ltb-true l (r.top + 0) t in omega arith))

  none_below : (d : Direction) → g ≡ done_lines g r d n (λ l. leb (r.top + (r.lines - 0)) l)
  none_below d = lines_none g h r fit d n (λ l. leb (r.top + (r.lines - 0)) l) (λ l k t. rectangle_below r l k (let q = leb-true (r.top + (r.lines - 0)) l t in omega arith))

  all_above : (d : Direction) (i : ℕ) → r.lines ≤ i → done_lines g r d n (λ l. ltb l (r.top + i)) ≡ shifted r d n g
  all_above d i m = lines_all g h r fit d n (λ l. ltb l (r.top + i)) (λ l k f. rectangle_below r l k (let q = ltb-false l (r.top + i) f in omega arith))

  all_below : (d : Direction) (i : ℕ) → r.lines ≤ i → done_lines g r d n (λ l. leb (r.top + (r.lines - i)) l) ≡ shifted r d n g
  all_below d i m = lines_all g h r fit d n (λ l. leb (r.top + (r.lines - i)) l) (λ l k f. rectangle_above r l k (let q = leb-false (r.top + (r.lines - i)) l f in omega arith))

  next_above : (d : Direction) (i : ℕ) → is_forward d ≡ true →
      line_shifted r d n (r.top + i) (done_lines g r d n (λ l. ltb l (r.top + i))) ≡ done_lines g r d n (λ l. ltb l (r.top + (i + 1)))
  next_above d i t =
      let line = r.top + i in
      lines_next g h r fit d n (λ l. ltb l line) (λ l. ltb l (r.top + (i + 1))) line
      (le-ltb line line (omega arith)) (lt-ltb line (r.top + (i + 1)) (omega arith)) (λ l ne. below_next r.top i l ne)
      (λ k. le-ltb _ line (source_below d n line k t))

  next_below : (d : Direction) (i : ℕ) → is_forward d ≡ false → i < r.lines →
      line_shifted r d n (r.top + (r.lines - 1 - i)) (done_lines g r d n (λ l. leb (r.top + (r.lines - i)) l)) ≡ done_lines g r d n (λ l. leb (r.top + (r.lines - (i + 1))) l)
  next_below d i t m =
      let line = r.top + (r.lines - 1 - i) in
      let up = r.top + (r.lines - i) in
      lines_next g h r fit d n (λ l. leb up l) (λ l. leb (r.top + (r.lines - (i + 1))) l) line
      (lt-leb up line (omega arith)) (le-leb (r.top + (r.lines - (i + 1))) line (omega arith))
      (λ l ne. ap (λ z. leb (r.top + z) l) (omega arith) ∙ above_next r.top (r.lines - i) l (omega arith) (λ e. ne (omega arith)))
      (λ k. lt-leb up (source d n line k).0 (let q = source_above d n line k t in omega arith))

-- the lines that are shifted when i are
abbrev pub turned : Rectangle → Direction → ℕ → ℕ → Bool
turned r d i line = cond (is_forward d) (ltb line (r.top + i)) (leb (r.top + (r.lines - i)) line)

pub turned_none : (g : Grid) (h : Whole g) (r : Rectangle) (fit : Fit g.lines g.columns r) (n : ℕ) (d : Direction) → g ≡ done_lines g r d n (turned r d 0)
turned_none g h r fit n Up = none_above g h r fit n Up
turned_none g h r fit n Left = none_above g h r fit n Left
turned_none g h r fit n Down = none_below g h r fit n Down
turned_none g h r fit n Right = none_below g h r fit n Right

pub turned_all : (g : Grid) (h : Whole g) (r : Rectangle) (fit : Fit g.lines g.columns r) (n : ℕ) (d : Direction) (i : ℕ) → r.lines ≤ i → done_lines g r d n (turned r d i) ≡ shifted r d n g
turned_all g h r fit n Up i l = all_above g h r fit n Up i l
turned_all g h r fit n Left i l = all_above g h r fit n Left i l
turned_all g h r fit n Down i l = all_below g h r fit n Down i l
turned_all g h r fit n Right i l = all_below g h r fit n Right i l

pub turned_next : (g : Grid) (h : Whole g) (r : Rectangle) (fit : Fit g.lines g.columns r) (n : ℕ) (d : Direction) (i : ℕ) → i < r.lines →
    line_shifted r d n (turn r d i) (done_lines g r d n (turned r d i)) ≡ done_lines g r d n (turned r d (i + 1))
turned_next g h r fit n Up i l = next_above g h r fit n Up i refl
turned_next g h r fit n Left i l = next_above g h r fit n Left i refl
turned_next g h r fit n Down i l = next_below g h r fit n Down i refl l
turned_next g h r fit n Right i l = next_below g h r fit n Right i refl l

-- a shift by none leaves all as it is
pub shifted_none : (g : Grid) (r : Rectangle) (d : Direction) → Whole g → Fit g.lines g.columns r → g ≡ shifted r d 0 g
shifted_none g r d h fit =
    is_replaced (covers g.columns r) (incoming_at r d 0 g) g g.cells h.count (λ k low.
    ⊎_elim
    (λ t. sym (cond-true (covers g.columns r k) (incoming_at r d 0 g k) _ t ∙ stays d k low t))
    (λ f. sym (cond-false (covers g.columns r k) (incoming_at r d 0 g k) _ f))
    (cases_Bool (covers g.columns r k)))
  where
    itself : (k l c : ℕ) → l ≡ k / g.columns + 1 → c ≡ k % g.columns + 1 → covers g.columns r k ≡ true → from_source r g (l, c) ≡ get_or g.cells k erased
    itself k l c e f t =
        let a : (k / g.columns + 1) - 1 ≡ k / g.columns = omega arith in
        let b : (k % g.columns + 1) - 1 ≡ k % g.columns = omega arith in
        ap (λ z. from_source r g (z, c)) e ∙ ap (λ z. from_source r g (k / g.columns + 1, z)) f ∙ cond-true _ _ _ t
        ∙ ap (λ z. get_or g.cells (z * g.columns + ((k % g.columns + 1) - 1)) erased) a ∙ ap (λ z. get_or g.cells (k / g.columns * g.columns + z) erased) b
        ∙ ap (λ z. get_or g.cells z erased) (div-add-mod' k g.columns)

    stays : (d : Direction) (k : ℕ) → k < g.lines * g.columns → covers g.columns r k ≡ true → incoming_at r d 0 g k ≡ get_or g.cells k erased
    stays Up k low t = itself k _ _ (omega arith) refl t
    stays Down k low t = itself k _ _ (omega arith) refl t
    stays Left k low t = itself k _ _ refl (omega arith) t
    stays Right k low t = itself k _ _ refl (omega arith) t
