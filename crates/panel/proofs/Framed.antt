-- The cells below a window.
use Rattle.std.proofs.Common.{◌≡◌, ℕ, ◌+◌, ◌-◌, ◌*◌, ◌/◌, ◌%◌, ◌<◌, ◌≤◌, Bool, true, false, cond, sym, refl, ap, ◌∙◌, arith}
use Rattle.std.proofs.lemmas.Nat.{div-mul-add, mod-mul-add, div_below, mod_below, div-add-mod', mul-add-lt}
use Rattle.std.proofs.lemmas.Bool.{and_from, and_parts, le-leb, leb-true, lt-ltb}
use Rattle.panel.specs.declared.rectangle.Rectangle.{Rectangle}
use Rattle.panel.specs.Grids.{index_in}
use Rattle.panel.specs.Rectangles.{Fit, inside, part_of, all_of, framed, covers}
use Rattle.panel.specs.Windows.{under}
use Rattle.panel.proofs.Places.{Within, columns_some}

-- a rectangle that is inside fits, and so does all of the grid
fit_if : (b : Bool) (lines columns : ℕ) (f : Rectangle) → (b ≡ true → Fit lines columns f) → Fit lines columns (cond b f (all_of lines columns))
fit_if true lines columns f h = h refl
fit_if false lines columns f h = record { top_low = omega arith; left_low = omega arith; line_end = omega arith; column_end = omega arith }

pub inside_fit : (lines columns : ℕ) (f : Rectangle) → inside lines columns f ≡ true → Fit lines columns f
inside_fit lines columns f e =
    let a = and_parts (part_of lines f.top f.lines) (part_of columns f.left f.columns) e in
    let l = and_parts _ _ a.0 in
    let c = and_parts _ _ a.1 in
    record { top_low = leb-true _ _ l.0; left_low = leb-true _ _ c.0; line_end = leb-true _ _ (and_parts _ _ l.1).1; column_end = leb-true _ _ (and_parts _ _ c.1).1 }

pub framed_fit : (lines columns : ℕ) (f : Rectangle) → Fit lines columns (framed lines columns f)
framed_fit lines columns f = fit_if (inside lines columns f) lines columns f (inside_fit lines columns f)

-- a cell of a rectangle, by its index
pub record Pos (f : Rectangle) (k : ℕ) : Type 0 where
  pub line : k / f.columns < f.lines
  pub column : k % f.columns < f.columns

pub pos : (f : Rectangle) (k : ℕ) → k < f.lines * f.columns → Pos f k
pos f k h = let p = columns_some f.lines f.columns k h in record { line = div_below k f.columns f.lines p h; column = mod_below k f.columns p }

module _ (lines columns : ℕ) (f : Rectangle) (fit : Fit lines columns f) where
  pub under_at : (line column : ℕ) → Within f.lines f.columns line column →
      under columns f (index_in f.columns line column) ≡ index_in columns (f.top + (line - 1)) (f.left + (column - 1))
  under_at line column w =
      let d = div-mul-add (line - 1) f.columns (column - 1) (omega arith) in
      let m = mod-mul-add (line - 1) f.columns (column - 1) (omega arith) in
      ap (λ a. index_in columns (f.top + a) (f.left + index_in f.columns line column % f.columns)) d ∙ ap (λ b. index_in columns (f.top + (line - 1)) (f.left + b)) m

  pub within_below : (line column : ℕ) → Within f.lines f.columns line column → Within lines columns (f.top + (line - 1)) (f.left + (column - 1))
  within_below line column w = record { line_low = omega arith; line_high = omega arith; column_low = omega arith; column_high = omega arith }

  under_div : (k : ℕ) → k < f.lines * f.columns → under columns f k / columns ≡ (f.top + k / f.columns) - 1
  under_div k h = let p = pos f k h in div-mul-add _ columns _ (omega arith)

  under_mod : (k : ℕ) → k < f.lines * f.columns → under columns f k % columns ≡ (f.left + k % f.columns) - 1
  under_mod k h = let p = pos f k h in mod-mul-add ((f.top + k / f.columns) - 1) columns _ (omega arith)

  pub under_lt : (k : ℕ) → k < f.lines * f.columns → under columns f k < lines * columns
  under_lt k h = let p = pos f k h in omega (arith, mul-add-lt ((f.top + k / f.columns) - 1) columns ((f.left + k % f.columns) - 1) lines (omega arith) (omega arith))

  pub under_inj : (i k : ℕ) → i < f.lines * f.columns → k < f.lines * f.columns → under columns f k ≡ under columns f i → k ≡ i
  under_inj i k hi hk e =
      let d : (f.top + k / f.columns) - 1 ≡ (f.top + i / f.columns) - 1 = sym (under_div k hk) ∙ ap (λ z. z / columns) e ∙ under_div i hi in
      let m : (f.left + k % f.columns) - 1 ≡ (f.left + i % f.columns) - 1 = sym (under_mod k hk) ∙ ap (λ z. z % columns) e ∙ under_mod i hi in
      let d2 : k / f.columns ≡ i / f.columns = omega arith in
      let m2 : k % f.columns ≡ i % f.columns = omega arith in
      sym (div-add-mod' k f.columns) ∙ ap (λ z. z * f.columns + k % f.columns) d2 ∙ ap (λ z. i / f.columns * f.columns + z) m2 ∙ div-add-mod' i f.columns

  pub covers_under : (k : ℕ) → k < f.lines * f.columns → covers columns f (under columns f k) ≡ true
  covers_under k h =
      let p = pos f k h in
      let d = under_div k h in
      let m = under_mod k h in
      let a1 : f.top ≤ under columns f k / columns + 1 = omega arith in
      let a2 : under columns f k / columns + 1 < f.top + f.lines = omega arith in
      let a3 : f.left ≤ under columns f k % columns + 1 = omega arith in
      let a4 : under columns f k % columns + 1 < f.left + f.columns = omega arith in
      and_from _ _ (and_from _ _ (le-leb _ _ a1) (lt-ltb _ _ a2)) (and_from _ _ (le-leb _ _ a3) (lt-ltb _ _ a4))

  -- along a line of the window
  pub under_run : (i m : ℕ) → i % f.columns + m ≤ f.columns → i < f.lines * f.columns → (t : ℕ) → t < m → under columns f (i + t) ≡ under columns f i + t
  under_run i m b h t l =
      let p = pos f i h in
      let e : i / f.columns * f.columns + (i % f.columns + t) ≡ i + t = omega (arith, div-add-mod' i f.columns) in
      let d : (i + t) / f.columns ≡ i / f.columns = ap (λ z. z / f.columns) (sym e) ∙ div-mul-add (i / f.columns) f.columns (i % f.columns + t) (omega arith) in
      let r : (i + t) % f.columns ≡ i % f.columns + t = ap (λ z. z % f.columns) (sym e) ∙ mod-mul-add (i / f.columns) f.columns (i % f.columns + t) (omega arith) in
      ap (λ z. index_in columns (f.top + z) (f.left + (i + t) % f.columns)) d ∙ ap (λ z. index_in columns (f.top + i / f.columns) (f.left + z)) r ∙ omega arith
