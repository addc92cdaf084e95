-- A window, with what lies beyond it, tells all of the panel below; and so does a panel on loan.
use Rattle.std.proofs.Common.{◌≡◌, ℕ, ◌+◌, ◌-◌, ◌*◌, ◌/◌, ◌%◌, ◌<◌, ◌≤◌, true, List, get_or, sym, ap, ◌∙◌, ⊎_elim, arith}
use Rattle.std.proofs.lemmas.Nat.{div-mul-add, mod-mul-add, div-add-mod', mul-add-lt}
use Rattle.std.proofs.lemmas.Bool.{cases_Bool}
use Rattle.std.proofs.lemmas.List.{ext_get_or}
use Rattle.panel.specs.declared.cell.Cell.{Cell}
use Rattle.panel.specs.declared.rectangle.Rectangle.{Rectangle}
use Rattle.panel.specs.Grids.{Grid, Whole, erased, index_in, with_cells}
use Rattle.panel.specs.Screens.{Screen, Sound, Beyond, nothing, cells_past, bytes_past, around, lent, with_grid}
use Rattle.panel.specs.Rectangles.{Fit, framed, covers}
use Rattle.panel.specs.Windows.{under, seen, masked, windowed}
use Rattle.panel.specs.Lendings.{on_loan}
use Rattle.panel.proofs.Seen.{get_or_seen}
use Rattle.panel.proofs.Replaced.{replaced_out}
use Rattle.panel.proofs.Framed.{framed_fit}
use Rattle.panel.proofs.Shifted.{in_true}
use Rattle.panel.proofs.Lenders.{loan_of}

-- a cell that the window covers is one of the window's cells
pub covered : (columns : ℕ) (f : Rectangle) (k : ℕ) → 1 ≤ f.top → 1 ≤ f.left → covers columns f k ≡ true → (i : ℕ) × (i < f.lines * f.columns) × (under columns f i ≡ k)
covered columns f k one two e =
    let q = in_true f (k / columns + 1) (k % columns + 1) e in
    let t = q.top in
    let u = q.bottom in
    let v = q.left in
    let z = q.right in
    let a = (k / columns + 1) - f.top in
    let b = (k % columns + 1) - f.left in
    let m : b < f.columns = omega arith in
    let d = div-mul-add a f.columns b m in
    let n = mod-mul-add a f.columns b m in
    let x : (f.top + a) - 1 ≡ k / columns = omega arith in
    let y : (f.left + b) - 1 ≡ k % columns = omega arith in (
      a * f.columns + b,
      omega (arith, mul-add-lt a f.columns b f.lines (omega arith) m),
      ap (λ w. index_in columns (f.top + w) (f.left + (a * f.columns + b) % f.columns)) d ∙ ap (λ w. index_in columns (f.top + a) (f.left + w)) n
          ∙ ap (λ w. w * columns + ((f.left + b) - 1)) x ∙ ap (λ w. k / columns * columns + w) y ∙ div-add-mod' k columns,
    )

module _ (g : Grid) (xs ys : List Cell) (wx : Whole (with_cells g xs)) (wy : Whole (with_cells g ys)) (f : Rectangle) (fit : Fit g.lines g.columns f) where
  abbrev u : ℕ → ℕ
  u = under g.columns f

  abbrev n : ℕ
  n = f.lines * f.columns

  same_below : seen u n xs ≡ seen u n ys → masked f (with_cells g xs) ≡ masked f (with_cells g ys) → xs ≡ ys
  same_below inner outer =
      let lx = wx.count in
      let ly = wy.count in
      let c = covers g.columns f in
      ext_get_or erased xs ys (lx ∙ sym ly) (λ k b.
      ⊎_elim
      (λ t. let o = covered g.columns f k fit.top_low fit.left_low t in
      ap (λ z. get_or xs z erased) (sym o.2) ∙ sym (get_or_seen u n xs o.0 o.1) ∙ ap (λ zs. get_or zs o.0 erased) inner ∙ get_or_seen u n ys o.0 o.1 ∙ ap (λ z. get_or ys z erased) o.2)
      (λ e. sym (replaced_out c (λ j. erased) (with_cells g xs) k wx e) ∙ ap (λ z. get_or z.cells k erased) outer ∙ replaced_out c (λ j. erased) (with_cells g ys) k wy e)
      (cases_Bool (c k)))

abbrev screen : Grid → List Cell → Beyond → Screen
screen g xs b = record { grid = with_cells g xs; beyond = b }

-- two panels of one size that look alike through a window, and beyond it, are alike
pub window_tells : (g : Grid) (xs ys : List Cell) (b d : Beyond) (r : Rectangle) → Sound (screen g xs b) → Sound (screen g ys d) → windowed (screen g xs b) r ≡ windowed (screen g ys d) r → screen g xs b ≡ screen g ys d
window_tells g xs ys b d r wx wy e =
    let f = framed g.lines g.columns r in
    let fit = framed_fit g.lines g.columns r in
    let p : around f.top f.left (masked f (with_cells g xs)) b ≡ around f.top f.left (masked f (with_cells g ys)) d = ap (λ z. z.beyond) e in
    let outer : masked f (with_cells g xs) ≡ masked f (with_cells g ys) = cc in
    let q : b ≡ d = cc in
    ap (λ zs. screen g zs b) (same_below g xs ys wx wy f fit (ap (λ z. z.grid.cells) e) outer) ∙ ap (screen g ys) q

-- what was lent, without the loan
abbrev unlent : Beyond → Beyond
unlent nothing = nothing
unlent (cells_past loan xs) = cells_past loan xs
unlent (bytes_past loan xs) = bytes_past loan xs
unlent (around top left g b) = around top left g b
unlent (lent loan b) = b

-- a lent panel of which the grid changed: the loan is the same, and so is what its owner sees but for the grid
pub lent_tells : (n m : ℕ) (s t : Screen) (g : Grid) → on_loan n t ≡ with_grid (on_loan m s) g → (n ≡ m) × (t ≡ with_grid s g)
lent_tells n m s t g e = (ap (λ z. loan_of z.beyond) e, ap (λ z. record { grid = z.grid; beyond = unlent z.beyond }) e)
