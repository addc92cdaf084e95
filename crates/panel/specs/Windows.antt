-- What a window shows of the panel below.
use Rattle.std.specs.Prelude.{◌≡◌, ℕ, ◌+◌, ◌-◌, ◌*◌, ◌/◌, ◌%◌, ◌≤◌, Bool, true, false, cond, ◌&&◌, List, map, Some, None, Option, nat_le, slice_index_or, refl}
use Rattle.std.proofs.Common.{arith}
use Rattle.std.specs.List.{range_with_len}
use Rattle.std.proofs.lemmas.List.FromFn.{length-map-range_with_len}
use Rattle.std.proofs.lemmas.Bool.{and_parts, leb-true}
use Rattle.panel.specs.declared.cell.Cell.{Cell}
use Rattle.panel.specs.declared.cell.Position.{Position}
use Rattle.panel.specs.declared.rectangle.Rectangle.{Rectangle}
use Rattle.panel.specs.Grids.{Grid, erased, index_in, replaced}
use Rattle.panel.specs.Screens.{Screen, Sound, around}
use Rattle.panel.specs.Copies.{part_within}
use Rattle.panel.specs.Rectangles.{part_of, inside, all_of, framed, covers}

-- where some cells of a line of the window begin below
abbrev pub part_beneath : Rectangle → Position → ℕ → Option Position
part_beneath r at count = cond (part_within r.lines r.columns at count) (Some (record { line = r.top + (at.line - 1); column = r.left + (at.column - 1) })) None

-- the index below, among so many columns, of the window's index k
abbrev pub under : ℕ → Rectangle → ℕ → ℕ
under columns r k = index_in columns (r.top + k / r.columns) (r.left + k % r.columns)

-- the cells at the indices u 0, u 1, .. u (n - 1)
abbrev pub seen : (ℕ → ℕ) → ℕ → List Cell → List Cell
seen u n xs = map (λ k. slice_index_or xs (u k) erased) (range_with_len 0 n)

-- the grid of which a rectangle is erased: its cells around the rectangle
abbrev pub masked : Rectangle → Grid → Grid
masked r g = replaced (covers g.columns r) (λ k. erased) g

-- a rectangle of a screen: its cells; beyond them lie the cells around it, and what lay beyond before
abbrev pub through : Rectangle → Screen → Screen
through r s = record {
  grid = record { lines = r.lines; columns = r.columns; cells = seen (under s.grid.columns r) (r.lines * r.columns) s.grid.cells };
  beyond = around r.top r.left (masked r s.grid) s.beyond;
}

-- a window
abbrev pub windowed : Screen → Rectangle → Screen
windowed s r = through (framed s.grid.lines s.grid.columns r) s

-- what it shows is sound
sound_if : (b : Bool) (s : Screen) (r : Rectangle) → Sound s → (b ≡ true → (r.lines ≤ s.grid.lines) × (r.columns ≤ s.grid.columns)) →
    Sound (through (cond b r (all_of s.grid.lines s.grid.columns)) s)
sound_if true s r h k = let i = k refl in record { count = length-map-range_with_len _ 0 _; tall = omega (arith, h.tall); wide = omega (arith, h.wide) }
sound_if false s r h k = record { count = length-map-range_with_len _ 0 _; tall = h.tall; wide = h.wide }

inside_small : (lines columns : ℕ) (r : Rectangle) → inside lines columns r ≡ true → (r.lines ≤ lines) × (r.columns ≤ columns)
inside_small lines columns r e =
    let a = and_parts (part_of lines r.top r.lines) (part_of columns r.left r.columns) e in
    let l = and_parts (nat_le 1 r.top) (nat_le 1 r.lines && nat_le (r.top + r.lines) (lines + 1)) a.0 in
    let c = and_parts (nat_le 1 r.left) (nat_le 1 r.columns && nat_le (r.left + r.columns) (columns + 1)) a.1 in
    let l1 : 1 ≤ r.top = leb-true _ _ l.0 in
    let l2 : r.top + r.lines ≤ lines + 1 = leb-true _ _ (and_parts (nat_le 1 r.lines) _ l.1).1 in
    let c1 : 1 ≤ r.left = leb-true _ _ c.0 in
    let c2 : r.left + r.columns ≤ columns + 1 = leb-true _ _ (and_parts (nat_le 1 r.columns) _ c.1).1 in
    (omega arith, omega arith)

pub windowed_sound : (s : Screen) (r : Rectangle) → Sound s → Sound (windowed s r)
windowed_sound s r h = sound_if (inside s.grid.lines s.grid.columns r) s r h (inside_small s.grid.lines s.grid.columns r)
