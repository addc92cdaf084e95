-- Sizes of panels on lent memory, and the room that they need.
use Rattle.std.specs.Prelude.{◌≡◌, ℕ, ◌*◌, ◌^◌, ◌<◌, ◌≤◌, Bool, true, ◌&&◌, nat_le, nat_lt}
use Rattle.std.proofs.lemmas.Bool.{and_parts, leb-true, ltb-true}
use Rattle.panel.specs.declared.size.Size.{Size}
use Rattle.panel.specs.Grids.{within}

-- whether a panel can be made: 1 to 64 lines by 1 to 132 columns, and room for all the cells
abbrev pub fitting : ℕ → ℕ → ℕ → Bool
fitting lines columns room = within 64 132 lines columns && nat_le (lines * columns) room

-- whether a panel of a size, its numbers of 16 bits, has room for all its cells
abbrev pub roomy : Size → ℕ → Bool
roomy z room = (nat_lt z.lines 65536 && nat_lt z.columns 65536) && nat_le (z.lines * z.columns) room

-- the same as facts
pub record Roomy (lines columns room : ℕ) : Type 0 where
  pub tall : lines < 2 ^ 16
  pub wide : columns < 2 ^ 16
  pub fits : lines * columns ≤ room

pub roomy_true : (z : Size) (n : ℕ) → roomy z n ≡ true → Roomy z.lines z.columns n
roomy_true z n e =
    let a = and_parts (nat_lt z.lines 65536 && nat_lt z.columns 65536) _ e in
    let b = and_parts (nat_lt z.lines 65536) _ a.0 in
    record { tall = ltb-true _ _ b.0; wide = ltb-true _ _ b.1; fits = leb-true _ _ a.1 }
