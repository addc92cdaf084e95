-- Positions in reading order: each is at the place of its cell, and the next one follows it.
use Rattle.std.proofs.Common.{◌≡◌, ℕ, suc, ◌+◌, ◌-◌, ◌*◌, ◌/◌, ◌%◌, ◌<◌, ◌≤◌, true, false, [], ◌∷◌, length, get_or, drop, sym, ap, ◌∙◌, ⊎_elim, add-one, arith}
use Rattle.std.proofs.Math.Seq.{drop-cons}
use Rattle.std.proofs.lemmas.Nat.{div-mul-add, mod-mul-add, div_below, mod_below, div-add-mod', mul-le}
use Rattle.std.proofs.lemmas.Bool.{cases_Bool, cases_lt, cond-true, cond-false}
use Rattle.std.proofs.lemmas.List.{drop_all, drop_more, length-drop}
use Rattle.std.proofs.lemmas.List.FromFn.{length-map-range_with_len, get_or-map-range_with_len}
use Rattle.panel.specs.declared.cell.Position.{Position}
use Rattle.panel.specs.declared.positions.Positions.{Positions}
use Rattle.panel.specs.declared.size.Size.{Size}
use Rattle.panel.specs.Grids.{within, index_in}
use Rattle.panel.specs.Reading.{position_at, positions_of, positions_from, positions_left}
use Rattle.panel.proofs.Places.{Within, within_true, true_within, index_lt, columns_some}

pub length_positions : (z : Size) → length (positions_of z) ≡ z.lines * z.columns
length_positions z = length-map-range_with_len (position_at z.columns) 0 (z.lines * z.columns)

-- the k-th position is that of the k-th cell: it is within the size, and its index is k
pub position_of : (z : Size) (k : ℕ) (d : Position) → k < z.lines * z.columns → get_or (positions_of z) k d ≡ position_at z.columns k
position_of z k d l = get_or-map-range_with_len (position_at z.columns) 0 (z.lines * z.columns) k k d l (omega arith)

pub position_within : (z : Size) (k : ℕ) → k < z.lines * z.columns → Within z.lines z.columns (k / z.columns + 1) (k % z.columns + 1)
position_within z k l =
    let p = columns_some z.lines z.columns k l in
    let a = div_below k z.columns z.lines p l in
    let b = mod_below k z.columns p in
    record { line_low = omega arith; line_high = omega arith; column_low = omega arith; column_high = omega arith }

pub index_position : (columns k : ℕ) → index_in columns (position_at columns k).line (position_at columns k).column ≡ k
index_position columns k =
    let a : (k / columns + 1) - 1 ≡ k / columns = omega arith in
    let b : (k % columns + 1) - 1 ≡ k % columns = omega arith in
    ap (λ z. z * columns + ((k % columns + 1) - 1)) a ∙ ap (λ z. k / columns * columns + z) b ∙ div-add-mod' k columns

-- and a position within the size is that of its index
position_index : (z : Size) (at : Position) → Within z.lines z.columns at.line at.column → position_at z.columns (index_in z.columns at.line at.column) ≡ at
position_index z at w =
    let a = w.line_low in
    let b = w.column_low in
    let c = w.column_high in
    let d : index_in z.columns at.line at.column / z.columns + 1 ≡ at.line = omega (arith, div-mul-add (at.line - 1) z.columns (at.column - 1) (omega arith)) in
    let m : index_in z.columns at.line at.column % z.columns + 1 ≡ at.column = omega (arith, mod-mul-add (at.line - 1) z.columns (at.column - 1) (omega arith)) in
    ap (λ i. record { line = i; column = index_in z.columns at.line at.column % z.columns + 1 }) d ∙ ap (λ i. record { line = at.line; column = i }) m

-- it comes first of those from it on
pub from_first : (z : Size) (at : Position) → within z.lines z.columns at.line at.column ≡ true →
    positions_from z at ≡ at ∷ drop (index_in z.columns at.line at.column + 1) (positions_of z)
from_first z at t =
    let w = within_true z.lines z.columns at.line at.column t in
    let k = index_in z.columns at.line at.column in
    let l = index_lt z.lines z.columns at.line at.column w in
    cond-true _ _ _ t ∙ drop-cons (positions_of z) k at (omega (arith, length_positions z))
    ∙ ap (λ p. p ∷ drop (suc k) (positions_of z)) (position_of z k at l ∙ position_index z at w)
    ∙ ap (λ n. at ∷ drop n (positions_of z)) (sym (add-one k))

-- those from a position on, by its index
pub from_index : (z : Size) (next : Position) (k : ℕ) → Within z.lines z.columns next.line next.column → index_in z.columns next.line next.column ≡ k → drop k (positions_of z) ≡ positions_from z next
from_index z next k w e = sym (cond-true _ _ _ (true_within _ _ _ _ w) ∙ ap (λ i. drop i (positions_of z)) e)

-- a line that is none of the size's
no_line : (z : Size) (line : ℕ) → (1 ≤ line → line ≤ z.lines → ⊥) → within z.lines z.columns line 1 ≡ false
no_line z line none =
    ⊎_elim (λ t. let w = within_true z.lines z.columns line 1 t in absurd (none w.line_low w.line_high)) (λ f. f) (cases_Bool (within z.lines z.columns line 1))

-- the next one stands to the right
pub next_right : (z : Size) (at : Position) → within z.lines z.columns at.line at.column ≡ true → at.column < z.columns →
    positions_from z at ≡ at ∷ positions_from z (record { line = at.line; column = at.column + 1 })
next_right z at t low =
    let w = within_true z.lines z.columns at.line at.column t in
    let a = w.column_low in
    from_first z at t ∙ ap (λ ps. at ∷ ps)
    (from_index z (record { line = at.line; column = at.column + 1 }) _ (record { line_low = w.line_low; line_high = w.line_high; column_low = omega arith; column_high = omega arith }) (omega arith))

-- or first in the next line, or there is none
pub next_below : (z : Size) (at : Position) → within z.lines z.columns at.line at.column ≡ true → z.columns ≤ at.column → z.lines < 65536 →
    positions_from z at ≡ at ∷ positions_from z (record { line = (at.line + 1) % 65536; column = 1 })
next_below z at t past fits =
    let w = within_true z.lines z.columns at.line at.column t in
    let a = w.line_low in
    let b = w.line_high in
    let c = w.column_low in
    let d = w.column_high in
    let k = index_in z.columns at.line at.column in
    from_first z at t ∙ ap (λ ps. at ∷ ps)
    (⊎_elim
    (λ low. let v : (at.line + 1) - 1 ≡ (at.line - 1) + 1 = omega arith in
    let m : (at.line + 1) % 65536 ≡ at.line + 1 = omega arith in
    from_index z (record { line = at.line + 1; column = 1 }) (k + 1) (record { line_low = omega arith; line_high = omega arith; column_low = omega arith; column_high = omega arith }) (ap (λ i. i * z.columns + 0) v ∙ omega arith)
    ∙ ap (λ i. positions_from z (record { line = i; column = 1 })) (sym m))
    (λ high. let e : z.lines * z.columns ≤ ((at.line - 1) + 1) * z.columns = mul-le z.lines z.columns ((at.line - 1) + 1) z.columns (omega arith) (omega arith) in
    drop_all (k + 1) (positions_of z) (omega (arith, length_positions z))
    ∙ sym (cond-false _ _ _ (no_line z ((at.line + 1) % 65536) (λ x y. omega arith))))
    (cases_lt at.line z.lines))

-- a walk over the positions of a size, where k of them came
module _ (z : Size) (left : Positions) (k : ℕ) (reached : positions_left left ≡ drop k (positions_of z)) where
  -- the one that comes is that of the k-th cell, and the others are left
  pub comes_next : (at : Position) (after : Positions) → positions_left left ≡ at ∷ positions_left after
      → (k < z.lines * z.columns) × (at ≡ position_at z.columns k) × (positions_left after ≡ drop (k + 1) (positions_of z))
  comes_next at after e =
      let cut : drop k (positions_of z) ≡ at ∷ positions_left after = sym reached ∙ e in
      let long : length (drop k (positions_of z)) ≡ length (at ∷ positions_left after) = ap length cut in
      let low : k < z.lines * z.columns = omega (arith, length-drop k (positions_of z), length_positions z, long) in
      let whole = sym cut ∙ drop_more (positions_of z) k at (omega (arith, low, length_positions z)) in
      (low, ap (λ l. get_or l 0 at) whole ∙ position_of z k at low, ap (drop 1) whole)

  -- at the end all cells came
  pub none_next : positions_left left ≡ [] → z.lines * z.columns ≤ k
  none_next e =
      let none : length (drop k (positions_of z)) ≡ 0 = ap length (sym reached ∙ e) in
      omega (arith, length-drop k (positions_of z), length_positions z, none)
