-- A walk over the positions of a grid: each is that of the next cell in reading order.
use Rattle.std.proofs.Common.{◌≡◌, ◌+◌, ◌<◌, ◌≤◌, ℕ, true, List, [], ◌∷◌, ◌++◌, length, get_or, drop, sym, ap, ◌∙◌, subst, arith, length-append}
use Rattle.panel.specs.declared.cell.Position.{Position}
use Rattle.panel.specs.declared.positions.Positions.{Positions}
use Rattle.panel.specs.Grids.{Grid, Whole, erased, size_of, on, index_in, cell_at}
use Rattle.panel.specs.Reading.{positions_left, positions_of}
use Rattle.panel.proofs.Places.{true_within}
use Rattle.panel.proofs.Reading.{index_position, position_within, comes_next, none_next}
use Rattle.picture.specs.Pens.{position_of}

-- the position of the k-th cell came, and those of the others are left
pub record Came (g : Grid) (k : ℕ) (at : Position) (after : Positions) : Type 0 where
  pub low : k < length g.cells
  pub is : at ≡ position_of g k
  pub lies : on g at.line at.column ≡ true
  pub cell : cell_at g at.line at.column ≡ get_or g.cells k erased
  pub left : positions_left after ≡ drop (k + 1) (positions_of (size_of g))

module _ (g : Grid) (w : Whole g) (left : Positions) (k : ℕ) (reached : positions_left left ≡ drop k (positions_of (size_of g))) where
  pub came : (at : Position) (after : Positions) → positions_left left ≡ at ∷ positions_left after → Came g k at after
  came at after e =
      let n = comes_next (size_of g) left k reached at after e in
      record {
        low = omega (arith, n.0, w.count);
        is = n.1;
        lies = subst (λ p. on g p.line p.column ≡ true) (sym n.1) (true_within _ _ _ _ (position_within (size_of g) k n.0));
        cell = ap (λ p. get_or g.cells (index_in g.columns p.line p.column) erased) n.1 ∙ ap (λ i. get_or g.cells i erased) (index_position g.columns k);
        left = n.2;
      }

  pub all_came : positions_left left ≡ [] → length g.cells ≤ k
  all_came e = omega (arith, none_next (size_of g) left k reached e, w.count)

-- one more
pub one_more : (ps : List Position) (at : Position) → length (ps ++ at ∷ []) ≡ length ps + 1
one_more ps at = length-append ps (at ∷ [])
