-- What a column panel shows after its memory has changed.
use Rattle.std.proofs.Common.{◌≡◌, ℕ, ◌+◌, ◌*◌, ◌/◌, ◌%◌, ◌<◌, ◌≤◌, List, length, get_or, set, sym, ap, ◌∙◌, arith}
use Rattle.std.proofs.lemmas.Nat.{div-mul-add, mod-mul-add, div_below, mod_below, div-add-mod', mul-add-lt}
use Rattle.std.proofs.lemmas.List.{drop-set-lt}
use Rattle.panel.specs.declared.cell.Cell.{Cell}
use Rattle.panel.specs.Grids.{erased}
use Rattle.panel.specs.Screens.{cells_past, put_on}
use Rattle.panel.proofs.Places.{columns_some}
use Rattle.panel.proofs.Seen.{get_or_seen, seen_set}
use Rattle.column_panel.specs.Columned.{stored_at, laid_in_columns}

-- every cell is stored in the part of the memory that is the panel's (the lemma of this name in `panel` is of another layout)
pub stored_lt : (l c k : ℕ) → k < l * c → stored_at l c k < l * c
stored_lt l c k h =
    let p = columns_some l c k h in
    mul-add-lt (k % c) l (k / c) c (mod_below k c p) (div_below k c l p h)

-- and no two at one place
stored_apart : (l c i k : ℕ) → i < l * c → k < l * c → stored_at l c k ≡ stored_at l c i → k ≡ i
stored_apart l c i k hi hk e =
    let p = columns_some l c k hk in
    let a = div_below k c l p hk in
    let b = div_below i c l p hi in
    let column : k % c ≡ i % c = sym (div-mul-add (k % c) l (k / c) a) ∙ ap (λ z. z / l) e ∙ div-mul-add (i % c) l (i / c) b in
    let line : k / c ≡ i / c = sym (mod-mul-add (k % c) l (k / c) a) ∙ ap (λ z. z % l) e ∙ mod-mul-add (i % c) l (i / c) b in
    sym (div-add-mod' k c) ∙ ap (λ z. z * c + k % c) line ∙ ap (λ z. i / c * c + z) column ∙ div-add-mod' i c

-- memory with room for the cells of so many lines and columns, and the index of one of them
module _ (loan l c : ℕ) (xs : List Cell) (k : ℕ) (low : k < l * c) where
  pub column_room : l * c ≤ length xs → stored_at l c k < length xs
  column_room room = let s = stored_lt l c k low in omega arith

  pub column_cell : get_or xs (stored_at l c k) erased ≡ get_or (laid_in_columns loan l c xs).grid.cells k erased
  column_cell = sym (get_or_seen (stored_at l c) (l * c) xs k low)

  pub column_put : l * c ≤ length xs → (x : Cell) → laid_in_columns loan l c (set xs (stored_at l c k) x) ≡ put_on (laid_in_columns loan l c xs) k x
  column_put room x =
      let u = stored_at l c in
      let cells = seen_set u (l * c) xs k x low (column_room room) (stored_apart l c) in
      let past = drop-set-lt (l * c) xs (u k) x (stored_lt l c k low) in
      λ i. record { grid = record { lines = l; columns = c; cells = cells i }; beyond = cells_past loan (past i) }
