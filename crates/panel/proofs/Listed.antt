-- What a list panel shows after its memory has changed.
use Rattle.std.proofs.Common.{◌≡◌, ℕ, ◌+◌, ◌*◌, ◌<◌, ◌≤◌, List, length, get_or, take, drop, set, sym, ap, ◌∙◌, arith}
use Rattle.std.proofs.Math.Seq.{take-set-lt}
use Rattle.std.proofs.lemmas.Bool.{cond-true}
use Rattle.std.proofs.lemmas.List.{drop-set-lt, get_or-take}
use Rattle.refusal.specs.Table.{accepted}
use Rattle.panel.specs.declared.cell.Cell.{Cell}
use Rattle.panel.specs.Grids.{Grid, erased, cell_answer, wiped}
use Rattle.panel.specs.Screens.{Screen, cells_past, with_grid, set_on, erase_on}
use Rattle.panel.specs.Listed.{laid_out}
use Rattle.panel.proofs.Places.{At, Run}
use Rattle.panel.proofs.Wiped.{drop_wiped, take_wiped}

-- memory with room for the cells of so many lines and columns
module _ (loan l c : ℕ) (xs : List Cell) (room : l * c ≤ length xs) where
  abbrev s : Screen
  s = laid_out loan l c xs

  abbrev g : Grid
  g = (laid_out loan l c xs).grid

  pub list_index : (line column k : ℕ) → At g line column k → k < length xs
  list_index line column k h = omega (arith, h.low, room)

  pub list_room : (line column count k : ℕ) → Run g line column count k → k + count ≤ length xs
  list_room line column count k h = omega (arith, h.low, room)

  pub list_cell : (line column k : ℕ) → At g line column k → accepted (get_or xs k erased) ≡ cell_answer g line column
  list_cell line column k h =
      ap accepted (sym (get_or-take (l * c) xs k erased h.low) ∙ ap (λ i. get_or g.cells i erased) (sym h.is)) ∙ sym (cond-true _ _ _ h.test)

  -- other memory that agrees past the cells
  laid_again : (ys zs : List Cell) → take (l * c) ys ≡ zs → drop (l * c) ys ≡ drop (l * c) xs
      → laid_out loan l c ys ≡ record { grid = record { lines = l; columns = c; cells = zs }; beyond = s.beyond }
  laid_again ys zs cells past = λ i. record { grid = record { lines = l; columns = c; cells = cells i }; beyond = cells_past loan (past i) }

  pub list_set : (line column k : ℕ) (x : Cell) → At g line column k → laid_out loan l c (set xs k x) ≡ set_on s line column x
  list_set line column k x h =
      laid_again (set xs k x) _ (take-set-lt (l * c) xs k x h.low ∙ ap (λ i. set g.cells i x) (sym h.is)) (drop-set-lt (l * c) xs k x h.low)
      ∙ ap (with_grid s) (sym (cond-true _ _ _ h.test))

  pub list_wiped : (line column k count : ℕ) → Run g line column count k → laid_out loan l c (wiped xs k count) ≡ erase_on s line column count
  list_wiped line column k count h =
      laid_again (wiped xs k count) _ (take_wiped xs k count (l * c) h.low room ∙ ap (λ i. wiped g.cells i count) (sym h.is)) (drop_wiped xs k count (l * c) h.low room)
      ∙ ap (with_grid s) (sym (cond-true _ _ _ h.test))
