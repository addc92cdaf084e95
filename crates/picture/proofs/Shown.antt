-- Cells, one after the other.
use Rattle.std.proofs.Common.{◌≡◌, ℕ, ◌+◌, ◌/◌, ◌%◌, ◌<◌, ◌≤◌, Bool, true, false, cond, not, ◌||◌, eqb, List, [], ◌∷◌, ◌++◌, length, get_or, drop, sym, refl, ap, ◌∙◌, subst, ⊎_elim, arith}
use Rattle.std.proofs.lemmas.List.{append_assoc, drop_more, drop_all}
use Rattle.std.proofs.lemmas.Bool.{cases_eq, eq-eqb, ne_eqb}
use Rattle.reader.specs.Functions.{Function, graphic}
use Rattle.control.specs.Renditions.{rendition_of}
use Rattle.panel.specs.declared.cell.Cell.{Cell}
use Rattle.panel.specs.Grids.{Grid, erased}
use Rattle.picture.specs.declared.cells.Pen.{Pen}
use Rattle.panel.specs.declared.cell.Position.{Position}
use Rattle.picture.specs.Tape.{Tape}
use Rattle.picture.specs.Draws.{Draws, Leaves}
use Rattle.picture.specs.Pictures.{when, cup, sgr, is_erased, cells_from}
use Rattle.picture.specs.Pens.{position_of, cell_functions, pen_after}
use Rattle.picture.proofs.Draws.{draws_as, leaves_on}

first_column : (m : ℕ) → eqb m 0 ≡ eqb (m + 1) 1
first_column m = ⊎_elim (λ e. eq-eqb m 0 e ∙ sym (eq-eqb (m + 1) 1 (omega arith))) (λ ne. ne_eqb m 0 ne ∙ sym (ne_eqb (m + 1) 1 (λ e. ne (omega arith)))) (cases_eq m 0)

-- the cells from an index on, by a pen
abbrev pub rest_of : ℕ → ℕ → Pen → List Cell → List Function
rest_of w k p xs = cells_from w k p.gap p.rendition xs

chosen : (b : Bool) (w k : ℕ) (p q : Pen) (fs : List Function) (xs : List Cell) → cond b (rest_of w k p xs) (fs ++ rest_of w k q xs) ≡ cond b [] fs ++ rest_of w k (cond b p q) xs
chosen true w k p q fs xs = refl
chosen false w k p q fs xs = refl

one_cell : (w k : ℕ) (p : Pen) (x : Cell) (xs : List Cell)
    → rest_of w k p (x ∷ xs) ≡ cell_functions p x (k / w + 1) (k % w + 1) ++ rest_of w (k + 1) (pen_after p x) xs
unfolding cells_from
one_cell w k p x xs =
    let a = when (p.gap || eqb (k % w) 0) (cup (k / w + 1) (k % w + 1)) in
    let b = when (not (eqb x.rendition p.rendition)) (sgr (rendition_of x.rendition)) in
    let q : Pen = record { gap = true; rendition = p.rendition } in
    let r : Pen = record { gap = false; rendition = x.rendition } in
    ap (λ fs. cond (is_erased x) (rest_of w (k + 1) q xs) fs) (sym (append_assoc a (b ++ (graphic x.code ∷ [])) (rest_of w (k + 1) r xs) ∙ ap (λ fs. a ++ fs) (append_assoc b (graphic x.code ∷ []) (rest_of w (k + 1) r xs))))
    ∙ chosen (is_erased x) w (k + 1) q r (a ++ (b ++ (graphic x.code ∷ []))) xs
    ∙ ap (λ t. cond (is_erased x) [] (when (p.gap || t) (cup (k / w + 1) (k % w + 1)) ++ (b ++ (graphic x.code ∷ []))) ++ rest_of w (k + 1) (pen_after p x) xs) (first_column (k % w))

cells_more : (w k : ℕ) (p : Pen) (xs : List Cell) → k < length xs
    → rest_of w k p (drop k xs) ≡ cell_functions p (get_or xs k erased) (k / w + 1) (k % w + 1) ++ rest_of w (k + 1) (pen_after p (get_or xs k erased)) (drop (k + 1) xs)
cells_more w k p xs h = ap (rest_of w k p) (drop_more xs k erased h) ∙ one_cell w k p (get_or xs k erased) (drop (k + 1) xs)

pub cells_all : (w k : ℕ) (p : Pen) (xs : List Cell) → length xs ≤ k → rest_of w k p (drop k xs) ≡ []
unfolding cells_from
cells_all w k p xs h = ap (rest_of w k p) (drop_all k xs h)

-- the turn of a loop at index k
pub cells_turn : (g : Grid) (k : ℕ) (p q : Pen) (x : Cell) (o : Position) {t u v : Tape} {all : List Function}
    → k < length g.cells → x ≡ get_or g.cells k erased → o ≡ position_of g k → q ≡ pen_after p x
    → Leaves u (rest_of g.columns k p (drop k g.cells)) t all → Draws u (cell_functions p x o.line o.column) v
    → Leaves v (rest_of g.columns (k + 1) q (drop (k + 1) g.cells)) t all
cells_turn g k p q x o {t} {u} {v} {all} h ex eo eq l d =
    let y = get_or g.cells k erased in
    let r : q ≡ pen_after p y = eq ∙ ap (pen_after p) ex in
    let m = leaves_on l (cells_more g.columns k p g.cells h) (draws_as d (ap (λ z. cell_functions p z o.line o.column) ex ∙ ap (λ z. cell_functions p y z.line z.column) eo)) in
    subst (λ z. Leaves v (rest_of g.columns (k + 1) z (drop (k + 1) g.cells)) t all) (sym r) m
