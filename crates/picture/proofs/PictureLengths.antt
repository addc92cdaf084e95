-- A picture's length fits a number, and so does a reply's.
use Rattle.std.proofs.Common.{◌≡◌, ℕ, ◌+◌, ◌*◌, ◌/◌, ◌%◌, ◌^◌, ◌<◌, ◌≤◌, Bool, true, false, not, ◌||◌, eqb, List, [], ◌∷◌, ◌++◌, map, length, Some, refl, ap, ◌∙◌, mul-le-mul, arith}
use Rattle.std.proofs.lemmas.List.{length-append, length-map, length-take}
use Rattle.std.proofs.lemmas.Bool.{cond_both, and_parts, eqb-true}
use Rattle.panel.specs.declared.cell.Cell.{Cell}
use Rattle.panel.specs.Grids.{Grid, Whole}
use Rattle.reader.specs.Functions.{Function, graphic, control, reset}
use Rattle.control.specs.declared.rendition.Rendition.{Rendition}
use Rattle.control.specs.declared.function.Report.{Report}
use Rattle.control.specs.declared.function.Report.TheVariants.{Status, Position}
use Rattle.control.specs.Renditions.{rendition_of}
use Rattle.page.specs.declared.view.View.{View}
use Rattle.page.specs.Sheets.{State, Sheet}
use Rattle.picture.specs.Writing.{written, all_written}
use Rattle.picture.specs.Renditions.{parameters_of}
use Rattle.picture.specs.Pictures.{numbered, cup, sgr, when, is_erased, cells_from, stops_from, column_stop, line_stop, stops_drawn, ending, drawing, picture_bytes}
use Rattle.picture.specs.Views.{sheet_seen, is_of_size, report_bytes}
use Rattle.picture.proofs.Sgr.{few_parameters}
use Rattle.picture.proofs.Lengths.{sequence_length}
use Rattle.picture.proofs.Draws.{all_written_append}

numbered_length : (ns : List ℕ) (f : ℕ) → length (written (numbered ns f)) ≤ 5 * length ns + 4
numbered_length ns f = let a = sequence_length (map Some ns) false f in let m : length (map Some ns) ≡ length ns = length-map ns Some in omega arith

one_length : (f : Function) → length (all_written (f ∷ [])) ≡ length (written f)
unfolding all_written
one_length f = length-append (written f) [] ∙ (let e : length (written f) + 0 ≡ length (written f) = omega arith in e)

both_length : (fs gs : List Function) → length (all_written (fs ++ gs)) ≡ length (all_written fs) + length (all_written gs)
both_length fs gs = ap length (all_written_append fs gs) ∙ length-append (all_written fs) (all_written gs)

when_length : (b : Bool) (f : Function) → length (all_written (when b f)) ≤ length (written f)
unfolding all_written
when_length true f = let e = one_length f in omega arith
when_length false f = omega arith

sgr_length : (r : Rendition) → length (written (sgr r)) ≤ 84
sgr_length r = let a = numbered_length (parameters_of r) 0x6D in let b = few_parameters r in omega arith

cup_length : (l c : ℕ) → length (written (cup l c)) ≤ 14
cup_length l c = let a = numbered_length (l ∷ c ∷ []) 0x48 in omega arith

graphic_length : (c : ℕ) → length (written (graphic c)) ≡ 1
unfolding written
graphic_length c = refl

cells_length : (w k : ℕ) (gap : Bool) (r : ℕ) (xs : List Cell) → length (all_written (cells_from w k gap r xs)) ≤ 99 * length xs
unfolding cells_from all_written
cells_length w k gap r [] = omega arith
cells_length w k gap r (x ∷ xs) =
    let a = when (gap || eqb (k % w) 0) (cup (k / w + 1) (k % w + 1)) in
    let b = when (not (eqb x.rendition r)) (sgr (rendition_of x.rendition)) in
    let rest = cells_from w (k + 1) false x.rendition xs in
    cond_both (is_erased x) _ _ (λ fs. length (all_written fs) ≤ 99 * length (x ∷ xs))
    (λ _. let h = cells_length w (k + 1) true r xs in omega arith)
    (λ _.
    let h = cells_length w (k + 1) false x.rendition xs in
    let p = when_length (gap || eqb (k % w) 0) (cup (k / w + 1) (k % w + 1)) in
    let q = when_length (not (eqb x.rendition r)) (sgr (rendition_of x.rendition)) in
    let c = cup_length (k / w + 1) (k % w + 1) in
    let s = sgr_length (rendition_of x.rendition) in
    let e = both_length a (b ++ (graphic x.code ∷ rest)) in
    let f = both_length b (graphic x.code ∷ rest) in
    let g = both_length (graphic x.code ∷ []) rest in
    let i = one_length (graphic x.code) in
    let j = graphic_length x.code in
    omega arith)

stop_length : (l c b : ℕ) → length (written (control b)) ≡ 2 → length (all_written (cup l c ∷ control b ∷ [])) ≤ 16
stop_length l c b h =
    let e = both_length (cup l c ∷ []) (control b ∷ []) in
    let f = one_length (cup l c) in
    let g = one_length (control b) in
    let i = cup_length l c in
    omega arith

stops_length : (at : ℕ → List Function) (k : ℕ) (fs : List Bool) → ((n : ℕ) → length (all_written (at n)) ≤ 16) → length (all_written (stops_from at k fs)) ≤ 16 * length fs
unfolding stops_from all_written
stops_length at k [] h = omega arith
stops_length at k (false ∷ fs) h = let r = stops_length at (k + 1) fs h in omega arith
stops_length at k (true ∷ fs) h = let r = stops_length at (k + 1) fs h in let a = h k in let e = both_length (at k) (stops_from at (k + 1) fs) in omega arith

column_length : (n : ℕ) → length (all_written (column_stop n)) ≤ 16
unfolding written
column_length n = stop_length 1 n 0x88 refl

line_length : (n : ℕ) → length (all_written (line_stop n)) ≤ 16
unfolding written
line_length n = stop_length n 1 0x8A refl

ending_length : (s : State) → length (all_written (ending s)) ≤ 116
ending_length s =
    let a = when s.modes.insertion (numbered (4 ∷ []) 0x68) in
    let b = when s.modes.combination (numbered (21 ∷ []) 0x68) in
    let e = both_length a (b ++ (sgr s.rendition ∷ cup s.line s.column ∷ [])) in
    let f = both_length b (sgr s.rendition ∷ cup s.line s.column ∷ []) in
    let g = both_length (sgr s.rendition ∷ []) (cup s.line s.column ∷ []) in
    let i = one_length (sgr s.rendition) in
    let j = one_length (cup s.line s.column) in
    let k = when_length s.modes.insertion (numbered (4 ∷ []) 0x68) in
    let l = when_length s.modes.combination (numbered (21 ∷ []) 0x68) in
    let m = numbered_length (4 ∷ []) 0x68 in
    let n = numbered_length (21 ∷ []) 0x68 in
    let o = sgr_length s.rendition in
    let q = cup_length s.line s.column in
    omega arith

reset_length : length (written reset) ≡ 2
unfolding written
reset_length = refl

drawn_stops_length : (s : State) → length (all_written (stops_drawn s)) ≤ 18 + 16 * length s.column_stops + 16 * length s.line_stops
drawn_stops_length s =
    let columns = stops_from column_stop 1 s.column_stops in
    let lines = stops_from line_stop 1 s.line_stops in
    let c = both_length (numbered (3 ∷ []) 0x67 ∷ []) (numbered (4 ∷ []) 0x67 ∷ (columns ++ lines)) in
    let d = both_length (numbered (4 ∷ []) 0x67 ∷ []) (columns ++ lines) in
    let e = both_length columns lines in
    let h = one_length (numbered (3 ∷ []) 0x67) in
    let i = one_length (numbered (4 ∷ []) 0x67) in
    let j = numbered_length (3 ∷ []) 0x67 in
    let k = numbered_length (4 ∷ []) 0x67 in
    let m = stops_length column_stop 1 s.column_stops column_length in
    let n = stops_length line_stop 1 s.line_stops line_length in
    omega arith

picture_length : (x : Sheet) → length (picture_bytes x) ≤ 136 + 99 * length x.grid.cells + 16 * length x.state.column_stops + 16 * length x.state.line_stops
unfolding drawing
picture_length x =
    let s = x.state in
    let cells = cells_from s.columns 0 true 0 x.grid.cells in
    let a = both_length (reset ∷ []) (drawing x) in
    let b = both_length cells (stops_drawn s ++ ending s) in
    let c = both_length (stops_drawn s) (ending s) in
    let g = one_length reset in
    let l = cells_length s.columns 0 true 0 x.grid.cells in
    let m = drawn_stops_length s in
    let o = ending_length s in
    let q = reset_length in
    omega arith

-- a page of a panel's size has as few lines and columns
pub record Fitting (v : View) (g : Grid) : Type 0 where
  pub lines : v.size.lines ≡ g.lines
  pub columns : v.size.columns ≡ g.columns

pub fitting : (v : View) (g : Grid) → is_of_size v g ≡ true → Fitting v g
fitting v g e = let p = and_parts (eqb v.size.lines g.lines) _ e in record { lines = eqb-true _ _ p.0; columns = eqb-true _ _ p.1 }

pub picture_small : (v : View) (g : Grid) → Whole g → is_of_size v g ≡ true → length (picture_bytes (sheet_seen v g)) < 2 ^ 64
picture_small v g o e =
    let f = fitting v g e in
    let a = picture_length (sheet_seen v g) in
    let tall : g.lines ≤ 65536 = omega (arith, o.tall) in
    let wide : g.columns ≤ 65536 = omega (arith, o.wide) in
    let c : g.lines * g.columns ≤ 65536 * 65536 = mul-le-mul tall wide in
    let d = length-take v.size.columns v.column_stops in
    let h = length-take v.size.lines v.line_stops in
    omega (arith, o.count, f.lines, f.columns)

pub reply_small : (r : Report) (l c : ℕ) → length (report_bytes r l c) < 2 ^ 64
reply_small Status l c = let a = numbered_length (0 ∷ []) 0x6E in omega arith
reply_small Position l c = let a = numbered_length (l ∷ c ∷ []) 0x52 in omega arith
