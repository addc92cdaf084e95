-- The functions of a picture make, of a fresh page, the page that it is of.
use Rattle.std.proofs.Common.{◌≡◌, ℕ, ◌+◌, ◌-◌, ◌*◌, ◌<◌, ◌≤◌, Bool, true, false, List, [], ◌∷◌, ◌++◌, map, length, set, replicate, None, sym, refl, ap, ◌∙◌, inl, inr, append-nil, zero-mul, arith, drop_of_length-le}
use Rattle.std.proofs.lemmas.Bool.{true≢false, cond-true, and_from, le-leb}
use Rattle.std.specs.List.{range_with_len}
use Rattle.panel.specs.declared.cell.Cell.{Cell}
use Rattle.panel.specs.Grids.{Grid, erased, within, index_in, run_on, wiped, with_cells, after_erase}
use Rattle.panel.proofs.Places.{true_within}
use Rattle.reader.specs.Functions.{Function, control}
use Rattle.reader.specs.Steps.{rest}
use Rattle.control.specs.Renditions.{standard}
use Rattle.page.specs.Sheets.{Sheet, at, rendered, with_stops, in_modes, on_state}
use Rattle.page.specs.Stops.{first_stop}
use Rattle.page.specs.Effects.{begun, does}
use Rattle.page.specs.Proper.{Proper}
use Rattle.picture.specs.Pictures.{numbered, cup, sgr, when, cells_from, stops_from, column_stop, line_stop, stops_drawn, ending, drawing}
use Rattle.picture.specs.Writable.{Each}
use Rattle.picture.proofs.Drawing.{acts, acts_append, moves, renders, clears_columns, clears_lines, sets_insertion, sets_combination, sets_column_stop, sets_line_stop}
use Rattle.picture.proofs.CellsDrawn.{stage, Reached, Fine, walk, Drawn, each_when, each_cell}
use Rattle.picture.proofs.StopsDrawn.{flags, each_append, each_flag}

-- a page on a grid of its size, with every cell
pub record Ready (x : Sheet) : Type 0 where
  pub proper : Proper x.state
  pub lines : x.state.lines ≡ x.grid.lines
  pub columns : x.state.columns ≡ x.grid.columns
  pub count : length x.grid.cells ≡ x.grid.lines * x.grid.columns

module _ (h w : ℕ) (cs : List Cell) (ph : 1 ≤ h) (pw : 1 ≤ w) where
  column_set : (v : List Bool) (k : ℕ) (fs : List Bool) (q : Sheet) → k < w → Reached h w fs v cs q → Reached h w (set fs k true) v cs (acts q (column_stop (k + 1)))
  unfolding acts
  column_set v k fs q lt s =
      let s0 = stage h w fs v s.line s.column s.rendition cs in
      let k_is : k + 1 - 1 ≡ k = omega arith in
      record {
        line = 1;
        column = k + 1;
        rendition = s.rendition;
        is = ap (λ (p : Sheet). does (control 0x88) (does (cup 1 (k + 1)) p)) s.is
            ∙ ap (does (control 0x88)) (moves s0 1 (k + 1) (omega arith) ph (omega arith) (omega arith))
            ∙ sets_column_stop (on_state (at 1 (k + 1)) s0)
            ∙ ap (λ (j : ℕ). stage h w (set fs j true) v 1 (k + 1) s.rendition cs) k_is;
      }

  line_set : (t : List Bool) (k : ℕ) (fs : List Bool) (q : Sheet) → k < h → Reached h w t fs cs q → Reached h w t (set fs k true) cs (acts q (line_stop (k + 1)))
  unfolding acts
  line_set t k fs q lt s =
      let s0 = stage h w t fs s.line s.column s.rendition cs in
      let k_is : k + 1 - 1 ≡ k = omega arith in
      record {
        line = k + 1;
        column = 1;
        rendition = s.rendition;
        is = ap (λ (p : Sheet). does (control 0x8A) (does (cup (k + 1) 1) p)) s.is
            ∙ ap (does (control 0x8A)) (moves s0 (k + 1) 1 (omega arith) (omega arith) (omega arith) pw)
            ∙ sets_line_stop (on_state (at (k + 1) 1) s0)
            ∙ ap (λ (j : ℕ). stage h w t (set fs j true) (k + 1) 1 s.rendition cs) k_is;
      }

abbrev modes : Bool → Bool → Sheet → Sheet
modes i c x = on_state (in_modes (record { insertion = i; combination = c })) x

insertion_set : (b : Bool) (x : Sheet) → x.state.modes.insertion ≡ false → acts x (when b (numbered (4 ∷ []) 0x68)) ≡ modes b x.state.modes.combination x
unfolding acts
insertion_set true x e = sets_insertion x
insertion_set false x e = λ i. modes (e i) x.state.modes.combination x

combination_set : (b : Bool) (x : Sheet) → x.state.modes.combination ≡ false → acts x (when b (numbered (21 ∷ []) 0x68)) ≡ modes x.state.modes.insertion b x
unfolding acts
combination_set true x e = sets_combination x
combination_set false x e = λ i. modes x.state.modes.insertion (e i) x

-- a page at rest that owes nothing, by its parts
abbrev by_parts : Sheet → Sheet
by_parts a = record {
  state = record {
    lines = a.state.lines;
    columns = a.state.columns;
    line = a.state.line;
    column = a.state.column;
    rendition = a.state.rendition;
    column_stops = a.state.column_stops;
    line_stops = a.state.line_stops;
    modes = a.state.modes;
    standing = rest;
    owed = None;
  };
  grid = record { lines = a.state.lines; columns = a.state.columns; cells = a.grid.cells };
}

is_by_parts : (a : Sheet) → Ready a → a.state.standing ≡ rest → a.state.owed ≡ None → by_parts a ≡ a
is_by_parts a ok r q = λ i. record {
  state = record {
    lines = a.state.lines;
    columns = a.state.columns;
    line = a.state.line;
    column = a.state.column;
    rendition = a.state.rendition;
    column_stops = a.state.column_stops;
    line_stops = a.state.line_stops;
    modes = a.state.modes;
    standing = sym r i;
    owed = sym q i;
  };
  grid = record { lines = ok.lines i; columns = ok.columns i; cells = a.grid.cells };
}

-- every cell erased
pub begun_cells : (g : Grid) → 1 ≤ g.lines → 1 ≤ g.columns → length g.cells ≡ g.lines * g.columns → after_erase g 1 1 (g.lines * g.columns) ≡ with_cells g (replicate (g.lines * g.columns) erased)
begun_cells g ph pw n =
    let first : index_in g.columns 1 1 ≡ 0 = ap (λ (k : ℕ). k + 0) (zero-mul g.columns) in
    let here : within g.lines g.columns 1 1 ≡ true = true_within g.lines g.columns 1 1 (record { line_low = omega arith; line_high = ph; column_low = omega arith; column_high = pw }) in
    let fits : run_on g 1 1 (g.lines * g.columns) ≡ true = and_from _ _ here (le-leb _ _ (omega (arith, first))) in
    let emptied : wiped g.cells (index_in g.columns 1 1) (g.lines * g.columns) ≡ replicate (g.lines * g.columns) erased =
    ap (λ (k : ℕ). wiped g.cells k (g.lines * g.columns)) first
    ∙ ap (λ (l : List Cell). replicate (g.lines * g.columns) erased ++ l) (drop_of_length-le g.cells (omega (arith, n)))
    ∙ append-nil _
    in
    cond-true (run_on g 1 1 (g.lines * g.columns)) _ g fits ∙ ap (with_cells g) emptied

module _ (a : Sheet) (ok : Ready a) where
  pub some_lines : 1 ≤ a.state.lines
  some_lines = omega (arith, ok.proper.line_from, ok.proper.line_to)

  pub some_columns : 1 ≤ a.state.columns
  some_columns = omega (arith, ok.proper.column_from, ok.proper.column_to)

  all_cells : length a.grid.cells ≡ a.state.lines * a.state.columns
  all_cells = ok.count ∙ (λ i. sym ok.lines i * sym ok.columns i)

  -- modes, rendition and position, from any position and rendition
  ends : (q : Sheet) → Reached a.state.lines a.state.columns a.state.column_stops a.state.line_stops a.grid.cells q → acts q (ending a.state) ≡ by_parts a
  unfolding acts
  ends q x =
      let s0 = stage a.state.lines a.state.columns a.state.column_stops a.state.line_stops x.line x.column x.rendition a.grid.cells in
      let i = a.state.modes.insertion in
      let c = a.state.modes.combination in
      let s1 = modes i false s0 in
      let s2 = modes i c s0 in
      let last = sgr a.state.rendition ∷ cup a.state.line a.state.column ∷ [] in
      ap (λ (z : Sheet). acts z (ending a.state)) x.is
      ∙ acts_append s0 (when i (numbered (4 ∷ []) 0x68)) (when c (numbered (21 ∷ []) 0x68) ++ last)
      ∙ ap (λ (z : Sheet). acts z (when c (numbered (21 ∷ []) 0x68) ++ last)) (insertion_set i s0 refl)
      ∙ acts_append s1 (when c (numbered (21 ∷ []) 0x68)) last
      ∙ ap (λ (z : Sheet). acts z last) (combination_set c s1 refl)
      ∙ ap (does (cup a.state.line a.state.column)) (renders s2 a.state.rendition)
      ∙ moves (on_state (rendered a.state.rendition) s2) a.state.line a.state.column ok.proper.line_from ok.proper.line_to ok.proper.column_from ok.proper.column_to

  -- both kinds of stop cleared
  clears : (t v : List Bool) (q : Sheet) → Reached a.state.lines a.state.columns t v a.grid.cells q
      → Reached a.state.lines a.state.columns (replicate (length a.state.column_stops) false) (replicate (length a.state.line_stops) false) a.grid.cells (does (numbered (4 ∷ []) 0x67) (does (numbered (3 ∷ []) 0x67) q))
  clears t v q x =
      let s0 = stage a.state.lines a.state.columns t v x.line x.column x.rendition a.grid.cells in
      let t_is = ap (λ (n : ℕ). replicate n false) (sym ok.proper.all_column_stops) in
      let v_is = ap (λ (n : ℕ). replicate n false) (sym ok.proper.all_line_stops) in
      record {
        line = x.line;
        column = x.column;
        rendition = x.rendition;
        is = ap (λ (z : Sheet). does (numbered (4 ∷ []) 0x67) (does (numbered (3 ∷ []) 0x67) z)) x.is
            ∙ ap (does (numbered (4 ∷ []) 0x67)) (clears_columns s0)
            ∙ clears_lines (on_state (with_stops (replicate a.state.columns false) v) s0)
            ∙ (λ i. stage a.state.lines a.state.columns (t_is i) (v_is i) x.line x.column x.rendition a.grid.cells);
      }

  stops_set : (q : Sheet) → Reached a.state.lines a.state.columns (replicate (length a.state.column_stops) false) (replicate (length a.state.line_stops) false) a.grid.cells q
      → Reached a.state.lines a.state.columns a.state.column_stops a.state.line_stops a.grid.cells (acts (acts q (stops_from column_stop 1 a.state.column_stops)) (stops_from line_stop 1 a.state.line_stops))
  stops_set q x =
      let cs = a.grid.cells in
      let none_yet = replicate (length a.state.line_stops) false in
      let columns_set = flags (λ fs z. Reached a.state.lines a.state.columns fs none_yet cs z) column_stop a.state.columns (column_set a.state.lines a.state.columns cs some_lines some_columns none_yet) a.state.column_stops [] 0 q refl (omega (arith, ok.proper.all_column_stops)) x in
      flags (λ fs z. Reached a.state.lines a.state.columns a.state.column_stops fs cs z) line_stop a.state.lines (line_set a.state.lines a.state.columns cs some_lines some_columns a.state.column_stops) a.state.line_stops [] 0 _ refl (omega (arith, ok.proper.all_line_stops)) columns_set

  -- the fresh page, and its cells set
  blank : Sheet
  blank = stage a.state.lines a.state.columns (map first_stop (range_with_len 0 a.state.columns)) (replicate a.state.lines false) 1 1 standard (replicate (length a.grid.cells) erased)

  cells_set : Fine a.grid.cells → Reached a.state.lines a.state.columns (map first_stop (range_with_len 0 a.state.columns)) (replicate a.state.lines false) a.grid.cells (acts blank (cells_from a.state.columns 0 true 0 a.grid.cells))
  unfolding blank
  cells_set f =
      walk a.state.lines a.state.columns (map first_stop (range_with_len 0 a.state.columns)) (replicate a.state.lines false) a.grid.cells f [] 0 true 0 1 1 standard refl (omega (arith, all_cells)) some_columns refl (λ z. absurd (true≢false z))

  drawn : Fine a.grid.cells → acts blank (drawing a) ≡ by_parts a
  unfolding drawing acts
  drawn f =
      let cells = cells_from a.state.columns 0 true 0 a.grid.cells in
      let columns = stops_from column_stop 1 a.state.column_stops in
      let lines = stops_from line_stop 1 a.state.line_stops in
      let q1 = acts blank cells in
      let q3 = does (numbered (4 ∷ []) 0x67) (does (numbered (3 ∷ []) 0x67) q1) in
      acts_append blank cells (stops_drawn a.state ++ ending a.state)
      ∙ acts_append q3 (columns ++ lines) (ending a.state)
      ∙ ap (λ (z : Sheet). acts z (ending a.state)) (acts_append q3 columns lines)
      ∙ ends (acts (acts q3 columns) lines) (stops_set q3 (clears _ _ q1 (cells_set f)))

  -- a page begun on any grid of the size is that fresh page
  fresh_is : (g : Grid) → g.lines ≡ a.state.lines → g.columns ≡ a.state.columns → length g.cells ≡ g.lines * g.columns → begun g ≡ blank
  unfolding blank
  fresh_is g el ec n =
      let size : g.lines * g.columns ≡ length a.grid.cells = (λ i. el i * ec i) ∙ sym all_cells in
      let grid : after_erase g 1 1 (g.lines * g.columns) ≡ record { lines = a.state.lines; columns = a.state.columns; cells = replicate (length a.grid.cells) erased } =
      begun_cells g (omega (arith, el, some_lines)) (omega (arith, ec, some_columns)) n ∙ (λ i. record { lines = el i; columns = ec i; cells = replicate (size i) erased })
      in
      λ i. record { state = (begun (record { lines = el i; columns = ec i; cells = g.cells })).state; grid = grid i }

  -- of a page begun on any grid of the size, a picture's functions make the page that it is of
  pub drawn_on : (g : Grid) → g.lines ≡ a.state.lines → g.columns ≡ a.state.columns → length g.cells ≡ g.lines * g.columns → a.state.standing ≡ rest → a.state.owed ≡ None → Fine a.grid.cells → acts (begun g) (drawing a) ≡ a
  drawn_on g el ec n r q f = ap (λ (z : Sheet). acts z (drawing a)) (fresh_is g el ec n) ∙ drawn f ∙ is_by_parts a ok r q

  -- what holds of each function that a picture can have holds of each in this one
  pub each : (P : Function → Type 0) → Drawn P → Fine a.grid.cells → Each P (drawing a)
  unfolding drawing
  each P d f =
      let lh : a.state.lines ≤ 9998 = omega (arith, ok.proper.few_lines) in
      let lw : a.state.columns ≤ 9998 = omega (arith, ok.proper.few_columns) in
      each_append P (cells_from a.state.columns 0 true 0 a.grid.cells) _ (each_cell P d a.state.lines a.state.columns (omega arith) (omega arith) some_columns a.grid.cells 0 true 0 (omega (arith, all_cells)) f)
      (each_append P (stops_drawn a.state) _ (
        d.others 3 0x67 (omega arith) (inl refl),
        (
          d.others 4 0x67 (omega arith) (inl refl),
          each_append P (stops_from column_stop 1 a.state.column_stops) _
              (each_flag P column_stop a.state.columns (λ k h. (d.cups 1 k (omega arith) (omega arith), (d.column_stop, tt))) a.state.column_stops 1 (omega (arith, ok.proper.all_column_stops)))
              (each_flag P line_stop a.state.lines (λ k h. (d.cups k 1 (omega arith) (omega arith), (d.line_stop, tt))) a.state.line_stops 1 (omega (arith, ok.proper.all_line_stops))),
        ),
      )
      (each_when P d a.state.modes.insertion (numbered (4 ∷ []) 0x68) _ (d.others 4 0x68 (omega arith) (inr refl))
      (each_when P d a.state.modes.combination (numbered (21 ∷ []) 0x68) _ (d.others 21 0x68 (omega arith) (inr refl))
      (d.sgrs a.state.rendition, (d.cups a.state.line a.state.column (omega (arith, ok.proper.line_to)) (omega (arith, ok.proper.column_to)), tt)))))
