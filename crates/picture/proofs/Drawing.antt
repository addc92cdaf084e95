-- What the functions of a picture do, and that they can be written and request nothing.
use Rattle.std.proofs.Common.{◌≡◌, ℕ, ◌-◌, ◌≤◌, max, true, false, cond, List, [], ◌∷◌, ◌++◌, map, length, set, replicate, Some, refl, ap, ◌∙◌, arith}
use Rattle.std.proofs.lemmas.List.{length-map}
use Rattle.std.proofs.lemmas.Bool.{cond-true, cond-false}
use Rattle.panel.specs.Grids.{Grid, on, index, with_cells}
use Rattle.reader.specs.Functions.{Function, graphic, control}
use Rattle.control.specs.declared.rendition.Rendition.{Rendition}
use Rattle.control.specs.Renditions.{number}
use Rattle.page.specs.Sheets.{Sheet, at, rendered, with_stops, in_modes, on_state}
use Rattle.page.specs.Moves.{inside, right}
use Rattle.page.specs.Effects.{does, does_all}
use Rattle.page.proofs.BytesAct.{does_append}
use Rattle.picture.specs.Renditions.{parameters_of}
use Rattle.picture.specs.Writable.{Small, Told, Fits, Writable}
use Rattle.picture.specs.Pictures.{numbered, cup, sgr}
use Rattle.picture.proofs.Sgr.{Low, makes, small_parameters, few_parameters}

inside_is : (n m : ℕ) → 1 ≤ n → n ≤ m → inside 1 m (max 1 n) ≡ n
inside_is n m h k = omega arith

pub moves : (x : Sheet) (l c : ℕ) → 1 ≤ l → l ≤ x.state.lines → 1 ≤ c → c ≤ x.state.columns → does (cup l c) x ≡ on_state (at l c) x
moves x l c hl kl hc kc = λ i. on_state (at (inside_is l x.state.lines hl kl i) (inside_is c x.state.columns hc kc i)) x

pub renders : (x : Sheet) (r : Rendition) → does (sgr r) x ≡ on_state (rendered r) x
renders x r = ap (λ (q : Rendition). on_state (rendered q) x) (makes x.state.modes.combination x.state.rendition r)

pub clears_columns : (x : Sheet) → does (numbered (3 ∷ []) 0x67) x ≡ on_state (with_stops (replicate x.state.columns false) x.state.line_stops) x
clears_columns x = refl

pub clears_lines : (x : Sheet) → does (numbered (4 ∷ []) 0x67) x ≡ on_state (with_stops x.state.column_stops (replicate x.state.lines false)) x
clears_lines x = refl

pub sets_insertion : (x : Sheet) → does (numbered (4 ∷ []) 0x68) x ≡ on_state (in_modes (record { insertion = true; combination = x.state.modes.combination })) x
sets_insertion x = refl

pub sets_combination : (x : Sheet) → does (numbered (21 ∷ []) 0x68) x ≡ on_state (in_modes (record { insertion = x.state.modes.insertion; combination = true })) x
sets_combination x = refl

pub sets_column_stop : (x : Sheet) → does (control 0x88) x ≡ on_state (with_stops (set x.state.column_stops (x.state.column - 1) true) x.state.line_stops) x
sets_column_stop x = refl

pub sets_line_stop : (x : Sheet) → does (control 0x8A) x ≡ on_state (with_stops x.state.column_stops (set x.state.line_stops (x.state.line - 1) true)) x
sets_line_stop x = refl

-- a graphic character, without insertion and on the panel
pub shows : (x : Sheet) (b : ℕ) → x.state.modes.insertion ≡ false → on x.grid x.state.line x.state.column ≡ true
    → does (graphic b) x ≡ record { state = right 1 x.state; grid = with_cells x.grid (set x.grid.cells (index x.grid x.state.line x.state.column) (record { code = b; rendition = number x.state.rendition })) }
shows x b i o =
    ap (λ (y : Sheet). record { state = right 1 y.state; grid = cond (on y.grid y.state.line y.state.column) (with_cells y.grid (set y.grid.cells (index y.grid y.state.line y.state.column) (record { code = b; rendition = number y.state.rendition }))) y.grid }) (cond-false x.state.modes.insertion _ x i)
    ∙ ap (λ (g : Grid). record { state = right 1 x.state; grid = g }) (cond-true (on x.grid x.state.line x.state.column) _ _ o)

-- they can be written
low_small : (ns : List ℕ) → Low ns → Small (map Some ns)
low_small [] h = tt
low_small (n ∷ ns) h = (h.0, low_small ns h.1)

low_told : (ns : List ℕ) → Told (map Some ns)
low_told [] = tt
low_told (n ∷ ns) = tt

pub writes_numbers : (ns : List ℕ) → Low ns → length ns ≤ 16 → Fits (map Some ns)
writes_numbers ns low few = record { small = low_small ns low; told = low_told ns; few = omega (arith, length-map ns Some) }

pub writes_cup : (l c : ℕ) → l ≤ 9999 → c ≤ 9999 → Writable (cup l c)
writes_cup l c a b = (writes_numbers (l ∷ c ∷ []) (a, (b, tt)) (omega arith), refl)

pub writes_sgr : (r : Rendition) → Writable (sgr r)
writes_sgr r = (writes_numbers (parameters_of r) (small_parameters r) (few_parameters r), refl)

-- functions one after the other, kept shut
unfoldable pub acts : Sheet → List Function → Sheet
acts x fs = does_all fs x

pub acts_append : (x : Sheet) (fs gs : List Function) → acts x (fs ++ gs) ≡ acts (acts x fs) gs
unfolding acts
acts_append x fs gs = does_append fs gs x
