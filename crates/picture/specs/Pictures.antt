-- A picture: the functions that make a page of a fresh one, and their bytes.
use Rattle.std.specs.Prelude.{ℕ, ◌+◌, ◌/◌, ◌%◌, Bool, true, false, cond, not, ◌&&◌, ◌||◌, List, [], ◌∷◌, ◌++◌, map, Some, None, Option, ◌==◌, nat_le}
use Rattle.panel.specs.declared.cell.Cell.{Cell}
use Rattle.reader.specs.Bytes.{among}
use Rattle.reader.specs.Functions.{Function, graphic, control, reset, sequence}
use Rattle.control.specs.declared.rendition.Rendition.{Rendition}
use Rattle.control.specs.declared.function.Report.TheVariants.{Status, Position}
use Rattle.control.specs.Renditions.{rendition_of}
use Rattle.page.specs.Sheets.{State, Sheet}
use Rattle.picture.specs.Renditions.{parameters_of}
use Rattle.picture.specs.Writing.{written, all_written}

-- a sequence with numbers
abbrev pub numbered : List ℕ → ℕ → Function
numbered ns f = sequence (map Some ns) false f

abbrev pub cup : ℕ → ℕ → Function
cup l c = numbered (l ∷ c ∷ []) 0x48

abbrev pub sgr : Rendition → Function
sgr r = numbered (parameters_of r) 0x6D

abbrev pub is_erased : Cell → Bool
is_erased x = x.code == 0 && x.rendition == 0

abbrev pub when : Bool → Function → List Function
when true f = f ∷ []
when false f = []

-- the cells from index k on, by whether the left neighbour is erased and the rendition last written: CUP in column 1 or
-- behind an erased cell, SGR where the rendition is another, and the character; nothing for an erased cell
unfoldable pub cells_from : ℕ → ℕ → Bool → ℕ → List Cell → List Function
cells_from w k gap r [] = []
cells_from w k gap r (x ∷ xs) =
    let skipped = cells_from w (k + 1) true r xs in
    let shown = cells_from w (k + 1) false x.rendition xs in
    cond (is_erased x) skipped (when (gap || k % w == 0) (cup (k / w + 1) (k % w + 1)) ++ (when (not (x.rendition == r)) (sgr (rendition_of x.rendition)) ++ (graphic x.code ∷ shown)))

-- the functions for each flag that is set, the place counted from k
unfoldable pub stops_from : (ℕ → List Function) → ℕ → List Bool → List Function
stops_from at k [] = []
stops_from at k (false ∷ fs) = stops_from at (k + 1) fs
stops_from at k (true ∷ fs) = at k ++ stops_from at (k + 1) fs

-- CUP and HTS, CUP and VTS
abbrev pub column_stop : ℕ → List Function
column_stop c = cup 1 c ∷ control 0x88 ∷ []

abbrev pub line_stop : ℕ → List Function
line_stop l = cup l 1 ∷ control 0x8A ∷ []

-- TBC 3 and 4, and each stop
abbrev pub stops_drawn : State → List Function
stops_drawn s = numbered (3 ∷ []) 0x67 ∷ numbered (4 ∷ []) 0x67 ∷ (stops_from column_stop 1 s.column_stops ++ stops_from line_stop 1 s.line_stops)

-- SM for each mode that is set, SGR and CUP
abbrev pub ending : State → List Function
ending s = when s.modes.insertion (numbered (4 ∷ []) 0x68) ++ (when s.modes.combination (numbered (21 ∷ []) 0x68) ++ (sgr s.rendition ∷ cup s.line s.column ∷ []))

-- all behind RIS
unfoldable pub drawing : Sheet → List Function
drawing x = cells_from x.state.columns 0 true 0 x.grid.cells ++ (stops_drawn x.state ++ ending x.state)

abbrev pub picture_bytes : Sheet → List ℕ
picture_bytes x = all_written (reset ∷ drawing x)

-- a reply: ESC [ 0 n, or ESC [ line ; column R
abbrev pub reply_bytes : State → List ℕ
reply_bytes s = elim s.owed [ None ↦ [] | Some r ↦ elim r [ Status ↦ written (numbered (0 ∷ []) 0x6E) | Position ↦ written (numbered (s.line ∷ s.column ∷ []) 0x52) ] ]

-- cells that no bytes could have put there, and the index of the first
abbrev pub foreign : Cell → Bool
foreign x = among 1 31 x.code || (among 127 159 x.code || (nat_le 34992 x.rendition || (x.code == 0 && not (x.rendition == 0))))

abbrev pub first_foreign : ℕ → List Cell → Option ℕ
first_foreign k [] = None
first_foreign k (x ∷ xs) = elim (foreign x) [ true ↦ Some k | false ↦ first_foreign (k + 1) xs ]
