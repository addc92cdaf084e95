-- What a module panel shows after its bytes have changed.
use Rattle.std.proofs.Common.{◌≡◌, ℕ, ◌+◌, ◌-◌, ◌*◌, ◌/◌, ◌%◌, ◌<◌, ◌≤◌, true, eqb, ◌⊎◌, List, map, length, get_or, drop, set, sym, ap, ◌∙◌, inl, inr, ⊎_elim, arith}
use Rattle.std.specs.List.{range_with_len}
use Rattle.std.proofs.lemmas.Nat.{div-mul-add, mod-mul-add, div_below, mod_below, div-add-mod', mul-add-lt}
use Rattle.std.proofs.lemmas.List.FromFn.{length-map-range_with_len, get_or-map-range_with_len}
use Rattle.std.proofs.lemmas.Bool.{cases_Bool, cases_eq, cases_lt, cond-true, cond-false, eqb-true, eqb-false}
use Rattle.std.proofs.lemmas.List.{length-set, drop-set-lt, ext_get_or, get_or-set_same, get_or-set_other}
use Rattle.refusal.specs.Table.{accepted}
use Rattle.panel.specs.declared.cell.Cell.{Cell}
use Rattle.panel.specs.declared.size.Size.{Size}
use Rattle.panel.specs.Grids.{Grid, erased, on, cell_answer, size_of, within, with_cells, InLine}
use Rattle.panel.specs.Screens.{Screen, Sound, bytes_past, with_grid, put_on, wipe_on}
use Rattle.panel.specs.Moduled.{row_of, stored_at, gathered, scattered, laid_in_planes}
use Rattle.panel.proofs.Wiped.{wiped_more}
use Rattle.panel.proofs.Places.{columns_some, Within, within_true}

row_cases : (lines r : ℕ) → ((r % 2 ≡ 0) × (row_of lines r ≡ r / 2)) ⊎ ((r % 2 ≡ 1) × (row_of lines r ≡ (lines + 1) / 2 + r / 2))
row_cases lines r =
    ⊎_elim
    (λ t. inl (eqb-true (r % 2) 0 t, cond-true _ _ _ t))
    (λ f. inr (let ne = eqb-false (r % 2) 0 f in omega arith, cond-false _ _ _ f))
    (cases_Bool (eqb (r % 2) 0))

pub row_lt : (lines r : ℕ) → r < lines → row_of lines r < lines
row_lt lines r h = ⊎_elim (λ a. let b = a.0 in let c = a.1 in omega arith) (λ a. let b = a.0 in let c = a.1 in omega arith) (row_cases lines r)

row_inj : (lines r q : ℕ) → r < lines → q < lines → row_of lines r ≡ row_of lines q → r ≡ q
row_inj lines r q hr hq e =
    ⊎_elim
    (λ a. ⊎_elim (λ b. let x = a.0 in let y = a.1 in let z = b.0 in let w = b.1 in omega arith) (λ b. let x = a.0 in let y = a.1 in let z = b.0 in let w = b.1 in omega arith) (row_cases lines q))
    (λ a. ⊎_elim (λ b. let x = a.0 in let y = a.1 in let z = b.0 in let w = b.1 in omega arith) (λ b. let x = a.0 in let y = a.1 in let z = b.0 in let w = b.1 in omega arith) (row_cases lines q))
    (row_cases lines r)

pub stored_lt : (lines columns k : ℕ) → k < lines * columns → stored_at lines columns k < lines * columns
stored_lt l c k h =
    let p = columns_some l c k h in
    omega (arith, mul-add-lt (row_of l (k / c)) c (k % c) l (row_lt l (k / c) (div_below k c l p h)) (mod_below k c p))

stored_inj : (l c k j : ℕ) → k < l * c → j < l * c → stored_at l c k ≡ stored_at l c j → k ≡ j
stored_inj l c k j hk hj e =
    let p = columns_some l c k hk in
    let d : row_of l (k / c) ≡ row_of l (j / c) = sym (div-mul-add _ c _ (mod_below k c p)) ∙ ap (λ z. z / c) e ∙ div-mul-add _ c _ (mod_below j c p) in
    let m : k % c ≡ j % c = sym (mod-mul-add (row_of l (k / c)) c _ (mod_below k c p)) ∙ ap (λ z. z % c) e ∙ mod-mul-add (row_of l (j / c)) c _ (mod_below j c p) in
    let q : k / c ≡ j / c = row_inj l (k / c) (j / c) (div_below k c l p hk) (div_below j c l p hj) d in
    sym (div-add-mod' k c) ∙ ap (λ z. z * c + k % c) q ∙ ap (λ z. j / c * c + z) m ∙ div-add-mod' j c

module _ (n : ℕ) (mem : List ℕ) (j : ℕ) (x : Cell) (room : 3 * n ≤ length mem) (low : j < n) where
  drop_scattered : drop (3 * n) (scattered n mem j x) ≡ drop (3 * n) mem
  drop_scattered = drop-set-lt (3 * n) _ (2 * n + j) _ (omega arith) ∙ drop-set-lt (3 * n) _ (n + j) _ (omega arith) ∙ drop-set-lt (3 * n) mem j _ (omega arith)

  other : (i : ℕ) → (i ≡ j → ⊥) → (i ≡ n + j → ⊥) → (i ≡ 2 * n + j → ⊥) → get_or (scattered n mem j x) i 0 ≡ get_or mem i 0
  other i a b c = get_or-set_other _ (2 * n + j) i _ 0 c ∙ get_or-set_other _ (n + j) i _ 0 b ∙ get_or-set_other mem j i _ 0 a

  at_code : get_or (scattered n mem j x) j 0 ≡ x.code
  at_code = get_or-set_other _ (2 * n + j) j _ 0 (λ e. omega arith) ∙ get_or-set_other _ (n + j) j _ 0 (λ e. omega arith) ∙ get_or-set_same mem j _ 0 (omega arith)

  at_low : get_or (scattered n mem j x) (n + j) 0 ≡ x.rendition % 256
  at_low = get_or-set_other _ (2 * n + j) (n + j) _ 0 (λ e. omega arith) ∙ get_or-set_same (set mem j x.code) (n + j) _ 0 (omega (arith, length-set mem j x.code))

  at_high : get_or (scattered n mem j x) (2 * n + j) 0 ≡ x.rendition / 256
  at_high = get_or-set_same (set (set mem j x.code) (n + j) (x.rendition % 256)) (2 * n + j) _ 0 (omega (arith, length-set (set mem j x.code) (n + j) (x.rendition % 256), length-set mem j x.code))

  cell_same : gathered n (scattered n mem j x) j ≡ x
  cell_same =
      let e : get_or (scattered n mem j x) (n + j) 0 + 256 * get_or (scattered n mem j x) (2 * n + j) 0 ≡ x.rendition = omega (arith, at_low, at_high) in
      ap (λ z. record { code = z; rendition = get_or (scattered n mem j x) (n + j) 0 + 256 * get_or (scattered n mem j x) (2 * n + j) 0 }) at_code
      ∙ ap (λ z. record { code = x.code; rendition = z }) e

  cell_other : (i : ℕ) → i < n → (i ≡ j → ⊥) → gathered n (scattered n mem j x) i ≡ gathered n mem i
  cell_other i l ne =
      let a = other i ne (λ e. omega arith) (λ e. omega arith) in
      let b = other (n + i) (λ e. omega arith) (λ e. ne (omega arith)) (λ e. omega arith) in
      let c = other (2 * n + i) (λ e. omega arith) (λ e. omega arith) (λ e. ne (omega arith)) in
      ap (λ z. record { code = z; rendition = get_or (scattered n mem j x) (n + i) 0 + 256 * get_or (scattered n mem j x) (2 * n + i) 0 }) a
      ∙ ap (λ z. record { code = get_or mem i 0; rendition = z + 256 * get_or (scattered n mem j x) (2 * n + i) 0 }) b
      ∙ ap (λ z. record { code = get_or mem i 0; rendition = get_or mem (n + i) 0 + 256 * z }) c

set_cells : (l c : ℕ) (mem : List ℕ) (k : ℕ) (x : Cell) → 3 * (l * c) ≤ length mem → k < l * c →
    map (λ i. gathered (l * c) (scattered (l * c) mem (stored_at l c k) x) (stored_at l c i)) (range_with_len 0 (l * c)) ≡ set (map (λ i. gathered (l * c) mem (stored_at l c i)) (range_with_len 0 (l * c))) k x
set_cells l c mem k x room h =
    let n = l * c in
    let new : ℕ → Cell = λ i. gathered n (scattered n mem (stored_at l c k) x) (stored_at l c i) in
    let old : ℕ → Cell = λ i. gathered n mem (stored_at l c i) in
    let sl = stored_lt l c k h in
    ext_get_or erased _ _ (length-map-range_with_len new 0 n ∙ sym (length-set (map old (range_with_len 0 n)) k x ∙ length-map-range_with_len old 0 n)) (λ i b.
    let m : i < n = omega (arith, length-map-range_with_len new 0 n) in
    get_or-map-range_with_len new 0 n i i erased m (omega arith) ∙
    ⊎_elim
    (λ e. ap new e ∙ cell_same n mem (stored_at l c k) x room sl ∙ sym (ap (λ z. get_or (set (map old (range_with_len 0 n)) k x) z erased) e ∙ get_or-set_same (map old (range_with_len 0 n)) k x erased (omega (arith, length-map-range_with_len old 0 n))))
    (λ ne. cell_other n mem (stored_at l c k) x room sl (stored_at l c i) (stored_lt l c i m) (λ e. ne (stored_inj l c i k m h e))
    ∙ sym (get_or-set_other (map old (range_with_len 0 n)) k i x erased ne ∙ get_or-map-range_with_len old 0 n i i erased m (omega arith)))
    (cases_eq i k))

-- where a line and column, counted from 0, are stored
pub record Stored (s : Screen) (line column at : ℕ) : Type 0 where
  pub line_low : line < s.grid.lines
  pub column_low : column < s.grid.columns
  pub is : at ≡ row_of s.grid.lines line * s.grid.columns + column

-- the index of a line and column is stored there
stored_index : (l c line column : ℕ) → column < c → stored_at l c (line * c + column) ≡ row_of l line * c + column
stored_index l c line column h =
    ap (λ z. row_of l z * c + (line * c + column) % c) (div-mul-add line c column h) ∙ ap (λ z. row_of l line * c + z) (mod-mul-add line c column h)

index_low : (l c line column : ℕ) → line < l → column < c → line * c + column < l * c
index_low l c line column a b = omega (arith, mul-add-lt line c column l a b)

-- bytes with room for the planes of so many lines and columns
module _ (loan l c : ℕ) (bytes : List ℕ) (room : 3 * (l * c) ≤ length bytes) where
  abbrev s : Screen
  s = laid_in_planes loan l c bytes

  module _ (line column at : ℕ) (st : Stored s line column at) where
    abbrev k : ℕ
    k = line * c + column

    low : k < l * c
    low = index_low l c line column st.line_low st.column_low

    place : at ≡ stored_at l c k
    place = st.is ∙ sym (stored_index l c line column st.column_low)

    pub module_put : (x : Cell) → laid_in_planes loan l c (scattered (l * c) bytes at x) ≡ put_on s k x
    module_put x =
        ap (λ z. laid_in_planes loan l c (scattered (l * c) bytes z x)) place
        ∙ (λ i. record { grid = record { lines = l; columns = c; cells = set_cells l c bytes k x room low i }; beyond = bytes_past loan (drop_scattered (l * c) bytes (stored_at l c k) x room (stored_lt l c k low) i) })

    pub module_room : 2 * (l * c) + at < length bytes
    module_room = omega (arith, place, stored_lt l c k low, room)

    pub module_gathered : gathered (l * c) bytes at ≡ get_or s.grid.cells k erased
    module_gathered =
        ap (gathered (l * c) bytes) place
        ∙ sym (get_or-map-range_with_len (λ i. gathered (l * c) bytes (stored_at l c i)) 0 (l * c) k k erased low (omega arith))

  pub module_cell : (line column at : ℕ) → on s.grid line column ≡ true → Stored s (line - 1) (column - 1) at → accepted (gathered (l * c) bytes at) ≡ cell_answer s.grid line column
  module_cell line column at t st = ap accepted (module_gathered (line - 1) (column - 1) at st) ∙ sym (cond-true _ _ _ t)

-- a line and column on the panel, counted from 0
pub record Low (g : Grid) (line column : ℕ) : Type 0 where
  pub test : on g line column ≡ true
  pub line_low : line - 1 < g.lines
  pub column_low : column - 1 < g.columns

pub counted_low : (g : Grid) (z : Size) (line column : ℕ) → z ≡ size_of g → true ≡ within z.lines z.columns line column → Low g line column
counted_low g z line column e t =
    let u : on g line column ≡ true = sym (rw e at t) in
    let w : Within g.lines g.columns line column = within_true _ _ _ _ u in
    record { test = u; line_low = omega (arith, w.line_low, w.line_high); column_low = omega (arith, w.column_low, w.column_high) }

-- the cells of a run in one line erased one after another: the next one is on the panel, and is erased with those before
pub record Next (s : Screen) (columns at i : ℕ) : Type 0 where
  pub line_low : at / columns < s.grid.lines
  pub column_low : at % columns + i < s.grid.columns
  pub is : at / columns * s.grid.columns + (at % columns + i) ≡ at + i

pub next : (s : Screen) (columns at count i : ℕ) → columns ≡ s.grid.columns → InLine s.grid at count → i < count → Next s columns at i
next s columns at count i e h low =
    let p = columns_some s.grid.lines s.grid.columns at (omega (arith, h.low, h.some)) in
    rw e (record {
      line_low = div_below at s.grid.columns s.grid.lines p (omega (arith, h.low, h.some));
      column_low = omega (arith, h.line);
      is = omega (arith, div-add-mod' at s.grid.columns);
    })

pub wiped_next : (s t u : Screen) (columns at count i : ℕ) → Sound s → columns ≡ s.grid.columns → InLine s.grid at count → i < count → t ≡ wipe_on s at i →
    u ≡ put_on t (at / columns * t.grid.columns + (at % columns + i)) erased → u ≡ wipe_on s at (i + 1)
wiped_next s t u columns at count i h e line low et eu =
    eu ∙ ap (λ z. put_on z (at / columns * z.grid.columns + (at % columns + i)) erased) et
    ∙ ap (λ k. put_on (wipe_on s at i) k erased) (next s columns at count i e line low).is
    ∙ ap (λ ys. with_grid s (with_cells s.grid ys)) (wiped_more s.grid.cells at i (omega (arith, h.count, line.low)))

-- every row of a plane holds a line
row_onto : (lines q : ℕ) → q < lines → (r : ℕ) × (r < lines) × (row_of lines r ≡ q)
row_onto lines q h =
    ⊎_elim
    (λ a. let r = 2 * q in
    (r, omega arith, ⊎_elim (λ e. let x = e.0 in let y = e.1 in omega arith) (λ e. let x = e.0 in absurd (omega arith)) (row_cases lines r)))
    (λ a. let r = 2 * (q - (lines + 1) / 2) + 1 in
    (r, omega arith, ⊎_elim (λ e. let x = e.0 in absurd (omega arith)) (λ e. let x = e.0 in let y = e.1 in omega arith) (row_cases lines r)))
    (cases_lt q ((lines + 1) / 2))

-- and every byte of a plane belongs to a cell
pub stored_onto : (l c j : ℕ) → j < l * c → (k : ℕ) × (k < l * c) × (stored_at l c k ≡ j)
stored_onto l c j h =
    let p = columns_some l c j h in
    let m = mod_below j c p in
    let o = row_onto l (j / c) (div_below j c l p h) in
    let k = o.0 * c + j % c in
    (k, index_low l c o.0 (j % c) o.1 m, stored_index l c o.0 (j % c) m ∙ ap (λ z. z * c + j % c) o.2 ∙ div-add-mod' j c)
