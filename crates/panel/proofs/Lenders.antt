-- What a lender learns of its memory by what a panel on it shows.
use Rattle.std.proofs.Common.{◌≡◌, ℕ, ◌+◌, ◌-◌, ◌*◌, ◌/◌, ◌<◌, ◌≤◌, Bool, true, false, cond, List, [], ◌++◌, length, get_or, take, drop, replicate, sym, refl, ap, ◌∙◌, ⊎_elim, arith}
use Rattle.std.proofs.lemmas.List.FromFn.{get_or-map-range_with_len}
use Rattle.std.proofs.lemmas.List.{take-append-drop, ext_get_or, length-take-le, length-replicate, get_or-take, get_or-replicate}
use Rattle.std.proofs.lemmas.Bool.{cases_lt}
use Rattle.panel.specs.declared.cell.Cell.{Cell}
use Rattle.panel.specs.declared.list.ListPanel.{ListPanel}
use Rattle.panel.specs.declared.module.ModulePanel.{ModulePanel}
use Rattle.panel.specs.Grids.{erased}
use Rattle.panel.specs.Memories.{fitting}
use Rattle.panel.specs.Clears.{clear_on, bytes_cleared}
use Rattle.panel.specs.Screens.{Screen, Beyond, nothing, cells_past, bytes_past, around, lent}
use Rattle.panel.specs.Listed.{list_shows}
use Rattle.panel.specs.Moduled.{stored_at, gathered, module_cells, moduled_if, moduled, module_shows}
use Rattle.panel.proofs.Moduled.{stored_onto}

-- the loan by which a panel has its memory, and the cells or bytes past its own
abbrev pub loan_of : Beyond → ℕ
loan_of nothing = 0
loan_of (cells_past loan xs) = loan
loan_of (bytes_past loan xs) = loan
loan_of (around top left g b) = loan_of b
loan_of (lent loan b) = loan

abbrev pub cells_of : Beyond → List Cell
cells_of nothing = []
cells_of (cells_past loan xs) = xs
cells_of (bytes_past loan xs) = []
cells_of (around top left g b) = []
cells_of (lent loan b) = []

-- the memory of a list panel: its cells, and those past them
abbrev pub memory_of : Screen → List Cell
memory_of s = s.grid.cells ++ cells_of s.beyond

-- what is shown tells the memory
pub list_memory : (p : ListPanel) (s : Screen) → list_shows p ≡ s → (p.cells.ghost_name ≡ loan_of s.beyond) × (p.cells.now ≡ memory_of s)
list_memory p s e = (ap (λ z. loan_of z.beyond) e, sym (take-append-drop (p.size.lines * p.size.columns) p.cells.now) ∙ ap memory_of e)

-- the bytes past those of a module panel
abbrev pub bytes_of : Beyond → List ℕ
bytes_of nothing = []
bytes_of (cells_past loan xs) = []
bytes_of (bytes_past loan xs) = xs
bytes_of (around top left g b) = []
bytes_of (lent loan b) = []

-- the bytes of a module panel hold its cells, and then what lies past them
pub record Planes (s : Screen) (loan : ℕ) (bytes : List ℕ) : Type 0 where
  pub by : loan ≡ loan_of s.beyond
  pub room : 3 * (s.grid.lines * s.grid.columns) ≤ length bytes
  pub cells : module_cells s.grid.lines s.grid.columns bytes ≡ s.grid.cells
  pub past : drop (3 * (s.grid.lines * s.grid.columns)) bytes ≡ bytes_of s.beyond

-- what is shown tells the bytes
pub module_memory : (p : ModulePanel) (s : Screen) → module_shows p ≡ s → Planes s p.bytes.ghost_name p.bytes.now
module_memory p s e = rw (← e) (record { by = refl; room = p.room; cells = refl; past = refl })

-- planes that hold erased cells hold zeros
zero_cell : (l c : ℕ) (bytes : List ℕ) → module_cells l c bytes ≡ replicate (l * c) erased → (j : ℕ) → j < l * c → gathered (l * c) bytes j ≡ erased
zero_cell l c bytes e j h =
    let o = stored_onto l c j h in
    ap (gathered (l * c) bytes) (sym o.2)
    ∙ sym (get_or-map-range_with_len (λ k. gathered (l * c) bytes (stored_at l c k)) 0 (l * c) o.0 o.0 erased o.1 (omega arith))
    ∙ ap (λ xs. get_or xs o.0 erased) e ∙ get_or-replicate (l * c) o.0 erased erased o.1

zero_byte : (n : ℕ) (bytes : List ℕ) → ((j : ℕ) → j < n → gathered n bytes j ≡ erased) → (i : ℕ) → i < 3 * n → get_or bytes i 0 ≡ 0
zero_byte n bytes all i h =
    ⊎_elim
    (λ a. ap (λ x. x.code) (all i a))
    (λ a. ⊎_elim
    (λ b. let e : n + (i - n) ≡ i = omega arith in
    let z : get_or bytes (n + (i - n)) 0 + 256 * get_or bytes (2 * n + (i - n)) 0 ≡ 0 = ap (λ x. x.rendition) (all (i - n) (omega arith)) in
    ap (λ k. get_or bytes k 0) (sym e) ∙ omega arith)
    (λ b. let e : 2 * n + (i - 2 * n) ≡ i = omega arith in
    let z : get_or bytes (n + (i - 2 * n)) 0 + 256 * get_or bytes (2 * n + (i - 2 * n)) 0 ≡ 0 = ap (λ x. x.rendition) (all (i - 2 * n) (omega arith)) in
    ap (λ k. get_or bytes k 0) (sym e) ∙ omega arith)
    (cases_lt i (2 * n)))
    (cases_lt i n)

zero_planes : (l c : ℕ) (bytes : List ℕ) → 3 * (l * c) ≤ length bytes → module_cells l c bytes ≡ replicate (l * c) erased → take (3 * (l * c)) bytes ≡ replicate (3 * (l * c)) 0
zero_planes l c bytes room e =
    let n = 3 * (l * c) in
    ext_get_or 0 _ _ (length-take-le n bytes room ∙ sym (length-replicate n 0)) (λ i h.
    let low : i < n = omega (arith, length-take-le n bytes room) in
    get_or-take n bytes i 0 low ∙ zero_byte (l * c) bytes (zero_cell l c bytes e) i low ∙ sym (get_or-replicate n i 0 0 low))

planes_cleared : (b : Bool) (loan l c name : ℕ) (old bytes : List ℕ) → Planes (clear_on (moduled_if b loan l c old)) name bytes → (name ≡ loan) × (bytes ≡ cond b (replicate (3 * (l * c)) 0 ++ drop (3 * (l * c)) old) old)
planes_cleared true loan l c name old bytes h =
    (h.by, sym (take-append-drop (3 * (l * c)) bytes) ∙ ap (λ xs. xs ++ drop (3 * (l * c)) bytes) (zero_planes l c bytes h.room h.cells) ∙ ap (λ xs. replicate (3 * (l * c)) 0 ++ xs) h.past)
planes_cleared false loan l c name old bytes h = (h.by, h.past)

pub module_cleared : (p : ModulePanel) (loan l c : ℕ) (old : List ℕ) → module_shows p ≡ clear_on (moduled loan l c old) → (p.bytes.ghost_name ≡ loan) × (p.bytes.now ≡ bytes_cleared l c old)
module_cleared p loan l c old e = planes_cleared (fitting l c (length old / 3)) loan l c p.bytes.ghost_name old p.bytes.now (module_memory p _ e)
