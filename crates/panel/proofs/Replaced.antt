-- A grid of which some cells are replaced by new ones.
use Rattle.std.proofs.Common.{◌≡◌, ℕ, ◌+◌, ◌-◌, ◌*◌, ◌<◌, ◌≤◌, Bool, true, false, cond, List, length, get_or, set, sym, ap, ◌∙◌, ⊎_elim, arith}
use Rattle.std.proofs.lemmas.List.FromFn.{length-map-range_with_len, get_or-map-range_with_len}
use Rattle.std.proofs.lemmas.Bool.{cases_eq, cases_lt, cases_Bool, cond-true, cond-false}
use Rattle.std.proofs.lemmas.List.{ext_get_or, length-set, get_or-set_same, get_or-set_other, get_or_past}
use Rattle.panel.specs.declared.cell.Cell.{Cell}
use Rattle.panel.specs.Grids.{Grid, Whole, erased, with_cells, replaced, wiped}
use Rattle.panel.proofs.Wiped.{get_or_wiped_out}

-- the cell at an index, replaced or not
abbrev pub choice : (ℕ → Bool) → (ℕ → Cell) → Grid → ℕ → Cell
choice here new g k = cond (here k) (new k) (get_or g.cells k erased)

module _ (here : ℕ → Bool) (new : ℕ → Cell) (g : Grid) where
  pub length_replaced : length (replaced here new g).cells ≡ g.lines * g.columns
  length_replaced = length-map-range_with_len (choice here new g) 0 (g.lines * g.columns)

  pub get_or_replaced : (k : ℕ) → k < g.lines * g.columns → get_or (replaced here new g).cells k erased ≡ choice here new g k
  get_or_replaced k l = get_or-map-range_with_len (choice here new g) 0 (g.lines * g.columns) k k erased l (omega arith)

  pub replaced_in : (k : ℕ) → k < g.lines * g.columns → here k ≡ true → get_or (replaced here new g).cells k erased ≡ new k
  replaced_in k l t = get_or_replaced k l ∙ cond-true (here k) (new k) (get_or g.cells k erased) t

  pub replaced_out : (k : ℕ) → Whole g → here k ≡ false → get_or (replaced here new g).cells k erased ≡ get_or g.cells k erased
  replaced_out k w e =
      ⊎_elim
      (λ l. get_or_replaced k l ∙ cond-false (here k) (new k) (get_or g.cells k erased) e)
      (λ p. get_or_past (replaced here new g).cells k erased (omega (arith, length_replaced)) ∙ sym (get_or_past g.cells k erased (omega (arith, w.count))))
      (cases_lt k (g.lines * g.columns))

  -- cells that are, one by one, those of the replaced grid
  pub is_replaced : (ys : List Cell) → length ys ≡ g.lines * g.columns → ((k : ℕ) → k < g.lines * g.columns → get_or ys k erased ≡ choice here new g k) → with_cells g ys ≡ replaced here new g
  is_replaced ys n each =
      ap (with_cells g) (ext_get_or erased ys _ (n ∙ sym length_replaced) (λ k l. each k (omega (arith, n)) ∙ sym (get_or_replaced k (omega (arith, n)))))

-- one more cell replaced
pub replaced_set : (here more : ℕ → Bool) (new : ℕ → Cell) (g : Grid) (k : ℕ) → k < g.lines * g.columns → more k ≡ true → ((j : ℕ) → (j ≡ k → ⊥) → more j ≡ here j) →
    with_cells g (set (replaced here new g).cells k (new k)) ≡ replaced more new g
replaced_set here more new g k l t same =
    let xs = (replaced here new g).cells in
    let n = length_replaced here new g in
    is_replaced more new g (set xs k (new k)) (length-set xs k (new k) ∙ n) (λ j m.
    ⊎_elim
    (λ e. ap (λ i. get_or (set xs k (new k)) i erased) e ∙ get_or-set_same xs k (new k) erased (omega arith) ∙ sym (ap (choice more new g) e ∙ cond-true (more k) (new k) (get_or g.cells k erased) t))
    (λ ne. get_or-set_other xs k j (new k) erased ne ∙ get_or_replaced here new g j m ∙ ap (λ b. cond b (new j) (get_or g.cells j erased)) (sym (same j ne)))
    (cases_eq j k))

-- where the new cells do not hang on the old ones, only those that stay count
pub replaced_same : (here : ℕ → Bool) (new : ℕ → Cell) (g : Grid) (xs ys : List Cell) → ((k : ℕ) → here k ≡ false → get_or xs k erased ≡ get_or ys k erased) →
    replaced here new (with_cells g xs) ≡ replaced here new (with_cells g ys)
replaced_same here new g xs ys same =
    is_replaced here new (with_cells g ys) (replaced here new (with_cells g xs)).cells (length_replaced here new (with_cells g xs)) (λ k l.
    get_or_replaced here new (with_cells g xs) k l
    ∙ ⊎_elim
    (λ t. cond-true (here k) (new k) _ t ∙ sym (cond-true (here k) (new k) _ t))
    (λ f. cond-false (here k) (new k) _ f ∙ same k f ∙ sym (cond-false (here k) (new k) _ f))
    (cases_Bool (here k)))

differ : (c : ℕ → Bool) (j k : ℕ) → c j ≡ true → c k ≡ false → k ≡ j → ⊥
differ c j k t f e = let z : true ≡ false = sym t ∙ ap c (sym e) ∙ f in let w : ◌≡◌ {A = ℕ} 0 1 = cc in omega arith

-- a cell set, and a run erased, among those that are replaced
pub replaced_under_set : (here : ℕ → Bool) (new : ℕ → Cell) (g : Grid) (xs : List Cell) (j : ℕ) (x : Cell) → here j ≡ true → replaced here new (with_cells g (set xs j x)) ≡ replaced here new (with_cells g xs)
replaced_under_set here new g xs j x t = replaced_same here new g (set xs j x) xs (λ k f. get_or-set_other xs j k x erased (differ here j k t f))

pub replaced_under_wiped : (here : ℕ → Bool) (new : ℕ → Cell) (g : Grid) (xs : List Cell) (j m : ℕ) → j + m ≤ length xs → ((t : ℕ) → t < m → here (j + t) ≡ true) →
    replaced here new (with_cells g (wiped xs j m)) ≡ replaced here new (with_cells g xs)
replaced_under_wiped here new g xs j m l all =
    replaced_same here new g (wiped xs j m) xs (λ k f. get_or_wiped_out xs j m k l (λ a z. differ here (j + (k - j)) k (all (k - j) (omega arith)) f (omega arith)))
