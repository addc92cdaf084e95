-- Lines and columns, and the index of each in reading order.
use Rattle.std.proofs.Common.{◌≡◌, ℕ, zero, suc, ◌+◌, ◌-◌, ◌*◌, ◌<◌, ◌≤◌, Bool, true, false, cond, ◌&&◌, leb, Some, None, Option, Ok, Result, sym, refl, ap, ◌∙◌, mul-zero, arith}
use Rattle.std.proofs.lemmas.Nat.{mul-add-lt}
use Rattle.std.proofs.lemmas.Bool.{and_parts, leb-true, le-leb, and_from}
use Rattle.std.proofs.lemmas.Bool.Decides.{nat_tests}
use Rattle.std.specs.Bool.{then_some}
use Rattle.std.specs.Result.{result_ok}
use Rattle.panel.specs.declared.size.Size.{Size}
use Rattle.panel.specs.Grids.{Grid, size_of, within, index_in, index, on, run_on}
use Rattle.panel.specs.Places.{located, run_located}

-- a line and column within so many lines and columns
pub record Within (lines columns line column : ℕ) : Type 0 where
  pub line_low : 1 ≤ line
  pub line_high : line ≤ lines
  pub column_low : 1 ≤ column
  pub column_high : column ≤ columns

pub within_true : (lines columns line column : ℕ) → within lines columns line column ≡ true → Within lines columns line column
within_true lines columns line column e =
    let h = and_parts _ _ e in
    let a = and_parts _ _ h.0 in
    let b = and_parts _ _ h.1 in
    record { line_low = leb-true _ _ a.0; line_high = leb-true _ _ a.1; column_low = leb-true _ _ b.0; column_high = leb-true _ _ b.1 }

pub true_within : (lines columns line column : ℕ) → Within lines columns line column → within lines columns line column ≡ true
true_within lines columns line column w =
    and_from _ _ (and_from _ _ (le-leb _ _ w.line_low) (le-leb _ _ w.line_high)) (and_from _ _ (le-leb _ _ w.column_low) (le-leb _ _ w.column_high))

pub index_lt : (lines columns line column : ℕ) → Within lines columns line column → index_in columns line column < lines * columns
index_lt lines columns line column w = omega (arith, mul-add-lt (line - 1) columns (column - 1) lines (omega arith) (omega arith))

-- where there is a cell, there are columns
pub columns_some : (lines columns k : ℕ) → k < lines * columns → 0 < columns
columns_some lines zero k h = absurd (omega (arith, mul-zero lines))
columns_some lines (suc c) k h = omega arith

-- a cell of a grid, and the place of a line and column in it
pub record At (g : Grid) (line column k : ℕ) : Type 0 where
  pub test : on g line column ≡ true
  pub is : index g line column ≡ k
  pub low : k < g.lines * g.columns

pub record Run (g : Grid) (line column count k : ℕ) : Type 0 where
  pub test : run_on g line column count ≡ true
  pub is : index g line column ≡ k
  pub low : k + count ≤ g.lines * g.columns

-- what was found is what is asked for
found : (b : Bool) (i k : ℕ) → Some k ≡ cond b (Some i) None → (b ≡ true) × (i ≡ k)
found true i k e = (refl, let q : Some k ≡ Some i = e in cc)
found false i k e = let q : Some k ≡ None = e in let z : ◌≡◌ {A = ℕ} 0 1 = cc in absurd (omega arith)

pub located_at : (g : Grid) (z : Size) (line column k : ℕ) → z ≡ size_of g → Some k ≡ located z line column → At g line column k
located_at g z line column k p e =
    let h = found (on g line column) (index g line column) k (rw p at e) in
    let v = h.1 in
    record { test = h.0; is = v; low = rw (← v) (index_lt g.lines g.columns line column (within_true _ _ _ _ h.0)) }

pub indexed_at : (g : Grid) (z : Size) (line column k : ℕ) → z ≡ size_of g → true ≡ within z.lines z.columns line column → k ≡ index_in z.columns line column → At g line column k
indexed_at g z line column k p t e = located_at g z line column k p (ap Some e ∙ ap (λ b. cond b (Some (index_in z.columns line column)) None) t)

pub located_run : (g : Grid) (z : Size) (line column count k : ℕ) → z ≡ size_of g → Some k ≡ run_located z line column count → Run g line column count k
located_run g z line column count k p e =
    let h = found (run_on g line column count) (index g line column) k (rw p at e) in
    let v = h.1 in
    let w : index g line column + count ≤ g.lines * g.columns = leb-true _ _ (and_parts (on g line column) _ h.0).1 in
    record { test = h.0; is = v; low = omega arith }

-- a place that was found is within the size
pub found_low : (z : Size) (line column k : ℕ) → Some k ≡ located z line column → k < z.lines * z.columns
found_low z line column k e =
    let h = found (within z.lines z.columns line column) (index_in z.columns line column) k e in
    rw (← h.1) (index_lt z.lines z.columns line column (within_true _ _ _ _ h.0))

then_some_cond : (b : Bool) (k : ℕ) → then_some b k ≡ cond b (Some k) None
then_some_cond true k = refl
then_some_cond false k = refl

-- and so is a run from there, if it ends within
pub run_found : (z : Size) (line column count k : ℕ) → Some k ≡ located z line column → then_some (leb count (z.lines * z.columns - k)) k ≡ run_located z line column count
run_found z line column count k e =
    let h = found (within z.lines z.columns line column) (index_in z.columns line column) k e in
    let v = h.1 in
    let low = found_low z line column k e in
    let n = z.lines * z.columns in
    let t : leb count (n - k) ≡ leb (index_in z.columns line column + count) n = rw v (grind (arith, nat_tests)) in
    ap (λ b. then_some b k) t ∙ then_some_cond _ k
    ∙ ap (λ i. cond (leb (index_in z.columns line column + count) n) (Some i) None) (sym v)
    ∙ ap (λ b. cond (b && leb (index_in z.columns line column + count) n) (Some (index_in z.columns line column)) None) (sym h.0)

-- what was looked for where a call goes on after `?`, and where it stops
pub goes_on : {A E : Type 0} (o : Option A) (r : Result A E) (k : A) → r ≡ Ok k → o ≡ result_ok r → Some k ≡ o
goes_on o r k was part = sym (part ∙ ap result_ok was)
