-- Places found in a size: the index of a line and column, and of a run of cells.
use Rattle.std.specs.Prelude.{ℕ, cond, Some, None, Option}
use Rattle.panel.specs.declared.size.Size.{Size}
use Rattle.panel.specs.Grids.{within, run_within, index_in}

-- the index of a line and column that are within a size
abbrev pub located : Size → ℕ → ℕ → Option ℕ
located z line column = cond (within z.lines z.columns line column) (Some (index_in z.columns line column)) None

-- the index of a line and column from which a run of cells is within a size
abbrev pub run_located : Size → ℕ → ℕ → ℕ → Option ℕ
run_located z line column count = cond (run_within z.lines z.columns line column count) (Some (index_in z.columns line column)) None
