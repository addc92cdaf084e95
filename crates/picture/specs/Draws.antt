-- Functions and parameters laid as bytes.
use Rattle.std.specs.Prelude.{ℕ, List, map, Some}
use Rattle.reader.specs.Functions.{Function}
use Rattle.picture.specs.Writing.{more_bytes, all_written}
use Rattle.picture.specs.Tape.{Tape, Lays, Leads}

-- from one tape, by these functions, to the other
pub record Draws (t : Tape) (fs : List Function) (u : Tape) : Type 0 where
  pub lays : Lays t (all_written fs) u

-- what is left to draw leads where all of it does
pub record Leaves (u : Tape) (left : List Function) (t : Tape) (fs : List Function) : Type 0 where
  pub leads : Leads u (all_written left) t (all_written fs)

-- numbers laid, each after a separator
pub record Adds (t : Tape) (ns : List ℕ) (u : Tape) : Type 0 where
  pub lays : Lays t (more_bytes (map Some ns)) u
