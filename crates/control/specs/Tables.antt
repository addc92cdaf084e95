-- Tables: what stands at a key.
use Rattle.std.specs.Prelude.{ℕ, cond, List, [], ◌∷◌, ◌==◌}

-- the entry at a key, else the last argument
abbrev pub pick : {A : Type 0} → ℕ → List (ℕ × A) → A → A
pick k [] d = d
pick k (e ∷ t) d = cond (k == e.0) e.1 (pick k t d)
