-- The laws of deliveries.
use Rattle.std.specs.Prelude.{◌≡◌, ℕ, ◌≤◌, true, false, List, ◌++◌, length}
use Rattle.panel.specs.Grids.{Grid}
use Rattle.reader.specs.Steps.{rest, standing_after}
use Rattle.reader.specs.Performs.{Part, Cut, cut_performs}
use Rattle.page.specs.Sheets.{on_state, reading}
use Rattle.page.specs.Effects.{begun, does_all, run}
use Rattle.page.specs.Plain.{Plain, known, owes, taken, delivered}

-- a delivery in two parts is the delivery of the whole, while the first part leaves nothing owed:
-- the same bytes are taken in all, and they leave the same page
abbrev pub DeliversInParts : Type 0
DeliversInParts =
    (x : Plain) (xs ys : List ℕ) → length (xs ++ ys) ≤ 4096 → known x ≡ true → owes x ≡ false → owes (delivered xs x) ≡ false
    → (taken x (xs ++ ys) ≡ taken x xs ++ taken (delivered xs x) ys) × (delivered (xs ++ ys) x ≡ delivered ys (delivered xs x))

-- bytes make of a page that has begun what the functions of their items make of it, one after the other,
-- and leave the reader where they lead it
abbrev pub ShowsItems : Type 0
ShowsItems =
    (g : Grid) (ps : List Part) (bs : List ℕ) (c : Cut 0 ps bs)
    → run (begun g) bs ≡ on_state (reading (standing_after rest bs)) (does_all (cut_performs 0 ps bs c) (begun g))
