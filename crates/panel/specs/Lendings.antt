-- What a lent panel shows: what it shows to its owner, and the loan.
use Rattle.std.specs.Prelude.{ℕ}
use Rattle.std.specs.Borrow.{MutBor}
use Rattle.panel.specs.Screens.{Screen, Sound, lent}

-- a screen on loan
abbrev pub on_loan : ℕ → Screen → Screen
on_loan loan s = record { grid = s.grid; beyond = lent loan s.beyond }

-- a panel behind a reference
abbrev pub lent_shows : {P : Type 0} → (P → Screen) → MutBor P → Screen
lent_shows shows r = on_loan r.ghost_name (shows r.now)

-- what it shows is sound
pub lent_sound : {P : Type 0} (shows : P → Screen) → ((p : P) → Sound (shows p)) → (r : MutBor P) → Sound (lent_shows shows r)
lent_sound shows sound r = sound r.now
