-- What a sheet of the code holds, and what a call makes of it.
use Rattle.std.specs.Prelude.{◌≡◌}
use Rattle.panel.specs.Screens.{Screen}
use Rattle.page.specs.declared.sheet.Sheet as code
use Rattle.page.specs.Sheets.{Sheet, Placed, placed, upon}

-- the state, and what the panel shows
abbrev pub held : {P : Type 0} {g : _} → (P → Screen) → code.Sheet P g → Placed
held shows s = placed s.state.now (shows s.panel)

-- an effect is done; what lies beyond the cells stays, and the state is still the one that was lent
abbrev pub Acts : {P : Type 0} {g : _} → (P → Screen) → (Sheet → Sheet) → code.Sheet P g → code.Sheet P g → Type 0
Acts shows f before after = (held shows after ≡ upon f (held shows before)) × (after.state.ghost_name ≡ before.state.ghost_name)
