-- No control function looks at what is owed.
use Rattle.std.proofs.Common.{◌≡◌, ℕ, Bool, true, false, cond, ltb, List, [], ◌∷◌, None, sym, refl, ap, ◌∙◌}
use Rattle.panel.specs.declared.shifting.Direction.TheVariants as way
use Rattle.reader.specs.Functions.{Parameter, Function}
use Rattle.reader.specs.Steps.{step}
use Rattle.control.specs.declared.function.Control.{Control}
use Rattle.control.specs.declared.function.Control.TheVariants as c
use Rattle.control.specs.declared.function.Extent.TheVariants as extent
use Rattle.control.specs.declared.function.Clearing.TheVariants as clearing
use Rattle.control.specs.Decoding.{decoded, values}
use Rattle.page.specs.Sheets.{Sheet, on_state, owing, reading}
use Rattle.page.specs.Moves.{up, down, to_first_column}
use Rattle.page.specs.Cells.{moved, line_rest, set_character, scroll}
use Rattle.page.specs.Effects.{effect, does, does_all, stepped}

-- nothing owed
abbrev pub free : Sheet → Sheet
free x = on_state (owing None) x

either : (b : Bool) (x y x' y' : Sheet) → free x ≡ free x' → free y ≡ free y' → free (cond b x y) ≡ free (cond b x' y')
either true x y x' y' p q = p
either false x y x' y' p q = q

feed_blind : (x : Sheet) → free (effect c.LineFeed [] (free x)) ≡ free (effect c.LineFeed [] x)
feed_blind x = either (ltb x.state.line x.state.lines) (on_state (down 1) (free x)) (scroll way.Up 1 (free x)) (on_state (down 1) x) (scroll way.Up 1 x) refl refl

set_blind : (b : Bool) (code : ℕ) (x : Sheet) → free (set_character code (cond b (moved line_rest way.Right 1 (free x)) (free x))) ≡ free (set_character code (cond b (moved line_rest way.Right 1 x) x))
set_blind true code x = refl
set_blind false code x = refl

effect_blind : (f : Control) (ps : List Parameter) (x : Sheet) → free (effect f ps (free x)) ≡ free (effect f ps x)
effect_blind (c.Character code) ps x = set_blind x.state.modes.insertion code x
effect_blind c.Nothing ps x = refl
effect_blind c.Reset ps x = refl
effect_blind (c.Up n) ps x = refl
effect_blind (c.Down n) ps x = refl
effect_blind (c.Right n) ps x = refl
effect_blind (c.Left n) ps x = refl
effect_blind (c.ToColumn n) ps x = refl
effect_blind (c.ToLine n) ps x = refl
effect_blind (c.GoTo l n) ps x = refl
effect_blind c.ToFirstColumn ps x = refl
effect_blind (c.EraseInPage extent.ToEnd) ps x = refl
effect_blind (c.EraseInPage extent.FromStart) ps x = refl
effect_blind (c.EraseInPage extent.All) ps x = refl
effect_blind (c.EraseInLine extent.ToEnd) ps x = refl
effect_blind (c.EraseInLine extent.FromStart) ps x = refl
effect_blind (c.EraseInLine extent.All) ps x = refl
effect_blind (c.EraseCharacters n) ps x = refl
effect_blind (c.InsertCharacters n) ps x = refl
effect_blind (c.DeleteCharacters n) ps x = refl
effect_blind (c.InsertLines n) ps x = refl
effect_blind (c.DeleteLines n) ps x = refl
effect_blind (c.ScrollUp n) ps x = refl
effect_blind (c.ScrollDown n) ps x = refl
effect_blind (c.ScrollLeft n) ps x = refl
effect_blind (c.ScrollRight n) ps x = refl
effect_blind (c.Tab n) ps x = refl
effect_blind (c.BackTab n) ps x = refl
effect_blind (c.LineTab n) ps x = refl
effect_blind c.SetColumnStop ps x = refl
effect_blind c.SetLineStop ps x = refl
effect_blind (c.Clear clearing.ColumnStop) ps x = refl
effect_blind (c.Clear clearing.LineStop) ps x = refl
effect_blind (c.Clear clearing.AllColumnStops) ps x = refl
effect_blind (c.Clear clearing.AllLineStops) ps x = refl
effect_blind (c.Clear clearing.AllStops) ps x = refl
effect_blind c.SetModes ps x = refl
effect_blind c.ResetModes ps x = refl
effect_blind c.SelectRendition ps x = refl
effect_blind (c.Request r) ps x = refl
effect_blind c.LineFeed ps x = feed_blind x
effect_blind c.ReverseLineFeed ps x = either (ltb 1 x.state.line) (on_state (up 1) (free x)) (scroll way.Down 1 (free x)) (on_state (up 1) x) (scroll way.Down 1 x) refl refl
effect_blind c.NextLine ps x = feed_blind (on_state to_first_column x)

all_blind : (fs : List Function) (x : Sheet) → free (does_all fs (free x)) ≡ free (does_all fs x)
all_blind [] x = refl
all_blind (f ∷ fs) x =
    sym (all_blind fs (does f (free x))) ∙ ap (λ (z : Sheet). free (does_all fs z)) (effect_blind (decoded f) (values f) x) ∙ all_blind fs (does f x)

pub stepped_blind : (x : Sheet) (b : ℕ) → free (stepped (free x) b) ≡ free (stepped x b)
unfolding stepped
stepped_blind x b = let o = step x.state.standing b in all_blind o.performs (on_state (reading o.standing) x)
