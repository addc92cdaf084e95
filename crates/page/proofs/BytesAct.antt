-- Bytes do to a page what the functions that they perform do, one after the other.
use Rattle.std.proofs.Common.{◌≡◌, ℕ, Bool, true, false, cond, ltb, List, [], ◌∷◌, ◌++◌, sym, refl, ap, ◌∙◌}
use Rattle.panel.specs.declared.shifting.Direction.TheVariants as way
use Rattle.reader.specs.Functions.{Parameter, Function}
use Rattle.reader.specs.Steps.{Standing, rest, step, standing_after, performed}
use Rattle.reader.proofs.Whole.{cuts_perform}
use Rattle.control.specs.declared.function.Control.{Control}
use Rattle.control.specs.declared.function.Control.TheVariants as c
use Rattle.control.specs.declared.function.Extent.TheVariants as extent
use Rattle.control.specs.declared.function.Clearing.TheVariants as clearing
use Rattle.control.specs.Decoding.{decoded, values}
use Rattle.page.specs.Sheets.{Sheet, on_state, reading}
use Rattle.page.specs.Moves.{up, down, to_first_column}
use Rattle.page.specs.Cells.{moved, line_rest, set_character, scroll}
use Rattle.page.specs.Effects.{begun, effect, does, does_all, stepped, run}
use Rattle.page.specs.Laws.{ShowsItems}
use Rattle.page.proofs.Stepping.{stepped_standing}

-- the reader put somewhere
abbrev put : Standing → Sheet → Sheet
put a x = on_state (reading a) x

module _ (t a : Standing) where
  either : (b : Bool) (x y x' y' : Sheet) → put t x ≡ put t x' → put t y ≡ put t y' → put t (cond b x y) ≡ put t (cond b x' y')
  either true x y x' y' p q = p
  either false x y x' y' p q = q

  feed_blind : (x : Sheet) → put t (effect c.LineFeed [] (put a x)) ≡ put t (effect c.LineFeed [] x)
  feed_blind x = either (ltb x.state.line x.state.lines) (on_state (down 1) (put a x)) (scroll way.Up 1 (put a x)) (on_state (down 1) x) (scroll way.Up 1 x) refl refl

  set_blind : (b : Bool) (code : ℕ) (x : Sheet) → put t (set_character code (cond b (moved line_rest way.Right 1 (put a x)) (put a x))) ≡ put t (set_character code (cond b (moved line_rest way.Right 1 x) x))
  set_blind true code x = refl
  set_blind false code x = refl

  -- no control function looks at the reader's standing
  effect_blind : (f : Control) (ps : List Parameter) (x : Sheet) → put t (effect f ps (put a x)) ≡ put t (effect f ps x)
  effect_blind (c.Character code) ps x = set_blind x.state.modes.insertion code x
  effect_blind c.Nothing ps x = refl
  effect_blind c.Reset ps x = refl
  effect_blind (c.Up n) ps x = refl
  effect_blind (c.Down n) ps x = refl
  effect_blind (c.Right n) ps x = refl
  effect_blind (c.Left n) ps x = refl
  effect_blind (c.ToColumn n) ps x = refl
  effect_blind (c.ToLine n) ps x = refl
  effect_blind (c.GoTo l n) ps x = refl
  effect_blind c.ToFirstColumn ps x = refl
  effect_blind (c.EraseInPage extent.ToEnd) ps x = refl
  effect_blind (c.EraseInPage extent.FromStart) ps x = refl
  effect_blind (c.EraseInPage extent.All) ps x = refl
  effect_blind (c.EraseInLine extent.ToEnd) ps x = refl
  effect_blind (c.EraseInLine extent.FromStart) ps x = refl
  effect_blind (c.EraseInLine extent.All) ps x = refl
  effect_blind (c.EraseCharacters n) ps x = refl
  effect_blind (c.InsertCharacters n) ps x = refl
  effect_blind (c.DeleteCharacters n) ps x = refl
  effect_blind (c.InsertLines n) ps x = refl
  effect_blind (c.DeleteLines n) ps x = refl
  effect_blind (c.ScrollUp n) ps x = refl
  effect_blind (c.ScrollDown n) ps x = refl
  effect_blind (c.ScrollLeft n) ps x = refl
  effect_blind (c.ScrollRight n) ps x = refl
  effect_blind (c.Tab n) ps x = refl
  effect_blind (c.BackTab n) ps x = refl
  effect_blind (c.LineTab n) ps x = refl
  effect_blind c.SetColumnStop ps x = refl
  effect_blind c.SetLineStop ps x = refl
  effect_blind (c.Clear clearing.ColumnStop) ps x = refl
  effect_blind (c.Clear clearing.LineStop) ps x = refl
  effect_blind (c.Clear clearing.AllColumnStops) ps x = refl
  effect_blind (c.Clear clearing.AllLineStops) ps x = refl
  effect_blind (c.Clear clearing.AllStops) ps x = refl
  effect_blind c.SetModes ps x = refl
  effect_blind c.ResetModes ps x = refl
  effect_blind c.SelectRendition ps x = refl
  effect_blind (c.Request r) ps x = refl
  effect_blind c.LineFeed ps x = feed_blind x
  effect_blind c.ReverseLineFeed ps x = either (ltb 1 x.state.line) (on_state (up 1) (put a x)) (scroll way.Down 1 (put a x)) (on_state (up 1) x) (scroll way.Down 1 x) refl refl
  effect_blind c.NextLine ps x = feed_blind (on_state to_first_column x)

all_blind : (t a : Standing) (fs : List Function) (x : Sheet) → put t (does_all fs (put a x)) ≡ put t (does_all fs x)
all_blind t a [] x = refl
all_blind t a (f ∷ fs) x =
    let y = does f (put a x) in
    sym (all_blind t rest fs y) ∙ ap (λ (z : Sheet). put t (does_all fs z)) (effect_blind rest a (decoded f) (values f) x) ∙ all_blind t rest fs (does f x)

pub does_append : (fs gs : List Function) (x : Sheet) → does_all (fs ++ gs) x ≡ does_all gs (does_all fs x)
does_append [] gs x = refl
does_append (f ∷ fs) gs x = does_append fs gs (does f x)

-- bytes are what they perform, with the reader where they lead it
pub bytes_act : (x : Sheet) (bs : List ℕ) → run x bs ≡ on_state (reading (standing_after x.state.standing bs)) (does_all (performed x.state.standing bs) x)
unfolding run stepped
bytes_act x [] = refl
bytes_act x (b ∷ bs) =
    let s = x.state.standing in
    let o = step s b in
    let t = standing_after o.standing bs in
    let gs = performed o.standing bs in
    bytes_act (stepped x b) bs
    ∙ (λ i. put (standing_after (stepped_standing x b i) bs) (does_all (performed (stepped_standing x b i) bs) (stepped x b)))
    ∙ ap (put t) (sym (does_append o.performs gs (put o.standing x)))
    ∙ all_blind t o.standing (o.performs ++ gs) x

pub shows_items : ShowsItems
shows_items g ps bs c = bytes_act (begun g) bs ∙ ap (λ (fs : List Function). on_state (reading (standing_after rest bs)) (does_all fs (begun g))) (cuts_perform 0 ps bs c)
