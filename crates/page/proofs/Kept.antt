-- What every control function keeps: the sizes, and but for RIS and DSR the reader's standing and what is owed.
use Rattle.std.proofs.Common.{◌≡◌, ℕ, ◌+◌, ◌-◌, min, Bool, true, false, cond, ltb, List, Some, refl, ap, ◌∙◌}
use Rattle.std.proofs.lemmas.Bool.{cond_both}
use Rattle.panel.specs.declared.cell.Cell.{Cell}
use Rattle.panel.specs.declared.rectangle.Rectangle.{Rectangle}
use Rattle.panel.specs.declared.shifting.Direction.{Direction}
use Rattle.panel.specs.declared.shifting.Direction.TheVariants as way
use Rattle.panel.specs.Grids.{Grid, erased, on, run_on, with_cells, after_set, after_erase}
use Rattle.panel.specs.Rectangles.{inside}
use Rattle.panel.specs.Shifts.{shifted, after_shift}
use Rattle.reader.specs.Functions.{Parameter}
use Rattle.control.specs.declared.rendition.Rendition.{Rendition}
use Rattle.control.specs.Renditions.{number}
use Rattle.control.specs.declared.function.Control.{Control}
use Rattle.control.specs.declared.function.Control.TheVariants as c
use Rattle.control.specs.declared.function.Report.{Report}
use Rattle.control.specs.declared.function.Extent.{Extent}
use Rattle.control.specs.declared.function.Extent.TheVariants as extent
use Rattle.control.specs.declared.function.Clearing.{Clearing}
use Rattle.control.specs.declared.function.Clearing.TheVariants as clearing
use Rattle.page.specs.Sheets.{State, Sheet, on_state, showing, owing}
use Rattle.page.specs.Moves.{up, down, to_first_column}
use Rattle.page.specs.Stops.{cleared}
use Rattle.page.specs.Cells.{here, cells_in, to_edge, erased_run, moved, line_rest, page_rest, all_of, erase_in_page, erase_in_line, set_character, scroll, line_feed}
use Rattle.page.specs.Effects.{begun, effect}
use Rattle.page.proofs.Every.{Every, every_set, every_erase, every_shift}

-- the control functions that request a reply, and that which sets a character
pub data Sort : Type 0 where
  ordinary asking drawing : Sort

unfoldable pub sort : Control → Sort
sort c.Nothing = ordinary
sort (c.Character b) = drawing
sort c.Reset = ordinary
sort (c.Up n) = ordinary
sort (c.Down n) = ordinary
sort (c.Right n) = ordinary
sort (c.Left n) = ordinary
sort (c.ToColumn n) = ordinary
sort (c.ToLine n) = ordinary
sort (c.GoTo l n) = ordinary
sort c.ToFirstColumn = ordinary
sort (c.EraseInPage e) = ordinary
sort (c.EraseInLine e) = ordinary
sort (c.EraseCharacters n) = ordinary
sort (c.InsertCharacters n) = ordinary
sort (c.DeleteCharacters n) = ordinary
sort (c.InsertLines n) = ordinary
sort (c.DeleteLines n) = ordinary
sort (c.ScrollUp n) = ordinary
sort (c.ScrollDown n) = ordinary
sort (c.ScrollLeft n) = ordinary
sort (c.ScrollRight n) = ordinary
sort (c.Tab n) = ordinary
sort (c.BackTab n) = ordinary
sort (c.LineTab n) = ordinary
sort c.SetColumnStop = ordinary
sort c.SetLineStop = ordinary
sort (c.Clear w) = ordinary
sort c.SetModes = ordinary
sort c.ResetModes = ordinary
sort c.SelectRendition = ordinary
sort (c.Request r) = asking
sort c.LineFeed = ordinary
sort c.ReverseLineFeed = ordinary
sort c.NextLine = ordinary

abbrev pub is_asking : Sort → Bool
is_asking ordinary = false
is_asking asking = true
is_asking drawing = false

abbrev pub asks : Control → Bool
asks f = is_asking (sort f)

-- a set, an erasure and a shift keep a grid's size
pub record SameSize (g h : Grid) : Type 0 where
  pub lines : h.lines ≡ g.lines
  pub columns : h.columns ≡ g.columns

same_size : {g : Grid} → SameSize g g
same_size = record { lines = refl; columns = refl }

pub set_size : (g : Grid) (l n : ℕ) (x : Cell) → SameSize g (after_set g l n x)
set_size g l n x = cond_both (on g l n) (with_cells g _) g (SameSize g) (λ e. record { lines = refl; columns = refl }) (λ e. same_size)

pub erase_size : (g : Grid) (l n count : ℕ) → SameSize g (after_erase g l n count)
erase_size g l n count = cond_both (run_on g l n count) (with_cells g _) g (SameSize g) (λ e. record { lines = refl; columns = refl }) (λ e. same_size)

pub shift_size : (g : Grid) (r : Rectangle) (d : Direction) (n : ℕ) → SameSize g (after_shift g r d n)
shift_size g r d n = cond_both (inside g.lines g.columns r) (shifted r d n g) g (SameSize g) (λ e. record { lines = refl; columns = refl }) (λ e. same_size)

-- what holds of the erased cell, of each cell of x and of the character that is set, holds of each cell of y
abbrev pub CellsKept : Control → Sheet → Sheet → Type 0
CellsKept f x y =
    (Q : Cell → Bool) → Q erased ≡ true → ((b : ℕ) → f ≡ c.Character b → Q (record { code = b; rendition = number x.state.rendition }) ≡ true)
    → Every Q x.grid.cells → Every Q y.grid.cells

-- y has what x has: sizes, standing, what is owed, and cells
pub record Kept (f : Control) (x y : Sheet) : Type 0 where
  pub cells : CellsKept f x y
  pub lines : y.state.lines ≡ x.state.lines
  pub columns : y.state.columns ≡ x.state.columns
  pub standing : y.state.standing ≡ x.state.standing
  pub owed : y.state.owed ≡ x.state.owed
  pub size : SameSize x.grid y.grid

kept : {f : Control} {x : Sheet} → Kept f x x
kept = record { cells = λ Q e n a. a; lines = refl; columns = refl; standing = refl; owed = refl; size = same_size }

module _ (f : Control) where
  -- other cells of the same size
  shows_kept : (x : Sheet) (g : Grid) → SameSize x.grid g → CellsKept f x (showing g x) → Kept f x (showing g x)
  shows_kept x g e cs = record { cells = cs; lines = refl; columns = refl; standing = refl; owed = refl; size = e }

  run_kept : (l n count : ℕ) (x : Sheet) → Kept f x (erased_run l n count x)
  run_kept l n count x = shows_kept x _ (erase_size x.grid l n count) (λ Q e m a. every_erase Q e x.grid l n count a)

  moved_kept : (part : State → Rectangle) (d : Direction) (n : ℕ) (x : Sheet) → Kept f x (moved part d n x)
  moved_kept part d n x = shows_kept x _ (shift_size x.grid (part x.state) d n) (λ Q e m a. every_shift Q e x.grid (part x.state) d n a)

  -- the first column, after cells have moved
  moved_home : (part : State → Rectangle) (d : Direction) (n : ℕ) (x : Sheet) → Kept f x (on_state to_first_column (moved part d n x))
  moved_home part d n x = let k = moved_kept part d n x in record { cells = k.cells; lines = refl; columns = refl; standing = refl; owed = refl; size = k.size }

  either_kept : (b : Bool) (x y z : Sheet) → Kept f x y → Kept f x z → Kept f x (cond b y z)
  either_kept true x y z k m = k
  either_kept false x y z k m = m

  -- the line feed, after a change of the position alone
  feed_kept : (x y : Sheet) → y.grid ≡ x.grid → Kept f x y → Kept f x (line_feed y)
  feed_kept x y e k =
      either_kept (ltb y.state.line y.state.lines) x (on_state (down 1) y) (scroll way.Up 1 y)
      (record { cells = k.cells; lines = k.lines; columns = k.columns; standing = k.standing; owed = k.owed; size = k.size })
      (let m = shift_size y.grid (all_of y.state) way.Up 1 in
      record {
        cells = λ Q e n a. every_shift Q e y.grid (all_of y.state) way.Up 1 (k.cells Q e n a);
        lines = k.lines;
        columns = k.columns;
        standing = k.standing;
        owed = k.owed;
        size = record { lines = m.lines ∙ k.size.lines; columns = m.columns ∙ k.size.columns };
      })

set_kept : (b : ℕ) (x y : Sheet) → y.state.rendition ≡ x.state.rendition → Kept (c.Character b) x y → Kept (c.Character b) x (set_character b y)
set_kept b x y er k =
    let e = set_size y.grid y.state.line y.state.column _ in
    record {
      cells = λ Q q n a. every_set Q y.grid y.state.line y.state.column _ (ap (λ (r : Rendition). Q (record { code = b; rendition = number r })) er ∙ n b refl) (k.cells Q q n a);
      lines = k.lines;
      columns = k.columns;
      standing = k.standing;
      owed = k.owed;
      size = record { lines = e.lines ∙ k.size.lines; columns = e.columns ∙ k.size.columns };
    }

opened_rendition : (b : Bool) (x : Sheet) → (cond b (moved line_rest way.Right 1 x) x).state.rendition ≡ x.state.rendition
opened_rendition true x = refl
opened_rendition false x = refl

page_kept : {f : Control} (e : Extent) (x : Sheet) → Kept f x (erase_in_page e x)
page_kept extent.ToEnd x = run_kept _ x.state.line x.state.column (cells_in x.state - here x.state) x
page_kept extent.FromStart x = run_kept _ 1 1 (here x.state + 1) x
page_kept extent.All x = run_kept _ 1 1 (cells_in x.state) x

line_kept : {f : Control} (e : Extent) (x : Sheet) → Kept f x (erase_in_line e x)
line_kept extent.ToEnd x = run_kept _ x.state.line x.state.column (to_edge x.state) x
line_kept extent.FromStart x = run_kept _ x.state.line 1 x.state.column x
line_kept extent.All x = run_kept _ x.state.line 1 x.state.columns x

stops_kept : {f : Control} (w : Clearing) (x : Sheet) → Kept f x (on_state (cleared w) x)
stops_kept clearing.ColumnStop x = record { cells = λ Q e n a. a; lines = refl; columns = refl; standing = refl; owed = refl; size = same_size }
stops_kept clearing.LineStop x = record { cells = λ Q e n a. a; lines = refl; columns = refl; standing = refl; owed = refl; size = same_size }
stops_kept clearing.AllColumnStops x = record { cells = λ Q e n a. a; lines = refl; columns = refl; standing = refl; owed = refl; size = same_size }
stops_kept clearing.AllLineStops x = record { cells = λ Q e n a. a; lines = refl; columns = refl; standing = refl; owed = refl; size = same_size }
stops_kept clearing.AllStops x = record { cells = λ Q e n a. a; lines = refl; columns = refl; standing = refl; owed = refl; size = same_size }

-- what a control function leaves: all of that, or a page begun anew, or a reply owed
pub data Left (f : Control) (x y : Sheet) : Type 0 where
  keeps : asks f ≡ false → Kept f x y → Left f x y
  begins : asks f ≡ false → y ≡ begun x.grid → Left f x y
  owes : (r : Report) → f ≡ c.Request r → asks f ≡ true → y ≡ on_state (owing (Some r)) x → Left f x y

pub effect_leaves : (f : Control) (ps : List Parameter) (x : Sheet) → Left f x (effect f ps x)
unfolding sort
effect_leaves c.Nothing ps x = keeps refl kept
effect_leaves (c.Character b) ps x =
    keeps refl (set_kept b x _ (opened_rendition x.state.modes.insertion x) (either_kept _ x.state.modes.insertion x (moved line_rest way.Right 1 x) x (moved_kept _ line_rest way.Right 1 x) kept))
effect_leaves c.Reset ps x = begins refl refl
effect_leaves (c.Up n) ps x = keeps refl (record { cells = λ Q e n a. a; lines = refl; columns = refl; standing = refl; owed = refl; size = same_size })
effect_leaves (c.Down n) ps x = keeps refl (record { cells = λ Q e n a. a; lines = refl; columns = refl; standing = refl; owed = refl; size = same_size })
effect_leaves (c.Right n) ps x = keeps refl (record { cells = λ Q e n a. a; lines = refl; columns = refl; standing = refl; owed = refl; size = same_size })
effect_leaves (c.Left n) ps x = keeps refl (record { cells = λ Q e n a. a; lines = refl; columns = refl; standing = refl; owed = refl; size = same_size })
effect_leaves (c.ToColumn n) ps x = keeps refl (record { cells = λ Q e n a. a; lines = refl; columns = refl; standing = refl; owed = refl; size = same_size })
effect_leaves (c.ToLine n) ps x = keeps refl (record { cells = λ Q e n a. a; lines = refl; columns = refl; standing = refl; owed = refl; size = same_size })
effect_leaves (c.GoTo l n) ps x = keeps refl (record { cells = λ Q e n a. a; lines = refl; columns = refl; standing = refl; owed = refl; size = same_size })
effect_leaves c.ToFirstColumn ps x = keeps refl (record { cells = λ Q e n a. a; lines = refl; columns = refl; standing = refl; owed = refl; size = same_size })
effect_leaves (c.Tab n) ps x = keeps refl (record { cells = λ Q e n a. a; lines = refl; columns = refl; standing = refl; owed = refl; size = same_size })
effect_leaves (c.BackTab n) ps x = keeps refl (record { cells = λ Q e n a. a; lines = refl; columns = refl; standing = refl; owed = refl; size = same_size })
effect_leaves (c.LineTab n) ps x = keeps refl (record { cells = λ Q e n a. a; lines = refl; columns = refl; standing = refl; owed = refl; size = same_size })
effect_leaves c.SetColumnStop ps x = keeps refl (record { cells = λ Q e n a. a; lines = refl; columns = refl; standing = refl; owed = refl; size = same_size })
effect_leaves c.SetLineStop ps x = keeps refl (record { cells = λ Q e n a. a; lines = refl; columns = refl; standing = refl; owed = refl; size = same_size })
effect_leaves c.SetModes ps x = keeps refl (record { cells = λ Q e n a. a; lines = refl; columns = refl; standing = refl; owed = refl; size = same_size })
effect_leaves c.ResetModes ps x = keeps refl (record { cells = λ Q e n a. a; lines = refl; columns = refl; standing = refl; owed = refl; size = same_size })
effect_leaves c.SelectRendition ps x = keeps refl (record { cells = λ Q e n a. a; lines = refl; columns = refl; standing = refl; owed = refl; size = same_size })
effect_leaves (c.EraseInPage e) ps x = keeps refl (page_kept e x)
effect_leaves (c.EraseInLine e) ps x = keeps refl (line_kept e x)
effect_leaves (c.EraseCharacters n) ps x = keeps refl (run_kept _ x.state.line x.state.column (min n (to_edge x.state)) x)
effect_leaves (c.InsertCharacters n) ps x = keeps refl (moved_home _ line_rest way.Right n x)
effect_leaves (c.DeleteCharacters n) ps x = keeps refl (moved_kept _ line_rest way.Left n x)
effect_leaves (c.InsertLines n) ps x = keeps refl (moved_home _ page_rest way.Down n x)
effect_leaves (c.DeleteLines n) ps x = keeps refl (moved_home _ page_rest way.Up n x)
effect_leaves (c.ScrollUp n) ps x = keeps refl (moved_kept _ all_of way.Up n x)
effect_leaves (c.ScrollDown n) ps x = keeps refl (moved_kept _ all_of way.Down n x)
effect_leaves (c.ScrollLeft n) ps x = keeps refl (moved_kept _ all_of way.Left n x)
effect_leaves (c.ScrollRight n) ps x = keeps refl (moved_kept _ all_of way.Right n x)
effect_leaves (c.Clear w) ps x = keeps refl (stops_kept w x)
effect_leaves (c.Request r) ps x = owes r refl refl refl
effect_leaves c.LineFeed ps x = keeps refl (feed_kept _ x x refl kept)
effect_leaves c.ReverseLineFeed ps x =
    keeps refl (either_kept _ (ltb 1 x.state.line) x (on_state (up 1) x) (scroll way.Down 1 x) (record { cells = λ Q e n a. a; lines = refl; columns = refl; standing = refl; owed = refl; size = same_size }) (moved_kept _ all_of way.Down 1 x))
effect_leaves c.NextLine ps x = keeps refl (feed_kept _ x (on_state to_first_column x) refl (record { cells = λ Q e n a. a; lines = refl; columns = refl; standing = refl; owed = refl; size = same_size }))
