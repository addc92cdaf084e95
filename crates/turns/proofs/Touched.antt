-- A page that only turns have touched has no foreign cell.
use Rattle.std.proofs.Common.{◌≡◌, ℕ, ◌+◌, ◌*◌, ◌/◌, ◌%◌, ◌<◌, Bool, true, false, cond, not, eqb, leb, List, [], ◌∷◌, length, is_some, Some, None, Option, sym, refl, ap, subst, arith}
use Rattle.std.proofs.lemmas.Bool.{cond_both, both_ways}
use Rattle.std.proofs.lemmas.Bool.Decides.{nat_tests}
use Rattle.refusal.specs.Table.{Answer, accepted, refused}
use Rattle.refusal.specs.declared.Layer.TheVariants as layer
use Rattle.refusal.specs.declared.Place.TheVariants.{Length, At}
use Rattle.panel.specs.declared.cell.Cell.{Cell}
use Rattle.panel.specs.Grids.{Grid, Whole, erased}
use Rattle.panel.proofs.Places.{within_true}
use Rattle.reader.specs.Bytes.{is_graphic}
use Rattle.reader.specs.Functions.{Function}
use Rattle.reader.specs.Steps.{Outcome, rest, is_at_rest, step}
use Rattle.control.specs.declared.function.Control.TheVariants as c
use Rattle.control.specs.Renditions.{number}
use Rattle.control.specs.Decoding.{decoded, values}
use Rattle.control.proofs.Numbers.{numbers_name_renditions}
use Rattle.page.specs.Sheets.{Sheet, on_state, reading}
use Rattle.page.specs.Effects.{does, acts, stepped, run}
use Rattle.page.specs.Plain.{Plain, known, owes, taken, startable, started_page}
use Rattle.page.proofs.Shapes.{Shape, quiet, whole, Read, step_shape}
use Rattle.page.proofs.Every.{Every, every_replicate, every_erase}
use Rattle.page.proofs.Owing.{drawn_is_graphic}
use Rattle.page.proofs.Kept.{Left, keeps, begins, owes as left_owes, effect_leaves}
use Rattle.picture.specs.Pictures.{foreign, first_foreign, picture_bytes}
use Rattle.picture.specs.Calls.{Outcome as Called, refuses, fronts}
use Rattle.picture.proofs.Drawn.{begun_cells}
use Rattle.turns.specs.Turns.{Turn, picture, turn, after}
use Rattle.turns.specs.Laws.{NeverForeign}
use Rattle.turns.proofs.Done.{Done, nothing, bytes, sends, turn_done}

-- a cell that some bytes could have put there
abbrev own : Cell → Bool
own x = not (foreign x)

own_character : (b n : ℕ) → is_graphic b ≡ true → n < 34992 → own (record { code = b; rendition = n }) ≡ true
own_character b n g h = grind (arith, nat_tests)

done_own : (f : Function) → Read f → (x : Sheet) → Every own x.grid.cells → Every own (does f x).grid.cells
done_own f d x a = by (effect_leaves (decoded f) (values f) x)
  where
    small : (b : ℕ) → decoded f ≡ c.Character b → own (record { code = b; rendition = number x.state.rendition }) ≡ true
    small b e = own_character b (number x.state.rendition) (subst Read (drawn_is_graphic f b e) d) (numbers_name_renditions.small x.state.rendition)

    by : Left (decoded f) x (does f x) → Every own (does f x).grid.cells
    by (keeps q k) = k.cells own refl small a
    by (begins q e) = subst (λ (y : Sheet). Every own y.grid.cells) (sym e) (every_erase own refl x.grid 1 1 (x.grid.lines * x.grid.columns) a)
    by (left_owes r i q e) = subst (λ (y : Sheet). Every own y.grid.cells) (sym e) a

acts_own : (o : Outcome) → Shape o → (x : Sheet) → Every own x.grid.cells → Every own (acts o x).grid.cells
acts_own o (quiet s e) x a = subst (λ (q : Outcome). Every own (acts q x).grid.cells) (sym e) a
acts_own o (whole f d e) x a = subst (λ (q : Outcome). Every own (acts q x).grid.cells) (sym e) (done_own f d (on_state (reading rest) x) a)

run_own : (x : Sheet) (bs : List ℕ) → Every own x.grid.cells → Every own (run x bs).grid.cells
unfolding run stepped
run_own x [] a = a
run_own x (b ∷ bs) a = run_own (stepped x b) bs (acts_own (step x.state.standing b) (step_shape x.state.standing b) x a)

-- turns
abbrev Own : Plain → Type 0
Own x = Every own x.sheet.grid.cells

turn_own : (x : Plain) (t : Turn) (o : Called) → Done x t o → Own x → Own o.after
turn_own x t o (nothing a k g) h = subst Own (sym a) h
turn_own x t o (bytes bs kn f a k g) h = subst Own (sym a) (run_own x.sheet (taken x bs) h)
turn_own x t o (sends w a k g) h = subst Own (sym a) h

after_own : (ts : List Turn) (x : Plain) → Own x → Own (after x ts)
unfolding after
after_own [] x h = h
after_own (t ∷ ts) x h = after_own ts (turn x t).after (turn_own x t (turn x t) (turn_done x t) h)

start_own : (g : Grid) → startable g ≡ true → Whole g → Own (started_page g)
start_own g st w =
    let k = within_true 64 132 g.lines g.columns st in
    subst (λ (z : Grid). Every own z.cells) (sym (begun_cells g k.line_low k.column_low w.count)) (every_replicate own (g.lines * g.columns) erased refl)

-- then the first foreign cell is none
no_foreign : (xs : List Cell) (k : ℕ) → Every own xs → first_foreign k xs ≡ None
no_foreign [] k a = refl
no_foreign (x ∷ xs) k a = by (foreign x) a.0 (no_foreign xs (k + 1) a.1)
  where
    by : (b : Bool) → not b ≡ true → first_foreign (k + 1) xs ≡ None → ◌≡◌ {A = Option ℕ} (elim b [ true ↦ Some k | false ↦ first_foreign (k + 1) xs ]) None
    by true h then = absurd (both_ways false refl h)
    by false h then = then

is_seven : Answer ℕ → Bool
is_seven (accepted n) = false
is_seven (refused n l p) = eqb n 7

module _ (x : Plain) (room : ℕ) (fine : first_foreign 0 x.sheet.grid.cells ≡ None) where
  abbrev NotSeven : Called → Type 0
  NotSeven o = is_seven o.says ≡ false

  drawn_not : (f : Option ℕ) → f ≡ None
      → NotSeven (elim f [ Some k ↦ refuses x (refused 7 layer.Page (At (k / x.sheet.grid.columns + 1) (k % x.sheet.grid.columns + 1))) | None ↦ fronts x x (picture_bytes x.sheet) room ])
  unfolding is_seven
  drawn_not (Some k) e = absurd (both_ways true (ap is_some e) refl)
  drawn_not None e = by (leb (length (picture_bytes x.sheet)) room)
    where
      by : (b : Bool) → is_seven (cond b (accepted (length (picture_bytes x.sheet))) (refused 8 layer.Writer (Length (length (picture_bytes x.sheet))))) ≡ false
      by true = refl
      by false = refl

  not_seven : NotSeven (turn x (picture room))
  unfolding turn is_seven
  not_seven =
      cond_both (known x) _ _ NotSeven
      (λ k. cond_both (owes x) _ _ NotSeven (λ o. refl)
      (λ o. cond_both (is_at_rest x.sheet.state.standing) _ _ NotSeven (λ r. drawn_not (first_foreign 0 x.sheet.grid.cells) fine) (λ r. refl)))
      (λ k. refl)

pub never_foreign : NeverForeign
unfolding is_seven
never_foreign g st w ts room l p e =
    let x = after (started_page g) ts in
    let own_all = after_own ts (started_page g) (start_own g st w) in
    both_ways (is_seven (turn x (picture room)).says) (not_seven x room (no_foreign x.sheet.grid.cells 0 own_all)) (ap is_seven e)
