-- The sort of the control function that a function selects: a graphic character draws, a request asks, and no other.
use Rattle.std.proofs.Common.{◌≡◌, ℕ, ◌≤◌, Bool, true, false, cond, ◌&&◌, ◌||◌, eqb, leb, List, [], ◌∷◌, ◌++◌, length, Some, None, sym, refl, ap, ◌∙◌, arith}
use Rattle.std.proofs.lemmas.Bool.{cond-false, lt-leb, eqb-true, both_ways}
use Rattle.reader.specs.Functions.{Parameter, Function, graphic, control, reset, sequence}
use Rattle.reader.specs.Requests.{is_report, requests}
use Rattle.control.specs.declared.function.Control.{Control}
use Rattle.control.specs.declared.function.Control.TheVariants as c
use Rattle.control.specs.declared.function.Report.TheVariants.{Status, Position}
use Rattle.control.specs.Tables.{pick}
use Rattle.control.specs.Decoding.{no_effect, at_most, number_at, counted, chosen, page_extents, line_extents, clearings, reports, plain_finals, spaced_finals, singles, decoded}
use Rattle.page.proofs.Kept.{Sort, ordinary, asking, drawing, sort, is_asking, asks}

-- a table of ordinary functions
Quiet : List (ℕ × Control) → Type 0
Quiet [] = Unit {0}
Quiet (e ∷ t) = (sort e.1 ≡ ordinary) × Quiet t

pick_ordinary : (k : ℕ) (t : List (ℕ × Control)) → Quiet t → sort (pick k t no_effect) ≡ ordinary
unfolding sort Quiet
pick_ordinary k [] q = refl
pick_ordinary k (e ∷ t) q =
    let then = pick_ordinary k t q.1 in
    elim (eqb k e.0) as (λ b. sort (cond b e.1 (pick k t no_effect)) ≡ ordinary) [ true ↦ q.0 | false ↦ then ]

-- a table whose last entry alone may be of another sort, at a key that the others have not
Apart : ℕ → List (ℕ × Control) → Type 0
Apart j [] = Unit {0}
Apart j (e ∷ t) = (eqb e.0 j ≡ false) × Apart j t

pick_last : (k j : ℕ) (f : Control) (t : List (ℕ × Control)) → Quiet t → Apart j t → sort (pick k (t ++ (j, f) ∷ []) no_effect) ≡ cond (eqb k j) (sort f) ordinary
unfolding sort Quiet Apart
pick_last k j f [] q a = elim (eqb k j) as (λ b. sort (cond b f no_effect) ≡ cond b (sort f) ordinary) [ true ↦ refl | false ↦ refl ]
pick_last k j f (e ∷ t) q a = by (eqb k e.0) refl (pick_last k j f t q.1 a.1)
  where
    by : (b : Bool) → eqb k e.0 ≡ b → sort (pick k (t ++ (j, f) ∷ []) no_effect) ≡ cond (eqb k j) (sort f) ordinary → sort (cond b e.1 (pick k (t ++ (j, f) ∷ []) no_effect)) ≡ cond (eqb k j) (sort f) ordinary
    by true h then = q.0 ∙ sym (cond-false (eqb k j) (sort f) ordinary (ap (λ n. eqb n j) (eqb-true k e.0 h) ∙ a.0))
    by false h then = then

most_ordinary : (n : ℕ) (ps : List Parameter) (f : Control) → sort f ≡ ordinary → sort (at_most n ps f) ≡ ordinary
unfolding sort
most_ordinary n ps f h = elim (leb (length ps) n) as (λ b. sort (cond b f no_effect) ≡ ordinary) [ true ↦ h | false ↦ refl ]

counted_ordinary : (ps : List Parameter) (f : ℕ → Control) → ((n : ℕ) → sort (f n) ≡ ordinary) → sort (counted ps f) ≡ ordinary
counted_ordinary ps f h = most_ordinary 1 ps (f (number_at ps 0)) (h (number_at ps 0))

chosen_ordinary : (ps : List Parameter) (t : List (ℕ × Control)) → Quiet t → sort (chosen ps t) ≡ ordinary
chosen_ordinary ps t q = most_ordinary 1 ps _ (pick_ordinary _ t q)

-- DSR
abbrev if_asked : Bool → Sort
if_asked b = cond b asking ordinary

report_sort : (n : ℕ) → sort (pick n reports no_effect) ≡ if_asked (eqb n 5 || eqb n 6)
unfolding sort
report_sort n =
    elim (eqb n 5) as (λ a. sort (cond a (c.Request Status) (cond (eqb n 6) (c.Request Position) no_effect)) ≡ if_asked (a || eqb n 6)) [
      | true ↦ refl
      | false ↦ elim (eqb n 6) as (λ b. sort (cond b (c.Request Position) no_effect) ≡ if_asked b) [ true ↦ refl | false ↦ refl ]
    ]

two_many : (ps : List Parameter) → 2 ≤ length ps → sort (chosen ps reports) ≡ ordinary
unfolding sort
two_many ps h = ap sort (cond-false _ _ _ (lt-leb (length ps) 1 h))

chosen_sort : (ps : List Parameter) → sort (chosen ps reports) ≡ if_asked (is_report ps)
unfolding sort
chosen_sort [] = refl
chosen_sort (None ∷ []) = refl
chosen_sort (None ∷ p ∷ ps) = two_many (None ∷ p ∷ ps) (omega arith)
chosen_sort (Some n ∷ []) = report_sort n
chosen_sort (Some n ∷ p ∷ ps) = two_many (Some n ∷ p ∷ ps) (omega arith)

-- the table of finals but its last entry, n
but_last : List (ℕ × Control) → List (ℕ × Control)
but_last [] = []
but_last (e ∷ []) = []
but_last (e ∷ f ∷ t) = e ∷ but_last (f ∷ t)

quiet_finals : List Parameter → List (ℕ × Control)
quiet_finals ps = but_last (plain_finals ps)

finals_quiet : (ps : List Parameter) → Quiet (quiet_finals ps)
unfolding sort Quiet quiet_finals but_last
finals_quiet ps = (
  counted_ordinary ps c.InsertCharacters (λ n. refl),
  (
    counted_ordinary ps c.Up (λ n. refl),
    (
      counted_ordinary ps c.Up (λ n. refl),
      (
        counted_ordinary ps c.Down (λ n. refl),
        (
          counted_ordinary ps c.Down (λ n. refl),
          (
            counted_ordinary ps c.Right (λ n. refl),
            (
              counted_ordinary ps c.Right (λ n. refl),
              (
                counted_ordinary ps c.Left (λ n. refl),
                (
                  counted_ordinary ps c.Left (λ n. refl),
                  (
                    counted_ordinary ps c.ToColumn (λ n. refl),
                    (
                      counted_ordinary ps c.ToColumn (λ n. refl),
                      (
                        counted_ordinary ps c.ToLine (λ n. refl),
                        (
                          most_ordinary 2 ps (c.GoTo (number_at ps 0) (number_at ps 1)) refl,
                          (
                            most_ordinary 2 ps (c.GoTo (number_at ps 0) (number_at ps 1)) refl,
                            (
                              chosen_ordinary ps page_extents (refl, (refl, (refl, tt))),
                              (
                                chosen_ordinary ps line_extents (refl, (refl, (refl, tt))),
                                (
                                  counted_ordinary ps c.EraseCharacters (λ n. refl),
                                  (
                                    counted_ordinary ps c.DeleteCharacters (λ n. refl),
                                    (
                                      counted_ordinary ps c.InsertLines (λ n. refl),
                                      (
                                        counted_ordinary ps c.DeleteLines (λ n. refl),
                                        (
                                          counted_ordinary ps c.ScrollUp (λ n. refl),
                                          (
                                            counted_ordinary ps c.ScrollDown (λ n. refl),
                                            (
                                              counted_ordinary ps c.Tab (λ n. refl),
                                              (
                                                counted_ordinary ps c.BackTab (λ n. refl),
                                                (
                                                  counted_ordinary ps c.LineTab (λ n. refl),
                                                  (
                                                    chosen_ordinary ps clearings (refl, (refl, (refl, (refl, (refl, (refl, tt)))))),
                                                    (
                                                      refl,
                                                      (
                                                        refl,
                                                        (refl, tt),
                                                      ),
                                                    ),
                                                  ),
                                                ),
                                              ),
                                            ),
                                          ),
                                        ),
                                      ),
                                    ),
                                  ),
                                ),
                              ),
                            ),
                          ),
                        ),
                      ),
                    ),
                  ),
                ),
              ),
            ),
          ),
        ),
      ),
    ),
  ),
)

finals_apart : (ps : List Parameter) → Apart 0x6E (quiet_finals ps)
unfolding Apart quiet_finals but_last
finals_apart ps = (refl, (refl, (refl, (refl, (refl, (refl, (refl, (refl, (refl, (refl, (refl, (refl, (refl, (refl, (refl, (refl, (refl, (refl, (refl, (refl, (refl, (refl, (refl, (refl, (refl, (refl, (refl, (refl, (refl, tt)))))))))))))))))))))))))))))

finals_sort : (ps : List Parameter) (f : ℕ) → sort (pick f (plain_finals ps) no_effect) ≡ if_asked (eqb f 0x6E && is_report ps)
unfolding quiet_finals but_last
finals_sort ps f =
    pick_last f 0x6E (chosen ps reports) (quiet_finals ps) (finals_quiet ps) (finals_apart ps)
    ∙ ap (λ (s : Sort). cond (eqb f 0x6E) s ordinary) (chosen_sort ps)
    ∙ elim (eqb f 0x6E) as (λ b. cond b (if_asked (is_report ps)) ordinary ≡ if_asked (b && is_report ps)) [ true ↦ refl | false ↦ refl ]

-- a graphic character draws, a request asks, and all else is ordinary
abbrev sort_by : Function → Sort
sort_by (graphic b) = drawing
sort_by (control b) = ordinary
sort_by reset = ordinary
sort_by (sequence ps space f) = if_asked (requests (sequence ps space f))

decoded_sort : (f : Function) → sort (decoded f) ≡ sort_by f
unfolding sort Quiet
decoded_sort (graphic b) = refl
decoded_sort (control b) = pick_ordinary b singles (refl, (refl, (refl, (refl, (refl, (refl, (refl, (refl, (refl, tt)))))))))
decoded_sort reset = refl
decoded_sort (sequence ps true f) = pick_ordinary f (spaced_finals ps) (counted_ordinary ps c.ScrollLeft (λ n. refl), (counted_ordinary ps c.ScrollRight (λ n. refl), tt))
decoded_sort (sequence ps false f) = finals_sort ps f

sort_asks : (f : Function) → is_asking (sort_by f) ≡ requests f
sort_asks (graphic b) = refl
sort_asks (control b) = refl
sort_asks reset = refl
sort_asks (sequence ps space f) = elim (requests (sequence ps space f)) as (λ b. is_asking (if_asked b) ≡ b) [ true ↦ refl | false ↦ refl ]

pub decoded_asks : (f : Function) → asks (decoded f) ≡ requests f
decoded_asks f = ap is_asking (decoded_sort f) ∙ sort_asks f

-- only a graphic character sets a cell to a character
is_drawing : Sort → Bool
is_drawing ordinary = false
is_drawing asking = false
is_drawing drawing = true

asked_draws : (b : Bool) → is_drawing (if_asked b) ≡ false
unfolding is_drawing
asked_draws true = refl
asked_draws false = refl

drawn_sort : (f : Function) (b : ℕ) → decoded f ≡ c.Character b → sort_by f ≡ drawing
unfolding sort
drawn_sort f b e = sym (decoded_sort f) ∙ ap sort e

undrawn : {P : Type 0} (s : Sort) → is_drawing s ≡ false → s ≡ drawing → P
unfolding is_drawing
undrawn s h e = absurd (both_ways false refl (sym h ∙ ap is_drawing e))

same_code : (a b : ℕ) → c.Character a ≡ c.Character b → a ≡ b
same_code a b e = cc

pub drawn_is_graphic : (f : Function) (b : ℕ) → decoded f ≡ c.Character b → f ≡ graphic b
unfolding is_drawing
drawn_is_graphic (graphic a) b e = ap graphic (same_code a b e)
drawn_is_graphic (control a) b e = undrawn ordinary refl (drawn_sort (control a) b e)
drawn_is_graphic reset b e = undrawn ordinary refl (drawn_sort reset b e)
drawn_is_graphic (sequence ps space f) b e = undrawn (if_asked (requests (sequence ps space f))) (asked_draws (requests (sequence ps space f))) (drawn_sort (sequence ps space f) b e)
