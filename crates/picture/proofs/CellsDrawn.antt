-- The cells of a picture, written in reading order on a fresh page.
use Rattle.std.proofs.Common.{◌≡◌, ℕ, ◌+◌, ◌-◌, ◌*◌, ◌/◌, ◌%◌, ◌<◌, ◌≤◌, Bool, true, false, not, ◌||◌, eqb, ◌⊎◌, List, [], ◌∷◌, ◌++◌, length, set, replicate, None, sym, refl, ap, ◌∙◌, subst₂, ⊎_elim, append_assoc, arith, length-append}
use Rattle.std.proofs.lemmas.Nat.{div-add-mod', div-mul-add, mod-mul-add, div_below, mod_below}
use Rattle.std.proofs.lemmas.Bool.{true≢false, eqb-true, eqb-false, cases_lt, and_parts, cond_both}
use Rattle.std.proofs.lemmas.Bool.Decides.{nat_tests}
use Rattle.panel.specs.declared.cell.Cell.{Cell}
use Rattle.panel.specs.Grids.{erased, within, index_in}
use Rattle.panel.proofs.Places.{true_within}
use Rattle.reader.specs.Bytes.{is_graphic}
use Rattle.reader.specs.Functions.{Function, graphic, control}
use Rattle.reader.specs.Steps.{rest}
use Rattle.control.specs.declared.rendition.Rendition.{Rendition}
use Rattle.control.specs.Renditions.{number, rendition_of}
use Rattle.control.proofs.Numbers.{numbers_name_renditions}
use Rattle.page.specs.Sheets.{Sheet}
use Rattle.page.specs.Moves.{inside}
use Rattle.page.specs.Effects.{does}
use Rattle.picture.specs.Pictures.{numbered, cup, sgr, is_erased, when, cells_from, foreign}
use Rattle.picture.specs.Writable.{Each}
use Rattle.picture.proofs.Drawing.{acts, acts_append, moves, renders, shows}

abbrev cell : ℕ → ℕ → Cell
cell c r = record { code = c; rendition = r }

fine : (c r : ℕ) → foreign (cell c r) ≡ false → is_erased (cell c r) ≡ false → (is_graphic c ≡ true) × (r < 34992)
fine c r f e = (grind (arith, nat_tests), grind (arith, nat_tests))

gone : (x : Cell) → is_erased x ≡ true → x ≡ erased
gone x e = let p = and_parts (eqb x.code 0) (eqb x.rendition 0) e in λ i. cell (eqb-true x.code 0 p.0 i) (eqb-true x.rendition 0 p.1 i)

pub fill : {A : Type 0} (done : List A) (x y : A) (zs : List A) → set (done ++ (x ∷ zs)) (length done) y ≡ done ++ (y ∷ zs)
fill [] x y zs = refl
fill (d ∷ ds) x y zs = ap (λ l. d ∷ l) (fill ds x y zs)

-- the place after place k, in the same line or at the start of the next
same_line : (w k : ℕ) → k % w + 1 < w → ((k + 1) / w ≡ k / w) × ((k + 1) % w ≡ k % w + 1)
same_line w k h =
    let e = div-add-mod' k w in
    let is : k / w * w + (k % w + 1) ≡ k + 1 = omega arith in
    (ap (λ n. n / w) (sym is) ∙ div-mul-add (k / w) w (k % w + 1) h, ap (λ n. n % w) (sym is) ∙ mod-mul-add (k / w) w (k % w + 1) h)

next_line : (w k : ℕ) → 0 < w → k % w + 1 ≡ w → (k + 1) % w ≡ 0
next_line w k pos h =
    let e = div-add-mod' k w in
    let is : (k / w + 1) * w + 0 ≡ k + 1 = omega arith in
    ap (λ n. n % w) (sym is) ∙ mod-mul-add (k / w + 1) w 0 pos

placed : (w k : ℕ) → index_in w (k / w + 1) (k % w + 1) ≡ k
placed w k =
    let a : k / w + 1 - 1 ≡ k / w = omega arith in
    let b : k % w + 1 - 1 ≡ k % w = omega arith in
    (λ i. a i * w + b i) ∙ div-add-mod' k w

-- the position is at place k, unless a CUP comes first
abbrev At : ℕ → ℕ → Bool → ℕ → ℕ → Type 0
At w k gap l c = (gap || eqb (k % w) 0) ≡ false → (l ≡ k / w + 1) × (c ≡ k % w + 1)

after_place : (w k : ℕ) → 0 < w → At w (k + 1) false (k / w + 1) (inside 1 w (k % w + 1 + 1))
after_place w k pos e =
    let below = mod_below k w pos in
    ⊎_elim
    (λ lt. let s = same_line w k lt in (omega arith, omega arith))
    (λ ge. absurd (eqb-false ((k + 1) % w) 0 e (next_line w k pos (omega arith))))
    (cases_lt (k % w + 1) w)

cells_erased : (w k : ℕ) (gap : Bool) (last : ℕ) (x : Cell) (xs : List Cell) → is_erased x ≡ true → cells_from w k gap last (x ∷ xs) ≡ cells_from w (k + 1) true last xs
unfolding cells_from
cells_erased w k gap last x xs e = rw e

cells_shown : (w k : ℕ) (gap : Bool) (last : ℕ) (x : Cell) (xs : List Cell) → is_erased x ≡ false
    → cells_from w k gap last (x ∷ xs) ≡ when (gap || eqb (k % w) 0) (cup (k / w + 1) (k % w + 1)) ++ (when (not (eqb x.rendition last)) (sgr (rendition_of x.rendition)) ++ (graphic x.code ∷ cells_from w (k + 1) false x.rendition xs))
unfolding cells_from
cells_shown w k gap last x xs e = rw e

-- a sheet in the modes of a start
abbrev pub stage : ℕ → ℕ → List Bool → List Bool → ℕ → ℕ → Rendition → List Cell → Sheet
stage h w t v l c r cs = record {
  state = record { lines = h; columns = w; line = l; column = c; rendition = r; column_stops = t; line_stops = v; modes = record { insertion = false; combination = false }; standing = rest; owed = None };
  grid = record { lines = h; columns = w; cells = cs };
}

-- some position and rendition, and these cells
pub record Reached (h w : ℕ) (t v : List Bool) (cs : List Cell) (q : Sheet) : Type 0 where
  pub line : ℕ
  pub column : ℕ
  pub rendition : Rendition
  pub is : q ≡ stage h w t v line column rendition cs

abbrev pub Fine : List Cell → Type 0
Fine [] = Unit {0}
Fine (x ∷ xs) = (foreign x ≡ false) × Fine xs

module _ (h w : ℕ) (t v : List Bool) where
  -- a graphic character at place k
  puts : (k : ℕ) (r : Rendition) (cs : List Cell) (c : ℕ) → k < h * w → 0 < w
      → does (graphic c) (stage h w t v (k / w + 1) (k % w + 1) r cs) ≡ stage h w t v (k / w + 1) (inside 1 w (k % w + 1 + 1)) r (set cs k (cell c (number r)))
  puts k r cs c lt pos =
      let below = div_below k w h pos lt in
      let low = mod_below k w pos in
      let l : inside 1 h (k / w + 1) ≡ k / w + 1 = omega arith in
      let here : within h w (k / w + 1) (k % w + 1) ≡ true = true_within h w (k / w + 1) (k % w + 1) (record { line_low = omega arith; line_high = omega arith; column_low = omega arith; column_high = omega arith }) in
      shows (stage h w t v (k / w + 1) (k % w + 1) r cs) c refl here
      ∙ (λ i. stage h w t v (l i) (inside 1 w (k % w + 1 + 1)) r (set cs (placed w k i) (cell c (number r))))

  place_is : (k l c : ℕ) (r : Rendition) (cs : List Cell) (b : Bool) → k < h * w → 0 < w → (b ≡ false → (l ≡ k / w + 1) × (c ≡ k % w + 1))
      → acts (stage h w t v l c r cs) (when b (cup (k / w + 1) (k % w + 1))) ≡ stage h w t v (k / w + 1) (k % w + 1) r cs
  unfolding acts
  place_is k l c r cs false lt pos at = λ i. stage h w t v ((at refl).0 i) ((at refl).1 i) r cs
  place_is k l c r cs true lt pos at =
      let below = div_below k w h pos lt in
      let low = mod_below k w pos in
      moves (stage h w t v l c r cs) (k / w + 1) (k % w + 1) (omega arith) (omega arith) (omega arith) (omega arith)

  rendition_is : (l c : ℕ) (r : Rendition) (cs : List Cell) (n last : ℕ) (b : Bool) → eqb n last ≡ b → n < 34992 → number r ≡ last
      → (q : Rendition) × ((acts (stage h w t v l c r cs) (when (not b) (sgr (rendition_of n))) ≡ stage h w t v l c q cs) × (number q ≡ n))
  unfolding acts
  rendition_is l c r cs n last true e small is = (r, (refl, is ∙ sym (eqb-true n last e)))
  rendition_is l c r cs n last false e small is = (rendition_of n, (renders (stage h w t v l c r cs) (rendition_of n), numbers_name_renditions.back n small))

  -- from any position, these cells written after the first ones are there
  abbrev Walks : List Cell → Type 0
  Walks xs = (done : List Cell) (k : ℕ) (gap : Bool) (last l c : ℕ) (r : Rendition) → k ≡ length done → k + length xs ≤ h * w → 0 < w → number r ≡ last → At w k gap l c
      → Reached h w t v (done ++ xs) (acts (stage h w t v l c r (done ++ replicate (length xs) erased)) (cells_from w k gap last xs))

  reach : {cs cs' : List Cell} {q q' : Sheet} → cs ≡ cs' → q ≡ q' → Reached h w t v cs q → Reached h w t v cs' q'
  reach e f x = subst₂ (Reached h w t v) e f x

  grows : (done : List Cell) (x : Cell) (k : ℕ) → k ≡ length done → k + 1 ≡ length (done ++ (x ∷ []))
  grows done x k e = omega (arith, length-append done (x ∷ []))

  walk_erased : (x : Cell) (xs : List Cell) → x ≡ erased → is_erased x ≡ true → Walks xs → Walks (x ∷ xs)
  walk_erased x xs is e ih done k gap last l c r ek fits pos en at =
      reach
      (append_assoc done (erased ∷ []) xs ∙ ap (λ y. done ++ (y ∷ xs)) (sym is))
      ((λ i. acts (stage h w t v l c r (append_assoc done (erased ∷ []) (replicate (length xs) erased) i)) (cells_from w (k + 1) true last xs)) ∙ ap (acts _) (sym (cells_erased w k gap last x xs e)))
      (ih (done ++ (erased ∷ [])) (k + 1) true last l c r (grows done erased k ek) (omega arith) pos en (λ z. absurd (true≢false z)))

  walk_shown : (x : Cell) (xs : List Cell) → x.rendition < 34992 → is_erased x ≡ false → Walks xs → Walks (x ∷ xs)
  unfolding acts
  walk_shown x xs small e ih done k gap last l c r ek fits pos en at =
      let rep = replicate (length xs) erased in
      let lt : k < h * w = omega arith in
      let b = gap || eqb (k % w) 0 in
      let bytes_cup = when b (cup (k / w + 1) (k % w + 1)) in
      let bytes_sgr = when (not (eqb x.rendition last)) (sgr (rendition_of x.rendition)) in
      let left = cells_from w (k + 1) false x.rendition xs in
      let cs0 = done ++ (erased ∷ rep) in
      let s0 = stage h w t v l c r cs0 in
      let s1 = stage h w t v (k / w + 1) (k % w + 1) r cs0 in
      let found = rendition_is (k / w + 1) (k % w + 1) r cs0 x.rendition last (eqb x.rendition last) refl small en in
      let q = found.0 in
      let s2 = stage h w t v (k / w + 1) (k % w + 1) q cs0 in
      let way : acts s0 (cells_from w k gap last (x ∷ xs)) ≡ acts (does (graphic x.code) s2) left =
      ap (acts s0) (cells_shown w k gap last x xs e)
      ∙ acts_append s0 bytes_cup (bytes_sgr ++ (graphic x.code ∷ left))
      ∙ ap (λ s. acts s (bytes_sgr ++ (graphic x.code ∷ left))) (place_is k l c r cs0 b lt pos at)
      ∙ acts_append s1 bytes_sgr (graphic x.code ∷ left)
      ∙ ap (λ s. acts s (graphic x.code ∷ left)) found.1.0
      in
      let filled : set cs0 k (cell x.code (number q)) ≡ (done ++ (x ∷ [])) ++ rep =
      (λ i. set cs0 (ek i) (cell x.code (found.1.1 i))) ∙ fill done erased x rep ∙ sym (append_assoc done (x ∷ []) rep)
      in
      let put = puts k q cs0 x.code lt pos ∙ ap (stage h w t v (k / w + 1) (inside 1 w (k % w + 1 + 1)) q) filled in
      reach (append_assoc done (x ∷ []) xs) (sym (way ∙ ap (λ s. acts s left) put))
      (ih (done ++ (x ∷ [])) (k + 1) false x.rendition (k / w + 1) (inside 1 w (k % w + 1 + 1)) q (grows done x k ek) (omega arith) pos found.1.1 (after_place w k pos))

  one_cell : (x : Cell) (xs : List Cell) → foreign x ≡ false → Walks xs → Walks (x ∷ xs)
  one_cell x xs f ih = go (is_erased x) refl
    where
      go : (b : Bool) → is_erased x ≡ b → Walks (x ∷ xs)
      go true e = walk_erased x xs (gone x e) e ih
      go false e = let g = fine x.code x.rendition f e in walk_shown x xs g.1 e ih

  pub walk : (xs : List Cell) → Fine xs → Walks xs
  unfolding acts cells_from
  walk [] f = λ done k gap last l c r ek fits pos en at. record { line = l; column = c; rendition = r; is = refl }
  walk (x ∷ xs) f = one_cell x xs f.0 (walk xs f.1)

-- what holds of each function that a picture can have
pub record Drawn (P : Function → Type 0) : Type 0 where
  pub cups : (l c : ℕ) → l ≤ 9999 → c ≤ 9999 → P (cup l c)
  pub sgrs : (r : Rendition) → P (sgr r)
  pub shows : (c : ℕ) → is_graphic c ≡ true → P (graphic c)
  pub others : (n f : ℕ) → n ≤ 9999 → (f ≡ 0x67) ⊎ (f ≡ 0x68) → P (numbered (n ∷ []) f)
  pub column_stop : P (control 0x88)
  pub line_stop : P (control 0x8A)

module _ (P : Function → Type 0) (d : Drawn P) where
  pub each_when : (b : Bool) (f : Function) (fs : List Function) → P f → Each P fs → Each P (when b f ++ fs)
  each_when true f fs w ws = (w, ws)
  each_when false f fs w ws = ws

  pub each_cell : (h w : ℕ) → h ≤ 9999 → w ≤ 9999 → 0 < w → (xs : List Cell) (k : ℕ) (gap : Bool) (last : ℕ) → k + length xs ≤ h * w → Fine xs → Each P (cells_from w k gap last xs)
  unfolding cells_from
  each_cell h w sh sw pos [] k gap last fits f = tt
  each_cell h w sh sw pos (x ∷ xs) k gap last fits f =
      let lt : k < h * w = omega arith in
      let below = div_below k w h pos lt in
      let low = mod_below k w pos in
      cond_both (is_erased x) _ _ (Each P) (λ e. each_cell h w sh sw pos xs (k + 1) true last (omega arith) f.1)
      (λ e. each_when (gap || eqb (k % w) 0) _ _ (d.cups _ _ (omega arith) (omega arith))
      (each_when (not (eqb x.rendition last)) _ _ (d.sgrs (rendition_of x.rendition)) (d.shows x.code (fine x.code x.rendition f.0 e).0, each_cell h w sh sw pos xs (k + 1) false x.rendition (omega arith) f.1)))
