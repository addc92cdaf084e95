-- The parameters of SGR make the rendition that they are of, whatever it was before.
use Rattle.std.proofs.Common.{◌≡◌, ℕ, ◌+◌, ◌≤◌, Bool, true, false, List, [], ◌∷◌, ◌++◌, map, length, Some, refl, ap, ◌∙◌, arith, length-append}
use Rattle.control.specs.declared.rendition.Intensity.{Intensity}
use Rattle.control.specs.declared.rendition.Underline.{Underline}
use Rattle.control.specs.declared.rendition.Blink.{Blink}
use Rattle.control.specs.declared.rendition.Colour.{Colour}
use Rattle.control.specs.declared.rendition.Rendition.{Rendition}
use Rattle.control.specs.declared.rendition.Intensity.TheVariants.{Normal, Bold, Faint}
use Rattle.control.specs.declared.rendition.Underline.TheVariants.{Plain, Single, Double}
use Rattle.control.specs.declared.rendition.Blink.TheVariants.{Steady, Slow, Rapid}
use Rattle.control.specs.declared.rendition.Colour.TheVariants.{Default, Black, Red, Green, Yellow, Blue, Magenta, Cyan, White}
use Rattle.control.specs.Renditions.{standard}
use Rattle.control.specs.Selecting.{changed, changed_all, selected, with_intensity, with_italic, with_underline, with_blink, with_negative, with_concealed, with_crossed, with_foreground, with_background}
use Rattle.picture.specs.Renditions.{sets, sets_intensity, sets_single, sets_double, sets_blink, sets_colour, needs_of, parameters_of}

-- values one after the other
made_by : Rendition → List ℕ → Rendition
made_by r [] = r
made_by r (n ∷ ns) = made_by (changed n r) ns

all_made : (ns : List ℕ) (r : Rendition) → changed_all (map Some ns) r ≡ made_by r ns
unfolding made_by
all_made [] r = refl
all_made (n ∷ ns) r = all_made ns (changed n r)

-- numbers that a sequence can have
abbrev pub Low : List ℕ → Type 0
Low [] = Unit {0}
Low (n ∷ ns) = (n ≤ 9999) × Low ns

made_append : (r : Rendition) (xs ys : List ℕ) → made_by r (xs ++ ys) ≡ made_by (made_by r xs) ys
unfolding made_by
made_append r [] ys = refl
made_append r (x ∷ xs) ys = made_append (changed x r) xs ys

-- each part of the parameters sets its aspect, where the aspect is at its Default
does_intensity : (x : Intensity) (r : Rendition) → r.intensity ≡ Normal → made_by r (sets_intensity x) ≡ with_intensity x r
unfolding made_by
does_intensity Normal r e = λ i. with_intensity (e i) r
does_intensity Bold r e = refl
does_intensity Faint r e = refl

does_italic : (x : Bool) (r : Rendition) → r.italic ≡ false → made_by r (sets 3 x) ≡ with_italic x r
unfolding made_by
does_italic false r e = λ i. with_italic (e i) r
does_italic true r e = refl

only_single : Underline → Underline
only_single Plain = Plain
only_single Single = Single
only_single Double = Plain

does_single : (x : Underline) (r : Rendition) → r.underline ≡ Plain → made_by r (sets_single x) ≡ with_underline (only_single x) r
unfolding made_by only_single
does_single Plain r e = λ i. with_underline (e i) r
does_single Single r e = refl
does_single Double r e = λ i. with_underline (e i) r

does_double : (x : Underline) (r : Rendition) → r.underline ≡ only_single x → made_by r (sets_double x) ≡ with_underline x r
unfolding made_by only_single
does_double Plain r e = λ i. with_underline (e i) r
does_double Single r e = λ i. with_underline (e i) r
does_double Double r e = refl

does_blink : (x : Blink) (r : Rendition) → r.blink ≡ Steady → made_by r (sets_blink x) ≡ with_blink x r
unfolding made_by
does_blink Steady r e = λ i. with_blink (e i) r
does_blink Slow r e = refl
does_blink Rapid r e = refl

does_negative : (x : Bool) (r : Rendition) → r.negative ≡ false → made_by r (sets 7 x) ≡ with_negative x r
unfolding made_by
does_negative false r e = λ i. with_negative (e i) r
does_negative true r e = refl

does_concealed : (x : Bool) (r : Rendition) → r.concealed ≡ false → made_by r (sets 8 x) ≡ with_concealed x r
unfolding made_by
does_concealed false r e = λ i. with_concealed (e i) r
does_concealed true r e = refl

does_crossed : (x : Bool) (r : Rendition) → r.crossed_out ≡ false → made_by r (sets 9 x) ≡ with_crossed x r
unfolding made_by
does_crossed false r e = λ i. with_crossed (e i) r
does_crossed true r e = refl

does_foreground : (x : Colour) (r : Rendition) → r.foreground ≡ Default → made_by r (sets_colour 30 x) ≡ with_foreground x r
unfolding made_by
does_foreground Default r e = λ i. with_foreground (e i) r
does_foreground Black r e = refl
does_foreground Red r e = refl
does_foreground Green r e = refl
does_foreground Yellow r e = refl
does_foreground Blue r e = refl
does_foreground Magenta r e = refl
does_foreground Cyan r e = refl
does_foreground White r e = refl

does_background : (x : Colour) (r : Rendition) → r.background ≡ Default → made_by r (sets_colour 40 x) ≡ with_background x r
unfolding made_by
does_background Default r e = λ i. with_background (e i) r
does_background Black r e = refl
does_background Red r e = refl
does_background Green r e = refl
does_background Yellow r e = refl
does_background Blue r e = refl
does_background Magenta r e = refl
does_background Cyan r e = refl
does_background White r e = refl

then : (a b c : Rendition) (xs ys : List ℕ) → made_by a xs ≡ b → made_by b ys ≡ c → made_by a (xs ++ ys) ≡ c
then a b c xs ys e f = made_append a xs ys ∙ ap (λ q. made_by q ys) e ∙ f

makes_needs : (r : Rendition) → made_by standard (needs_of r) ≡ r
makes_needs r =
    let s1 = with_intensity r.intensity standard in
    let s2 = with_italic r.italic s1 in
    let s3 = with_underline (only_single r.underline) s2 in
    let s4 = with_blink r.blink s3 in
    let s5 = with_negative r.negative s4 in
    let s6 = with_concealed r.concealed s5 in
    let s7 = with_crossed r.crossed_out s6 in
    let s8 = with_underline r.underline s7 in
    let s9 = with_foreground r.foreground s8 in
    then standard s1 r _ _ (does_intensity r.intensity standard refl)
    (then s1 s2 r _ _ (does_italic r.italic s1 refl)
    (then s2 s3 r _ _ (does_single r.underline s2 refl)
    (then s3 s4 r _ _ (does_blink r.blink s3 refl)
    (then s4 s5 r _ _ (does_negative r.negative s4 refl)
    (then s5 s6 r _ _ (does_concealed r.concealed s5 refl)
    (then s6 s7 r _ _ (does_crossed r.crossed_out s6 refl)
    (then s7 s8 r _ _ (does_double r.underline s7 refl)
    (then s8 s9 r _ _ (does_foreground r.foreground s8 refl)
    (does_background r.background s9 refl)))))))))

pub makes : (combine : Bool) (q r : Rendition) → selected (map Some (parameters_of r)) combine q ≡ r
makes combine q r = all_made (needs_of r) standard ∙ makes_needs r

-- what bounds a list of parameters: each is small, and they are few
pub Few : ℕ → List ℕ → Type 0
Few k ns = Low ns × (length ns ≤ k)

small_append : (xs ys : List ℕ) → Low xs → Low ys → Low (xs ++ ys)
small_append [] ys a b = b
small_append (x ∷ xs) ys a b = (a.0, small_append xs ys a.1 b)

few_append : (j k : ℕ) (xs ys : List ℕ) → Few j xs → Few k ys → Few (j + k) (xs ++ ys)
unfolding Few
few_append j k xs ys a b = (small_append xs ys a.0 b.0, omega (arith, length-append xs ys, a.1, b.1))

few_one : (n : ℕ) → n ≤ 9999 → Few 1 (n ∷ [])
unfolding Few
few_one n h = ((h, tt), omega arith)

few_none : Few 1 []
unfolding Few
few_none = (tt, omega arith)

few_intensity : (x : Intensity) → Few 1 (sets_intensity x)
few_intensity Normal = few_none
few_intensity Bold = few_one 1 (omega arith)
few_intensity Faint = few_one 2 (omega arith)

few_sets : (n : ℕ) → n ≤ 9999 → (x : Bool) → Few 1 (sets n x)
few_sets n h false = few_none
few_sets n h true = few_one n h

few_single : (x : Underline) → Few 1 (sets_single x)
few_single Plain = few_none
few_single Single = few_one 4 (omega arith)
few_single Double = few_none

few_double : (x : Underline) → Few 1 (sets_double x)
few_double Plain = few_none
few_double Single = few_none
few_double Double = few_one 21 (omega arith)

few_blink : (x : Blink) → Few 1 (sets_blink x)
few_blink Steady = few_none
few_blink Slow = few_one 5 (omega arith)
few_blink Rapid = few_one 6 (omega arith)

few_colour : (n : ℕ) → n ≤ 9000 → (x : Colour) → Few 1 (sets_colour n x)
few_colour n h Default = few_none
few_colour n h Black = few_one _ (omega arith)
few_colour n h Red = few_one _ (omega arith)
few_colour n h Green = few_one _ (omega arith)
few_colour n h Yellow = few_one _ (omega arith)
few_colour n h Blue = few_one _ (omega arith)
few_colour n h Magenta = few_one _ (omega arith)
few_colour n h Cyan = few_one _ (omega arith)
few_colour n h White = few_one _ (omega arith)

few_needs : (r : Rendition) → Few 10 (needs_of r)
few_needs r =
    few_append 1 9 _ _ (few_intensity r.intensity) (few_append 1 8 _ _ (few_sets 3 (omega arith) r.italic)
    (few_append 1 7 _ _ (few_single r.underline) (few_append 1 6 _ _ (few_blink r.blink)
    (few_append 1 5 _ _ (few_sets 7 (omega arith) r.negative) (few_append 1 4 _ _ (few_sets 8 (omega arith) r.concealed)
    (few_append 1 3 _ _ (few_sets 9 (omega arith) r.crossed_out) (few_append 1 2 _ _ (few_double r.underline)
    (few_append 1 1 _ _ (few_colour 30 (omega arith) r.foreground) (few_colour 40 (omega arith) r.background)))))))))

pub small_parameters : (r : Rendition) → Low (parameters_of r)
unfolding Few
small_parameters r = (omega arith, (few_needs r).0)

pub few_parameters : (r : Rendition) → length (parameters_of r) ≤ 16
unfolding Few
few_parameters r = omega (arith, (few_needs r).1)
