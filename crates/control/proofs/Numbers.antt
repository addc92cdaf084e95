-- Each rendition has one number, and each number below 34,992 one rendition.
use Rattle.std.proofs.Common.{◌≡◌, ℕ, zero, suc, ◌+◌, ◌*◌, ◌/◌, ◌%◌, ◌<◌, Bool, true, false, cond, ltb, Some, None, sym, refl, ap, ◌∙◌, arith}
use Rattle.std.proofs.lemmas.Bool.{cond-true, lt-ltb}
use Rattle.control.specs.declared.rendition.Intensity.{Intensity}
use Rattle.control.specs.declared.rendition.Underline.{Underline}
use Rattle.control.specs.declared.rendition.Blink.{Blink}
use Rattle.control.specs.declared.rendition.Colour.{Colour}
use Rattle.control.specs.declared.rendition.Rendition.{Rendition}
use Rattle.control.specs.declared.rendition.Intensity.TheVariants.{Normal, Bold, Faint}
use Rattle.control.specs.declared.rendition.Underline.TheVariants.{Plain, Single, Double}
use Rattle.control.specs.declared.rendition.Blink.TheVariants.{Steady, Slow, Rapid}
use Rattle.control.specs.declared.rendition.Colour.TheVariants.{Default, Black, Red, Green, Yellow, Blue, Magenta, Cyan, White}
use Rattle.control.specs.Renditions.{number, rendition_of, of_intensity, of_underline, of_blink, of_flag, of_colour, to_intensity, to_underline, to_blink, to_flag, to_colour, NumbersNameRenditions}

-- from a digit to its aspect and back
back_intensity : (n : ℕ) → n < 3 → of_intensity (to_intensity n) ≡ n
back_intensity zero h = refl
back_intensity (suc zero) h = refl
back_intensity (suc (suc zero)) h = refl
back_intensity (suc (suc (suc n))) h = absurd (omega arith)

back_underline : (n : ℕ) → n < 3 → of_underline (to_underline n) ≡ n
back_underline zero h = refl
back_underline (suc zero) h = refl
back_underline (suc (suc zero)) h = refl
back_underline (suc (suc (suc n))) h = absurd (omega arith)

back_blink : (n : ℕ) → n < 3 → of_blink (to_blink n) ≡ n
back_blink zero h = refl
back_blink (suc zero) h = refl
back_blink (suc (suc zero)) h = refl
back_blink (suc (suc (suc n))) h = absurd (omega arith)

back_flag : (n : ℕ) → n < 2 → of_flag (to_flag n) ≡ n
back_flag zero h = refl
back_flag (suc zero) h = refl
back_flag (suc (suc n)) h = absurd (omega arith)

back_colour : (n : ℕ) → n < 9 → of_colour (to_colour n) ≡ n
back_colour zero h = refl
back_colour (suc zero) h = refl
back_colour (suc (suc zero)) h = refl
back_colour (suc (suc (suc zero))) h = refl
back_colour (suc (suc (suc (suc zero)))) h = refl
back_colour (suc (suc (suc (suc (suc zero))))) h = refl
back_colour (suc (suc (suc (suc (suc (suc zero)))))) h = refl
back_colour (suc (suc (suc (suc (suc (suc (suc zero))))))) h = refl
back_colour (suc (suc (suc (suc (suc (suc (suc (suc zero)))))))) h = refl
back_colour (suc (suc (suc (suc (suc (suc (suc (suc (suc n))))))))) h = absurd (omega arith)

back : (n : ℕ) → n < 34992 → number (rendition_of n) ≡ n
back n small =
    let i = back_intensity (n % 3) (omega arith) in
    let t = back_flag (n / 3 % 2) (omega arith) in
    let u = back_underline (n / 6 % 3) (omega arith) in
    let b = back_blink (n / 18 % 3) (omega arith) in
    let g = back_flag (n / 54 % 2) (omega arith) in
    let c = back_flag (n / 108 % 2) (omega arith) in
    let x = back_flag (n / 216 % 2) (omega arith) in
    let f = back_colour (n / 432 % 9) (omega arith) in
    let k = back_colour (n / 3888) (omega arith) in
    omega arith

-- from an aspect to its digit, which is small, and back
low_intensity : (x : Intensity) → (of_intensity x < 3) × (to_intensity (of_intensity x) ≡ x)
low_intensity Normal = (omega arith, refl)
low_intensity Bold = (omega arith, refl)
low_intensity Faint = (omega arith, refl)

low_underline : (x : Underline) → (of_underline x < 3) × (to_underline (of_underline x) ≡ x)
low_underline Plain = (omega arith, refl)
low_underline Single = (omega arith, refl)
low_underline Double = (omega arith, refl)

low_blink : (x : Blink) → (of_blink x < 3) × (to_blink (of_blink x) ≡ x)
low_blink Steady = (omega arith, refl)
low_blink Slow = (omega arith, refl)
low_blink Rapid = (omega arith, refl)

low_flag : (x : Bool) → (of_flag x < 2) × (to_flag (of_flag x) ≡ x)
low_flag true = (omega arith, refl)
low_flag false = (omega arith, refl)

low_colour : (x : Colour) → (of_colour x < 9) × (to_colour (of_colour x) ≡ x)
low_colour Default = (omega arith, refl)
low_colour Black = (omega arith, refl)
low_colour Red = (omega arith, refl)
low_colour Green = (omega arith, refl)
low_colour Yellow = (omega arith, refl)
low_colour Blue = (omega arith, refl)
low_colour Magenta = (omega arith, refl)
low_colour Cyan = (omega arith, refl)
low_colour White = (omega arith, refl)

-- the digits of a number in mixed radix
module _ (i t u b g c x f k : ℕ) (hi : i < 3) (ht : t < 2) (hu : u < 3) (hb : b < 3) (hg : g < 2) (hc : c < 2) (hx : x < 2) (hf : f < 9) (hk : k < 9) where
  sum : ℕ
  sum = i + 3 * t + 6 * u + 18 * b + 54 * g + 108 * c + 216 * x + 432 * f + 3888 * k

  sum_small : sum < 34992
  unfolding sum
  sum_small = omega arith

  digit_i : sum % 3 ≡ i
  unfolding sum
  digit_i = omega arith

  digit_t : sum / 3 % 2 ≡ t
  unfolding sum
  digit_t = omega arith

  digit_u : sum / 6 % 3 ≡ u
  unfolding sum
  digit_u = omega arith

  digit_b : sum / 18 % 3 ≡ b
  unfolding sum
  digit_b = omega arith

  digit_g : sum / 54 % 2 ≡ g
  unfolding sum
  digit_g = omega arith

  digit_c : sum / 108 % 2 ≡ c
  unfolding sum
  digit_c = omega arith

  digit_x : sum / 216 % 2 ≡ x
  unfolding sum
  digit_x = omega arith

  digit_f : sum / 432 % 9 ≡ f
  unfolding sum
  digit_f = omega arith

  digit_k : sum / 3888 ≡ k
  unfolding sum
  digit_k = omega arith

there : (r : Rendition) → rendition_of (number r) ≡ r
unfolding sum
there r =
    let i = low_intensity r.intensity in
    let t = low_flag r.italic in
    let u = low_underline r.underline in
    let b = low_blink r.blink in
    let g = low_flag r.negative in
    let c = low_flag r.concealed in
    let x = low_flag r.crossed_out in
    let f = low_colour r.foreground in
    let k = low_colour r.background in
    λ j. record {
      intensity = (ap to_intensity (digit_i _ _ _ _ _ _ _ _ _ i.0 t.0 u.0 b.0 g.0 c.0 x.0 f.0 k.0) ∙ i.1) j;
      italic = (ap to_flag (digit_t _ _ _ _ _ _ _ _ _ i.0 t.0 u.0 b.0 g.0 c.0 x.0 f.0 k.0) ∙ t.1) j;
      underline = (ap to_underline (digit_u _ _ _ _ _ _ _ _ _ i.0 t.0 u.0 b.0 g.0 c.0 x.0 f.0 k.0) ∙ u.1) j;
      blink = (ap to_blink (digit_b _ _ _ _ _ _ _ _ _ i.0 t.0 u.0 b.0 g.0 c.0 x.0 f.0 k.0) ∙ b.1) j;
      negative = (ap to_flag (digit_g _ _ _ _ _ _ _ _ _ i.0 t.0 u.0 b.0 g.0 c.0 x.0 f.0 k.0) ∙ g.1) j;
      concealed = (ap to_flag (digit_c _ _ _ _ _ _ _ _ _ i.0 t.0 u.0 b.0 g.0 c.0 x.0 f.0 k.0) ∙ c.1) j;
      crossed_out = (ap to_flag (digit_x _ _ _ _ _ _ _ _ _ i.0 t.0 u.0 b.0 g.0 c.0 x.0 f.0 k.0) ∙ x.1) j;
      foreground = (ap to_colour (digit_f _ _ _ _ _ _ _ _ _ i.0 t.0 u.0 b.0 g.0 c.0 x.0 f.0 k.0) ∙ f.1) j;
      background = (ap to_colour (digit_k _ _ _ _ _ _ _ _ _ i.0 t.0 u.0 b.0 g.0 c.0 x.0 f.0 k.0) ∙ k.1) j;
    }

small : (r : Rendition) → number r < 34992
unfolding sum
small r =
    let i = low_intensity r.intensity in
    let t = low_flag r.italic in
    let u = low_underline r.underline in
    let b = low_blink r.blink in
    let g = low_flag r.negative in
    let c = low_flag r.concealed in
    let x = low_flag r.crossed_out in
    let f = low_colour r.foreground in
    let k = low_colour r.background in
    sum_small _ _ _ _ _ _ _ _ _ i.0 t.0 u.0 b.0 g.0 c.0 x.0 f.0 k.0

pub numbers_name_renditions : NumbersNameRenditions
numbers_name_renditions = record { small = small; there = there; back = back }

-- the rendition of a number that has one
pub made : {n : ℕ} {r : Rendition} → n < 34992 → r ≡ rendition_of n → Some r ≡ cond (ltb n 34992) (Some (rendition_of n)) None
made {n} {r} h e = ap Some e ∙ sym (cond-true (ltb n 34992) _ _ (lt-ltb n 34992 h))
