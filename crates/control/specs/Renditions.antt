-- Renditions: their aspects, and the number that stands for them.
use Rattle.std.specs.Prelude.{◌≡◌, ℕ, zero, suc, ◌+◌, ◌*◌, ◌/◌, ◌%◌, ◌<◌, Bool, true, false}
use Rattle.control.specs.declared.rendition.Intensity.{Intensity}
use Rattle.control.specs.declared.rendition.Underline.{Underline}
use Rattle.control.specs.declared.rendition.Blink.{Blink}
use Rattle.control.specs.declared.rendition.Colour.{Colour}
use Rattle.control.specs.declared.rendition.Rendition.{Rendition}
use Rattle.control.specs.declared.rendition.Intensity.TheVariants.{Normal, Bold, Faint}
use Rattle.control.specs.declared.rendition.Underline.TheVariants.{Plain, Single, Double}
use Rattle.control.specs.declared.rendition.Blink.TheVariants.{Steady, Slow, Rapid}
use Rattle.control.specs.declared.rendition.Colour.TheVariants.{Default, Black, Red, Green, Yellow, Blue, Magenta, Cyan, White}

-- every aspect at its default
abbrev pub standard : Rendition
standard = record { intensity = Normal; italic = false; underline = Plain; blink = Steady; negative = false; concealed = false; crossed_out = false; foreground = Default; background = Default }

-- the number of each aspect
abbrev pub of_intensity : Intensity → ℕ
of_intensity Normal = 0
of_intensity Bold = 1
of_intensity Faint = 2

abbrev pub of_underline : Underline → ℕ
of_underline Plain = 0
of_underline Single = 1
of_underline Double = 2

abbrev pub of_blink : Blink → ℕ
of_blink Steady = 0
of_blink Slow = 1
of_blink Rapid = 2

abbrev pub of_flag : Bool → ℕ
of_flag false = 0
of_flag true = 1

abbrev pub of_colour : Colour → ℕ
of_colour Default = 0
of_colour Black = 1
of_colour Red = 2
of_colour Green = 3
of_colour Yellow = 4
of_colour Blue = 5
of_colour Magenta = 6
of_colour Cyan = 7
of_colour White = 8

-- the number of a rendition
abbrev pub number : Rendition → ℕ
number r =
    of_intensity r.intensity + 3 * of_flag r.italic + 6 * of_underline r.underline + 18 * of_blink r.blink
    + 54 * of_flag r.negative + 108 * of_flag r.concealed + 216 * of_flag r.crossed_out
    + 432 * of_colour r.foreground + 3888 * of_colour r.background

-- the aspect of each number
abbrev pub to_intensity : ℕ → Intensity
to_intensity zero = Normal
to_intensity (suc zero) = Bold
to_intensity (suc (suc n)) = Faint

abbrev pub to_underline : ℕ → Underline
to_underline zero = Plain
to_underline (suc zero) = Single
to_underline (suc (suc n)) = Double

abbrev pub to_blink : ℕ → Blink
to_blink zero = Steady
to_blink (suc zero) = Slow
to_blink (suc (suc n)) = Rapid

abbrev pub to_flag : ℕ → Bool
to_flag zero = false
to_flag (suc n) = true

abbrev pub to_colour : ℕ → Colour
to_colour zero = Default
to_colour (suc zero) = Black
to_colour (suc (suc zero)) = Red
to_colour (suc (suc (suc zero))) = Green
to_colour (suc (suc (suc (suc zero)))) = Yellow
to_colour (suc (suc (suc (suc (suc zero))))) = Blue
to_colour (suc (suc (suc (suc (suc (suc zero)))))) = Magenta
to_colour (suc (suc (suc (suc (suc (suc (suc zero))))))) = Cyan
to_colour (suc (suc (suc (suc (suc (suc (suc (suc n)))))))) = White

-- the rendition of a number: its digits in the radices 3, 2, 3, 3, 2, 2, 2, 9 and 9
abbrev pub rendition_of : ℕ → Rendition
rendition_of n = record {
  intensity = to_intensity (n % 3);
  italic = to_flag (n / 3 % 2);
  underline = to_underline (n / 6 % 3);
  blink = to_blink (n / 18 % 3);
  negative = to_flag (n / 54 % 2);
  concealed = to_flag (n / 108 % 2);
  crossed_out = to_flag (n / 216 % 2);
  foreground = to_colour (n / 432 % 9);
  background = to_colour (n / 3888);
}

-- each rendition has one number below 34,992, and each such number one rendition
pub record NumbersNameRenditions : Type 0 where
  pub small : (r : Rendition) → number r < 34992
  pub there : (r : Rendition) → rendition_of (number r) ≡ r
  pub back : (n : ℕ) → n < 34992 → number (rendition_of n) ≡ n
