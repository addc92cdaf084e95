-- The parameters of SGR that set an aspect.
use Rattle.std.specs.Prelude.{◌≡◌, ℕ, ◌+◌, Option, Some, None}
use Rattle.control.specs.declared.rendition.Intensity.{Intensity}
use Rattle.control.specs.declared.rendition.Underline.{Underline}
use Rattle.control.specs.declared.rendition.Blink.{Blink}
use Rattle.control.specs.declared.rendition.Colour.{Colour}
use Rattle.control.specs.declared.rendition.Ground.{Ground}
use Rattle.control.specs.declared.rendition.Rendition.{Rendition}
use Rattle.control.specs.declared.rendition.Intensity.TheVariants.{Normal, Bold, Faint}
use Rattle.control.specs.declared.rendition.Underline.TheVariants.{Plain, Single, Double}
use Rattle.control.specs.declared.rendition.Blink.TheVariants.{Steady, Slow, Rapid}
use Rattle.control.specs.declared.rendition.Colour.TheVariants.{Default, Black, Red, Green, Yellow, Blue, Magenta, Cyan, White}
use Rattle.control.specs.declared.rendition.Ground.TheVariants.{Foreground, Background}
use Rattle.control.specs.Selecting.{changed, with_intensity, with_underline, with_blink, with_foreground, with_background}

-- none where the aspect is at its default
abbrev pub intensity_parameter : Intensity → Option ℕ
intensity_parameter Normal = None
intensity_parameter Bold = Some 1
intensity_parameter Faint = Some 2

abbrev pub underline_parameter : Underline → Option ℕ
underline_parameter Plain = None
underline_parameter Single = Some 4
underline_parameter Double = Some 21

abbrev pub blink_parameter : Blink → Option ℕ
blink_parameter Steady = None
blink_parameter Slow = Some 5
blink_parameter Rapid = Some 6

-- the parameter of black, and of the colours from it on
abbrev pub black_of : Ground → ℕ
black_of Foreground = 30
black_of Background = 40

abbrev pub colour_parameter : ℕ → Colour → Option ℕ
colour_parameter n Default = None
colour_parameter n Black = Some n
colour_parameter n Red = Some (n + 1)
colour_parameter n Green = Some (n + 2)
colour_parameter n Yellow = Some (n + 3)
colour_parameter n Blue = Some (n + 4)
colour_parameter n Magenta = Some (n + 5)
colour_parameter n Cyan = Some (n + 6)
colour_parameter n White = Some (n + 7)

-- a rendition with one colour of that ground
abbrev pub with_colour : Ground → Colour → Rendition → Rendition
with_colour Foreground x r = with_foreground x r
with_colour Background x r = with_background x r

-- SGR of that parameter sets that aspect, and keeps the others
abbrev pub SetsIntensity : Type 0
SetsIntensity = (x : Intensity) (n : ℕ) (r : Rendition) → intensity_parameter x ≡ Some n → changed n r ≡ with_intensity x r

abbrev pub SetsUnderline : Type 0
SetsUnderline = (x : Underline) (n : ℕ) (r : Rendition) → underline_parameter x ≡ Some n → changed n r ≡ with_underline x r

abbrev pub SetsBlink : Type 0
SetsBlink = (x : Blink) (n : ℕ) (r : Rendition) → blink_parameter x ≡ Some n → changed n r ≡ with_blink x r

abbrev pub SetsColour : Type 0
SetsColour = (g : Ground) (x : Colour) (n : ℕ) (r : Rendition) → colour_parameter (black_of g) x ≡ Some n → changed n r ≡ with_colour g x r
