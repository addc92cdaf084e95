-- SGR of the parameter of an aspect sets that aspect.
use Rattle.std.proofs.Common.{◌≡◌, ℕ, ◌+◌, ◌-◌, Some, sym, refl, ap, arith}
use denote.Enum.Declared.{tag_of}
use Rattle.std.specs.Option.{unwrap_or}
use Rattle.control.specs.contracts.rendition.Colour.{the_type}
use Rattle.control.specs.declared.rendition.Colour.{Colour}
use Rattle.control.specs.declared.rendition.Intensity.TheVariants.{Normal, Bold, Faint}
use Rattle.control.specs.declared.rendition.Underline.TheVariants.{Plain, Single, Double}
use Rattle.control.specs.declared.rendition.Blink.TheVariants.{Steady, Slow, Rapid}
use Rattle.control.specs.declared.rendition.Colour.TheVariants.{Default, Black, Red, Green, Yellow, Blue, Magenta, Cyan, White}
use Rattle.control.specs.declared.rendition.Ground.TheVariants.{Foreground, Background}
use Rattle.control.specs.declared.rendition.Rendition.{Rendition}
use Rattle.control.specs.Selecting.{changed}
use Rattle.control.specs.Setting.{SetsIntensity, SetsUnderline, SetsBlink, SetsColour, colour_parameter}

-- a value that is there is n
by : (m n : ℕ) (r : Rendition) → Some m ≡ Some n → changed n r ≡ changed m r
by m n r e = ap (λ k. changed k r) (sym (ap (λ o. unwrap_or o 0) e))

pub sets_intensity : SetsIntensity
sets_intensity Normal n r e = grind (arith, e)
sets_intensity Bold n r e = by 1 n r e
sets_intensity Faint n r e = by 2 n r e

pub sets_underline : SetsUnderline
sets_underline Plain n r e = grind (arith, e)
sets_underline Single n r e = by 4 n r e
sets_underline Double n r e = by 21 n r e

pub sets_blink : SetsBlink
sets_blink Steady n r e = grind (arith, e)
sets_blink Slow n r e = by 5 n r e
sets_blink Rapid n r e = by 6 n r e

pub sets_colour : SetsColour
sets_colour Foreground Default n r e = grind (arith, e)
sets_colour Foreground Black n r e = by 30 n r e
sets_colour Foreground Red n r e = by 31 n r e
sets_colour Foreground Green n r e = by 32 n r e
sets_colour Foreground Yellow n r e = by 33 n r e
sets_colour Foreground Blue n r e = by 34 n r e
sets_colour Foreground Magenta n r e = by 35 n r e
sets_colour Foreground Cyan n r e = by 36 n r e
sets_colour Foreground White n r e = by 37 n r e
sets_colour Background Default n r e = grind (arith, e)
sets_colour Background Black n r e = by 40 n r e
sets_colour Background Red n r e = by 41 n r e
sets_colour Background Green n r e = by 42 n r e
sets_colour Background Yellow n r e = by 43 n r e
sets_colour Background Blue n r e = by 44 n r e
sets_colour Background Magenta n r e = by 45 n r e
sets_colour Background Cyan n r e = by 46 n r e
sets_colour Background White n r e = by 47 n r e

-- the colours from black on; tag_of is the checker's own word for `as u16` of a variant, of
-- which the library has no lemma
pub past_black : (b n : ℕ) (x : Colour) → b ≡ n → (x ≡ Default → ⊥) → Some (b + tag_of the_type x - 1) ≡ colour_parameter n x
past_black b n Default e h = absurd (h refl)
past_black b n Black e h = ap Some (omega (arith, e))
past_black b n Red e h = ap Some (omega (arith, e))
past_black b n Green e h = ap Some (omega (arith, e))
past_black b n Yellow e h = ap Some (omega (arith, e))
past_black b n Blue e h = ap Some (omega (arith, e))
past_black b n Magenta e h = ap Some (omega (arith, e))
past_black b n Cyan e h = ap Some (omega (arith, e))
past_black b n White e h = ap Some (omega (arith, e))
