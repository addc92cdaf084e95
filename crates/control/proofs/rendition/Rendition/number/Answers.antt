use Rattle.std.proofs.Common.{◌≡◌, ◌+◌, ◌*◌, Bool, true, false, refl, ◌∙◌}
use mir.Val.{bool_byte}
use denote.Enum.Declared.{tag_of}
use Rattle.control.specs.contracts.rendition.Intensity as intensity
use Rattle.control.specs.contracts.rendition.Underline as underline
use Rattle.control.specs.contracts.rendition.Blink as blink
use Rattle.control.specs.contracts.rendition.Colour as colour
use Rattle.control.specs.declared.rendition.Intensity.{Intensity}
use Rattle.control.specs.declared.rendition.Underline.{Underline}
use Rattle.control.specs.declared.rendition.Blink.{Blink}
use Rattle.control.specs.declared.rendition.Colour.{Colour}
use Rattle.control.specs.declared.rendition.Intensity.TheVariants.{Normal, Bold, Faint}
use Rattle.control.specs.declared.rendition.Underline.TheVariants.{Plain, Single, Double}
use Rattle.control.specs.declared.rendition.Blink.TheVariants.{Steady, Slow, Rapid}
use Rattle.control.specs.declared.rendition.Colour.TheVariants.{Default, Black, Red, Green, Yellow, Blue, Magenta, Cyan, White}
use Rattle.control.specs.Renditions.{of_intensity, of_underline, of_blink, of_flag, of_colour}
use Rattle.control.proofs.rendition.Rendition.number.Goals as goal

-- a variant's number is its place among the variants; tag_of and bool_byte, what `as u16` and `u16::from` are, are the checker's own words,
-- of which the library has no lemma
place_intensity : (x : Intensity) → tag_of intensity.the_type x ≡ of_intensity x
place_intensity Normal = refl
place_intensity Bold = refl
place_intensity Faint = refl

place_underline : (x : Underline) → tag_of underline.the_type x ≡ of_underline x
place_underline Plain = refl
place_underline Single = refl
place_underline Double = refl

place_blink : (x : Blink) → tag_of blink.the_type x ≡ of_blink x
place_blink Steady = refl
place_blink Slow = refl
place_blink Rapid = refl

place_colour : (x : Colour) → tag_of colour.the_type x ≡ of_colour x
place_colour Default = refl
place_colour Black = refl
place_colour Red = refl
place_colour Green = refl
place_colour Yellow = refl
place_colour Blue = refl
place_colour Magenta = refl
place_colour Cyan = refl
place_colour White = refl

flag : (x : Bool) → bool_byte x ≡ of_flag x
flag true = refl
flag false = refl

pub returns-clause-answer : goal.returns-clause-answer
returns-clause-answer c =
    let r = c.args.self in
    λ j. place_intensity r.intensity j + 3 * (c.from.ensures ∙ flag r.italic) j + 6 * place_underline r.underline j + 18 * place_blink r.blink j
    + 54 * (c.from-2.ensures ∙ flag r.negative) j + 108 * (c.from-3.ensures ∙ flag r.concealed) j + 216 * (c.from-4.ensures ∙ flag r.crossed_out) j
    + 432 * place_colour r.foreground j + 3888 * place_colour r.background j
