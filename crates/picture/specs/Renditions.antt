-- The parameters of SGR that make a rendition.
use Rattle.std.specs.Prelude.{ℕ, Bool, true, false, List, [], ◌∷◌, ◌++◌}
use Rattle.std.specs.Option.{option_to_list}
use Rattle.control.specs.declared.rendition.Intensity.{Intensity}
use Rattle.control.specs.declared.rendition.Underline.{Underline}
use Rattle.control.specs.declared.rendition.Blink.{Blink}
use Rattle.control.specs.declared.rendition.Colour.{Colour}
use Rattle.control.specs.declared.rendition.Rendition.{Rendition}
use Rattle.control.specs.declared.rendition.Underline.TheVariants.{Plain, Single, Double}
use Rattle.control.specs.Setting.{intensity_parameter, blink_parameter, colour_parameter}

-- the parameter that sets an aspect, if it is not at its default
abbrev pub sets : ℕ → Bool → List ℕ
sets n false = []
sets n true = n ∷ []

abbrev pub sets_intensity : Intensity → List ℕ
sets_intensity x = option_to_list (intensity_parameter x)

abbrev pub sets_blink : Blink → List ℕ
sets_blink x = option_to_list (blink_parameter x)

-- a single underline stands at 4, a double one at 21
abbrev pub sets_single : Underline → List ℕ
sets_single Plain = []
sets_single Single = 4 ∷ []
sets_single Double = []

abbrev pub sets_double : Underline → List ℕ
sets_double Plain = []
sets_double Single = []
sets_double Double = 21 ∷ []

-- colours from 30 or 40 on
abbrev pub sets_colour : ℕ → Colour → List ℕ
sets_colour n x = option_to_list (colour_parameter n x)

-- one for each aspect in need, ascending
abbrev pub needs_of : Rendition → List ℕ
needs_of r =
    sets_intensity r.intensity ++ (sets 3 r.italic ++ (sets_single r.underline ++ (sets_blink r.blink
    ++ (sets 7 r.negative ++ (sets 8 r.concealed ++ (sets 9 r.crossed_out ++ (sets_double r.underline
    ++ (sets_colour 30 r.foreground ++ sets_colour 40 r.background))))))))

-- 0 first
abbrev pub parameters_of : Rendition → List ℕ
parameters_of r = 0 ∷ needs_of r
