-- What parameters select: their defaults, SGR, SM and RM.
use Rattle.std.specs.Prelude.{ℕ, max, Bool, true, false, cond, List, [], ◌∷◌, Some, None, fold, ◌==◌}
use Rattle.reader.specs.Functions.{Parameter}
use Rattle.control.specs.declared.modes.Modes.{Modes}
use Rattle.control.specs.declared.rendition.Intensity.{Intensity}
use Rattle.control.specs.declared.rendition.Underline.{Underline}
use Rattle.control.specs.declared.rendition.Blink.{Blink}
use Rattle.control.specs.declared.rendition.Colour.{Colour}
use Rattle.control.specs.declared.rendition.Rendition.{Rendition}
use Rattle.control.specs.declared.rendition.Intensity.TheVariants.{Normal, Bold, Faint}
use Rattle.control.specs.declared.rendition.Underline.TheVariants.{Plain, Single, Double}
use Rattle.control.specs.declared.rendition.Blink.TheVariants.{Steady, Slow, Rapid}
use Rattle.control.specs.declared.rendition.Colour.TheVariants.{Default, Black, Red, Green, Yellow, Blue, Magenta, Cyan, White}
use Rattle.control.specs.Renditions.{standard}
use Rattle.control.specs.Tables.{pick}

-- a numeric parameter missing, empty or 0 is 1
abbrev pub numeric : Parameter → ℕ
numeric None = 1
numeric (Some n) = max 1 n

-- a selective one missing or empty is 0
abbrev pub selective : Parameter → ℕ
selective None = 0
selective (Some n) = n

-- one aspect set, the others kept
abbrev pub with_intensity : Intensity → Rendition → Rendition
with_intensity x r = record { intensity = x; italic = r.italic; underline = r.underline; blink = r.blink; negative = r.negative; concealed = r.concealed; crossed_out = r.crossed_out; foreground = r.foreground; background = r.background }

abbrev pub with_italic : Bool → Rendition → Rendition
with_italic x r = record { intensity = r.intensity; italic = x; underline = r.underline; blink = r.blink; negative = r.negative; concealed = r.concealed; crossed_out = r.crossed_out; foreground = r.foreground; background = r.background }

abbrev pub with_underline : Underline → Rendition → Rendition
with_underline x r = record { intensity = r.intensity; italic = r.italic; underline = x; blink = r.blink; negative = r.negative; concealed = r.concealed; crossed_out = r.crossed_out; foreground = r.foreground; background = r.background }

abbrev pub with_blink : Blink → Rendition → Rendition
with_blink x r = record { intensity = r.intensity; italic = r.italic; underline = r.underline; blink = x; negative = r.negative; concealed = r.concealed; crossed_out = r.crossed_out; foreground = r.foreground; background = r.background }

abbrev pub with_negative : Bool → Rendition → Rendition
with_negative x r = record { intensity = r.intensity; italic = r.italic; underline = r.underline; blink = r.blink; negative = x; concealed = r.concealed; crossed_out = r.crossed_out; foreground = r.foreground; background = r.background }

abbrev pub with_concealed : Bool → Rendition → Rendition
with_concealed x r = record { intensity = r.intensity; italic = r.italic; underline = r.underline; blink = r.blink; negative = r.negative; concealed = x; crossed_out = r.crossed_out; foreground = r.foreground; background = r.background }

abbrev pub with_crossed : Bool → Rendition → Rendition
with_crossed x r = record { intensity = r.intensity; italic = r.italic; underline = r.underline; blink = r.blink; negative = r.negative; concealed = r.concealed; crossed_out = x; foreground = r.foreground; background = r.background }

abbrev pub with_foreground : Colour → Rendition → Rendition
with_foreground x r = record { intensity = r.intensity; italic = r.italic; underline = r.underline; blink = r.blink; negative = r.negative; concealed = r.concealed; crossed_out = r.crossed_out; foreground = x; background = r.background }

abbrev pub with_background : Colour → Rendition → Rendition
with_background x r = record { intensity = r.intensity; italic = r.italic; underline = r.underline; blink = r.blink; negative = r.negative; concealed = r.concealed; crossed_out = r.crossed_out; foreground = r.foreground; background = x }

-- what each value of SGR makes of a rendition
abbrev pub changes : Rendition → List (ℕ × Rendition)
changes r =
    (0, standard) ∷ (1, with_intensity Bold r) ∷ (2, with_intensity Faint r) ∷ (3, with_italic true r) ∷ (4, with_underline Single r)
    ∷ (5, with_blink Slow r) ∷ (6, with_blink Rapid r) ∷ (7, with_negative true r) ∷ (8, with_concealed true r) ∷ (9, with_crossed true r)
    ∷ (21, with_underline Double r) ∷ (22, with_intensity Normal r) ∷ (23, with_italic false r) ∷ (24, with_underline Plain r)
    ∷ (25, with_blink Steady r) ∷ (27, with_negative false r) ∷ (28, with_concealed false r) ∷ (29, with_crossed false r)
    ∷ (30, with_foreground Black r) ∷ (31, with_foreground Red r) ∷ (32, with_foreground Green r) ∷ (33, with_foreground Yellow r)
    ∷ (34, with_foreground Blue r) ∷ (35, with_foreground Magenta r) ∷ (36, with_foreground Cyan r) ∷ (37, with_foreground White r) ∷ (39, with_foreground Default r)
    ∷ (40, with_background Black r) ∷ (41, with_background Red r) ∷ (42, with_background Green r) ∷ (43, with_background Yellow r)
    ∷ (44, with_background Blue r) ∷ (45, with_background Magenta r) ∷ (46, with_background Cyan r) ∷ (47, with_background White r) ∷ (49, with_background Default r) ∷ []

-- one value; any other has no effect
abbrev pub changed : ℕ → Rendition → Rendition
changed n r = pick n (changes r) r

-- values in order
abbrev pub changed_all : List Parameter → Rendition → Rendition
changed_all ps r = fold (λ a p. changed (selective p) a) r ps

-- SGR: none is 0; where renditions do not combine, it begins from the standard one
abbrev pub selected : List Parameter → Bool → Rendition → Rendition
selected [] combine r = standard
selected (p ∷ ps) combine r = changed_all (p ∷ ps) (cond combine r standard)

-- 4 is IRM, 21 is GRCM; any other has no effect
abbrev pub set_mode : Bool → ℕ → Modes → Modes
set_mode b n m = cond (n == 4) (record { insertion = b; combination = m.combination }) (cond (n == 21) (record { insertion = m.insertion; combination = b }) m)

-- SM and RM
abbrev pub set_all : Bool → List Parameter → Modes → Modes
set_all b ps m = fold (λ a p. set_mode b (selective p) a) m ps
