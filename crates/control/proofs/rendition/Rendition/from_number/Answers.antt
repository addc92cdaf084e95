use Rattle.std.proofs.Common.{◌≡◌, ℕ, zero, suc, ◌/◌, ◌%◌, ◌<◌, eqb, [], ◌∷◌, get_or, refl, arith, rules}
use Rattle.control.specs.declared.rendition.Intensity.TheVariants.{Normal, Bold, Faint}
use Rattle.control.specs.declared.rendition.Underline.TheVariants.{Plain, Single, Double}
use Rattle.control.specs.declared.rendition.Blink.TheVariants.{Steady, Slow, Rapid}
use Rattle.control.specs.declared.rendition.Colour.TheVariants.{Default, Black, Red, Green, Yellow, Blue, Magenta, Cyan, White}
use Rattle.control.specs.Renditions.{to_intensity, to_underline, to_blink, to_flag, to_colour}
use Rattle.control.proofs.Numbers.{numbers_name_renditions, made}
use Rattle.control.proofs.rendition.Rendition.from_number.Goals as goal

-- each table has the variants at their numbers
at_intensity : (m n : ℕ) → m ≡ n → n < 3 → get_or (Normal ∷ Bold ∷ Faint ∷ []) m Normal ≡ to_intensity n
at_intensity m zero e h = rw e refl
at_intensity m (suc zero) e h = rw e refl
at_intensity m (suc (suc zero)) e h = rw e refl
at_intensity m (suc (suc (suc n))) e h = absurd (omega (arith, h))

at_underline : (m n : ℕ) → m ≡ n → n < 3 → get_or (Plain ∷ Single ∷ Double ∷ []) m Plain ≡ to_underline n
at_underline m zero e h = rw e refl
at_underline m (suc zero) e h = rw e refl
at_underline m (suc (suc zero)) e h = rw e refl
at_underline m (suc (suc (suc n))) e h = absurd (omega (arith, h))

at_blink : (m n : ℕ) → m ≡ n → n < 3 → get_or (Steady ∷ Slow ∷ Rapid ∷ []) m Steady ≡ to_blink n
at_blink m zero e h = rw e refl
at_blink m (suc zero) e h = rw e refl
at_blink m (suc (suc zero)) e h = rw e refl
at_blink m (suc (suc (suc n))) e h = absurd (omega (arith, h))

at_colour : (m n : ℕ) → m ≡ n → n < 9 → get_or (Default ∷ Black ∷ Red ∷ Green ∷ Yellow ∷ Blue ∷ Magenta ∷ Cyan ∷ White ∷ []) m Default ≡ to_colour n
at_colour m zero e h = rw e refl
at_colour m (suc zero) e h = rw e refl
at_colour m (suc (suc zero)) e h = rw e refl
at_colour m (suc (suc (suc zero))) e h = rw e refl
at_colour m (suc (suc (suc (suc zero)))) e h = rw e refl
at_colour m (suc (suc (suc (suc (suc zero))))) e h = rw e refl
at_colour m (suc (suc (suc (suc (suc (suc zero)))))) e h = rw e refl
at_colour m (suc (suc (suc (suc (suc (suc (suc zero))))))) e h = rw e refl
at_colour m (suc (suc (suc (suc (suc (suc (suc (suc zero)))))))) e h = rw e refl
at_colour m (suc (suc (suc (suc (suc (suc (suc (suc (suc n))))))))) e h = absurd (omega (arith, h))

is_one : (n : ℕ) → n < 2 → eqb n 1 ≡ to_flag n
is_one zero h = refl
is_one (suc zero) h = refl
is_one (suc (suc n)) h = absurd (omega arith)

pub returns-then-number-ge34992 : goal.returns-then-number-ge34992
returns-then-number-ge34992 c = record { answer = search rules; names = numbers_name_renditions }

pub returns : goal.returns
returns c =
    record {
      answer = made c.if-number-ge34992.false (λ j. record {
        intensity = at_intensity _ (c.args.number % 3) c.from.ensures (omega arith) j;
        italic = is_one (c.args.number / 3 % 2) (omega arith) j;
        underline = at_underline _ (c.args.number / 6 % 3) c.from-2.ensures (omega arith) j;
        blink = at_blink _ (c.args.number / 18 % 3) c.from-3.ensures (omega arith) j;
        negative = is_one (c.args.number / 54 % 2) (omega arith) j;
        concealed = is_one (c.args.number / 108 % 2) (omega arith) j;
        crossed_out = is_one (c.args.number / 216 % 2) (omega arith) j;
        foreground = at_colour _ (c.args.number / 432 % 9) c.from-4.ensures (omega arith) j;
        background = at_colour _ (c.args.number / 3888) c.from-5.ensures (omega (arith, c.if-number-ge34992.false)) j;
      });
      names = numbers_name_renditions;
    }
