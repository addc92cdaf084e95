-- What every byte does at every standing, as a table by codes.
use Rattle.std.specs.Prelude.{◌≡◌, ℕ, suc, ◌+◌, ◌-◌, true, false, List, [], ◌∷◌, ◌++◌, map, Some, None}
use Rattle.std.specs.List.{range_with_len}
use Rattle.reader.specs.Functions.{Parameter, graphic, control, reset, sequence}
use Rattle.reader.specs.Steps.{Standing, rest, escape, in_parameters, in_intermediates, in_string, in_sos, Outcome, to, ends, with_digit, with_separator, bounded, step}

-- from one code to another, both included, and what a byte there does
pub record Row : Type 0 where
  pub low : ℕ
  pub high : ℕ
  pub does : ℕ → Outcome

abbrev pub row : ℕ → ℕ → (ℕ → Outcome) → Row
row low high does = record { low = low; high = high; does = does }

abbrev pub one : ℕ → (ℕ → Outcome) → Row
one b does = row b b does

-- what a byte can do
abbrev pub performs_graphic : ℕ → Outcome
performs_graphic b = ends (graphic b)

abbrev pub performs_control : ℕ → Outcome
performs_control b = ends (control b)

abbrev pub leads_to : Standing → ℕ → Outcome
leads_to s b = to s

abbrev pub opens_sequence : ℕ → Outcome
opens_sequence b = to (in_parameters (Some []))

abbrev pub as_at_rest : ℕ → Outcome
as_at_rest b = step rest b

-- after ESC, 40-5F is the C1 control 64 higher
abbrev pub as_C1 : ℕ → Outcome
as_C1 b = step rest (b + 64)

abbrev pub performs_reset : ℕ → Outcome
performs_reset b = ends reset

abbrev pub adds_digit : List Parameter → ℕ → Outcome
adds_digit ps b = to (in_parameters (Some (with_digit ps (b - 0x30))))

abbrev pub begins_parameter : List Parameter → ℕ → Outcome
begins_parameter ps b = to (in_parameters (bounded (with_separator ps)))

abbrev pub performs_sequence : List Parameter → ℕ → Outcome
performs_sequence ps b = ends (sequence ps false b)

abbrev pub performs_spaced : List Parameter → ℕ → Outcome
performs_spaced ps b = ends (sequence ps true b)

-- the table
abbrev pub rows : Standing → List Row
rows rest =
    row 0x00 0x1A performs_control ∷ one 0x1B (leads_to (escape false)) ∷ row 0x1C 0x1F performs_control
    ∷ row 0x20 0x7E performs_graphic ∷ one 0x7F (leads_to rest) ∷ row 0x80 0x8F performs_control
    ∷ one 0x90 (leads_to in_string) ∷ row 0x91 0x97 performs_control ∷ one 0x98 (leads_to (in_sos false)) ∷ row 0x99 0x9A performs_control
    ∷ one 0x9B opens_sequence ∷ one 0x9C (leads_to rest) ∷ row 0x9D 0x9F (leads_to in_string) ∷ row 0xA0 0xFF performs_graphic ∷ []
rows (escape false) =
    row 0x00 0x1F as_at_rest ∷ row 0x20 0x2F (leads_to (escape true)) ∷ row 0x30 0x3F (leads_to rest) ∷ row 0x40 0x5F as_C1
    ∷ row 0x60 0x62 (leads_to rest) ∷ one 0x63 performs_reset ∷ row 0x64 0x7E (leads_to rest) ∷ row 0x7F 0xFF as_at_rest ∷ []
rows (escape true) = row 0x00 0x1F as_at_rest ∷ row 0x20 0x2F (leads_to (escape true)) ∷ row 0x30 0x7E (leads_to rest) ∷ row 0x7F 0xFF as_at_rest ∷ []
rows (in_parameters (Some ps)) =
    row 0x00 0x1F as_at_rest ∷ one 0x20 (leads_to (in_intermediates (Some ps))) ∷ row 0x21 0x2F (leads_to (in_intermediates None))
    ∷ row 0x30 0x39 (adds_digit ps) ∷ one 0x3A (leads_to (in_parameters None)) ∷ one 0x3B (begins_parameter ps) ∷ row 0x3C 0x3F (leads_to (in_parameters None))
    ∷ row 0x40 0x7E (performs_sequence ps) ∷ row 0x7F 0xFF as_at_rest ∷ []
rows (in_parameters None) =
    row 0x00 0x1F as_at_rest ∷ row 0x20 0x2F (leads_to (in_intermediates None)) ∷ row 0x30 0x3F (leads_to (in_parameters None)) ∷ row 0x40 0x7E (leads_to rest) ∷ row 0x7F 0xFF as_at_rest ∷ []
rows (in_intermediates (Some ps)) =
    row 0x00 0x1F as_at_rest ∷ row 0x20 0x2F (leads_to (in_intermediates None)) ∷ row 0x30 0x3F as_at_rest ∷ row 0x40 0x7E (performs_spaced ps) ∷ row 0x7F 0xFF as_at_rest ∷ []
rows (in_intermediates None) =
    row 0x00 0x1F as_at_rest ∷ row 0x20 0x2F (leads_to (in_intermediates None)) ∷ row 0x30 0x3F as_at_rest ∷ row 0x40 0x7E (leads_to rest) ∷ row 0x7F 0xFF as_at_rest ∷ []
rows in_string =
    row 0x00 0x07 as_at_rest ∷ row 0x08 0x0D (leads_to in_string) ∷ row 0x0E 0x1F as_at_rest ∷ row 0x20 0x7E (leads_to in_string) ∷ row 0x7F 0xFF as_at_rest ∷ []
rows (in_sos false) = row 0x00 0x1A (leads_to (in_sos false)) ∷ one 0x1B (leads_to (in_sos true)) ∷ row 0x1C 0x9B (leads_to (in_sos false)) ∷ one 0x9C (leads_to rest) ∷ row 0x9D 0xFF (leads_to (in_sos false)) ∷ []
rows (in_sos true) =
    row 0x00 0x1A (leads_to (in_sos false)) ∷ one 0x1B (leads_to (in_sos true)) ∷ row 0x1C 0x5B (leads_to (in_sos false)) ∷ one 0x5C (leads_to rest)
    ∷ row 0x5D 0x9B (leads_to (in_sos false)) ∷ one 0x9C (leads_to rest) ∷ row 0x9D 0xFF (leads_to (in_sos false)) ∷ []

-- each byte of the rows in order, with what it does
abbrev pub written : List Row → List (ℕ × Outcome)
written [] = []
written (r ∷ rs) = map (λ b. (b, r.does b)) (range_with_len r.low (suc r.high - r.low)) ++ written rs

-- at every standing the rows go once over 00-FF, without gap or overlap, and say what the step does
abbrev pub BytesByStanding : Type 0
BytesByStanding = (s : Standing) → map (λ b. (b, step s b)) (range_with_len 0x00 0x100) ≡ written (rows s)
