-- Functions that are written are read back.
use Rattle.std.proofs.Common.{◌≡◌, ℕ, ◌+◌, ◌-◌, ◌*◌, ◌/◌, ◌%◌, ◌≤◌, min, Bool, true, false, cond, ◌&&◌, ◌||◌, eqb, ltb, leb, List, [], ◌∷◌, ◌++◌, map, length, Some, None, sym, refl, ap, ◌∙◌, subst, inr, zero-add, arith}
use Rattle.std.proofs.lemmas.List.{length-map}
use Rattle.std.proofs.lemmas.Bool.{cond-true, cond-false, cond_both, ltb-true, ltb-false, leb-true, le-leb, and_from}
use Rattle.std.proofs.lemmas.Bool.Decides.{nat_tests}
use Rattle.reader.specs.declared.item.Kind.TheVariants.{Sequence}
use Rattle.reader.specs.Bytes.{among, is_graphic, is_digit, is_separator, is_parameter, is_intermediate, is_opener, ends_sequence, AllOf}
use Rattle.reader.specs.Functions.{Parameter, Parameters, Function, graphic, control, reset, sequence}
use Rattle.reader.specs.Steps.{Standing, Outcome, rest, escape, at_rest, step, standing_after, performed}
use Rattle.reader.specs.Items.{Sequenced}
use Rattle.reader.specs.Numbers.{onto, parts, decimal, value, plain, numbers, sequence_performs}
use Rattle.reader.proofs.Parts.{standing_parts, performed_parts}
use Rattle.reader.proofs.Sequences.{sequence_performed}
use Rattle.reader.proofs.Endings.{behind_item}
use Rattle.picture.specs.Writing.{digits, parameter_bytes, more_bytes, parameters_bytes, space_bytes, written, all_written}
use Rattle.picture.specs.Writable.{is_single, Small, Fits, Writable, ReadsBack}

-- digits that read as a number
record Reads (n : ℕ) (l : List ℕ) : Type 0 where
  is : value l ≡ Some n
  all : AllOf is_digit l

figure : (x : ℕ) → 0x30 + x - 0x30 ≡ x
figure x = omega arith

thousands : (n : ℕ) → n ≤ 9999 → ((n / 1000 * 10 + n / 100 % 10) * 10 + n / 10 % 10) * 10 + n % 10 ≡ n
thousands n h =
    let a : n / 1000 * 10 + n / 100 % 10 ≡ n / 100 = omega arith in
    let b : n / 100 * 10 + n / 10 % 10 ≡ n / 10 = omega arith in
    ap (λ m. (m * 10 + n / 10 % 10) * 10 + n % 10) a ∙ ap (λ m. m * 10 + n % 10) b ∙ omega arith

four : (n : ℕ) → n ≤ 9999 → min 9999 (decimal 0 ((0x30 + n / 1000) ∷ (0x30 + n / 100 % 10) ∷ (0x30 + n / 10 % 10) ∷ (0x30 + n % 10) ∷ [])) ≡ n
four n h =
    ap (min 9999) ((λ i. (((0 * 10 + figure (n / 1000) i) * 10 + figure (n / 100 % 10) i) * 10 + figure (n / 10 % 10) i) * 10 + figure (n % 10) i) ∙ ap (λ m. ((m * 10 + n / 100 % 10) * 10 + n / 10 % 10) * 10 + n % 10) (zero-add (n / 1000)) ∙ thousands n h)
    ∙ omega arith

digits_read : (n : ℕ) → n ≤ 9999 → Reads n (digits n)
unfolding digits
digits_read n h =
    cond_both (ltb n 10) _ _ (Reads n)
    (λ e. let a = ltb-true n 10 e in record { is = ap Some (omega arith); all = (grind (arith, nat_tests), tt) })
    (λ e. let b = ltb-false n 10 e in cond_both (ltb n 100) _ _ (Reads n)
    (λ e. let a = ltb-true n 100 e in record { is = ap Some (omega arith); all = (grind (arith, nat_tests), (grind (arith, nat_tests), tt)) })
    (λ e. let b = ltb-false n 100 e in cond_both (ltb n 1000) _ _ (Reads n)
    (λ e. let a = ltb-true n 1000 e in record { is = ap Some (omega arith); all = (grind (arith, nat_tests), (grind (arith, nat_tests), (grind (arith, nat_tests), tt))) })
    (λ e. let b = ltb-false n 1000 e in record { is = ap Some (four n h); all = (grind (arith, nat_tests), (grind (arith, nat_tests), (grind (arith, nat_tests), (grind (arith, nat_tests), tt)))) })))

digits_all : (p : Parameter) (ps : List Parameter) → Small (p ∷ ps) → AllOf is_digit (parameter_bytes p)
digits_all None ps s = tt
digits_all (Some n) ps s = (digits_read n s.0).all

small_rest : (p : Parameter) (ps : List Parameter) → Small (p ∷ ps) → Small ps
small_rest None ps s = s
small_rest (Some n) ps s = s.1

-- the parts of a parameter string are those of its parameters
no_separator : (d : ℕ) → is_digit d ≡ true → is_separator d ≡ false
no_separator d h = grind (arith, nat_tests)

digit_plain : (d : ℕ) → is_digit d ≡ true → (is_digit d || is_separator d) ≡ true
digit_plain d h = grind (arith, nat_tests)

parts_more : (ds : List ℕ) (ps : List Parameter) → AllOf is_digit ds → Small ps → parts (ds ++ more_bytes ps) ≡ ds ∷ map parameter_bytes ps
parts_more [] [] a s = refl
parts_more [] (p ∷ ps) a s = ap (λ (l : List (List ℕ)). [] ∷ l) (parts_more (parameter_bytes p) ps (digits_all p ps s) (small_rest p ps s))
parts_more (d ∷ ds) ps a s = cond-false (is_separator d) _ _ (no_separator d a.0) ∙ ap (onto d) (parts_more ds ps a.1 s)

plain_more : (ds : List ℕ) (ps : List Parameter) → AllOf is_digit ds → Small ps → plain (ds ++ more_bytes ps) ≡ true
plain_more [] [] a s = refl
plain_more [] (p ∷ ps) a s = plain_more (parameter_bytes p) ps (digits_all p ps s) (small_rest p ps s)
plain_more (d ∷ ds) ps a s = and_from (is_digit d || is_separator d) _ (digit_plain d a.0) (plain_more ds ps a.1 s)

parameter_more : (ds : List ℕ) (ps : List Parameter) → AllOf is_digit ds → Small ps → AllOf is_parameter (ds ++ more_bytes ps)
parameter_more [] [] a s = tt
parameter_more [] (p ∷ ps) a s = (refl, parameter_more (parameter_bytes p) ps (digits_all p ps s) (small_rest p ps s))
parameter_more (d ∷ ds) ps a s = (digit_is_parameter d a.0, parameter_more ds ps a.1 s)
  where
    digit_is_parameter : (d : ℕ) → is_digit d ≡ true → is_parameter d ≡ true
    digit_is_parameter d h = grind (arith, nat_tests)

values_back : (ps : List Parameter) → Small ps → map value (map parameter_bytes ps) ≡ ps
values_back [] s = refl
values_back (None ∷ ps) s = ap (λ (l : List Parameter). None ∷ l) (values_back ps s)
values_back (Some n ∷ ps) s = λ i. (digits_read n s.0).is i ∷ values_back ps s.1 i

-- a string that is not empty
full : (s : List ℕ) (ps : List Parameter) → parts s ≡ map parameter_bytes ps → plain s ≡ true → Small ps → length ps ≤ 16 → (s ≡ [] → ⊥) → numbers s ≡ Some ps
full [] ps e p m l n = absurd (n refl)
full (b ∷ bs) ps e p m l n =
    cond-true (plain (b ∷ bs) && leb (length (parts (b ∷ bs))) 16) _ _ (and_from (plain (b ∷ bs)) _ p (le-leb _ 16 (omega (arith, ap length e, length-map ps parameter_bytes))))
    ∙ ap (λ (l : List (List ℕ)). Some (map value l)) e ∙ ap Some (values_back ps m)

IsEmpty : Parameter → Type 0
IsEmpty None = Unit {0}
IsEmpty (Some n) = ⊥

some_digits : (n : ℕ) → n ≤ 9999 → digits n ≡ [] → ⊥
unfolding IsEmpty
some_digits n h e = subst IsEmpty (sym (ap value e) ∙ (digits_read n h).is) tt

cons_some : (x : ℕ) (xs : List ℕ) → x ∷ xs ≡ [] → ⊥
cons_some x xs e = let z : ◌≡◌ {A = ℕ} 1 0 = cc in omega arith

append_some : (xs ys : List ℕ) → (xs ≡ [] → ⊥) → xs ++ ys ≡ [] → ⊥
append_some [] ys h e = h refl
append_some (x ∷ xs) ys h e = cons_some x _ e

pub numbers_back : (ps : List Parameter) → Fits ps → (numbers (parameters_bytes ps) ≡ Some ps) × AllOf is_parameter (parameters_bytes ps)
numbers_back [] f = (refl, tt)
numbers_back (None ∷ []) f = absurd f.told
numbers_back (None ∷ p ∷ ps) f = (
  full _ (None ∷ p ∷ ps) (parts_more [] (p ∷ ps) tt f.small) (plain_more [] (p ∷ ps) tt f.small) f.small f.few (cons_some 0x3B (parameter_bytes p ++ more_bytes ps)),
  parameter_more [] (p ∷ ps) tt f.small,
)
numbers_back (Some n ∷ ps) f =
    let a = (digits_read n f.small.0).all in (
      full _ (Some n ∷ ps) (parts_more (digits n) ps a f.small.1) (plain_more (digits n) ps a f.small.1) f.small f.few (append_some (digits n) _ (some_digits n f.small.0)),
      parameter_more (digits n) ps a f.small.1,
    )

-- bytes that perform one function, from rest and to rest
record Back (f : Function) (l : List ℕ) : Type 0 where
  performs : performed rest l ≡ f ∷ []
  rests : standing_after rest l ≡ rest

abbrev ended : Function → Outcome
ended f = record { standing = rest; performs = f ∷ [] }

single_ends : (b : ℕ) → is_single b ≡ true → step rest b ≡ ended (control b)
unfolding at_rest
single_ends b h =
    let g : is_graphic b ≡ false = grind (arith, nat_tests) in
    let d : (eqb b 0x7F || eqb b 0x9C) ≡ false = grind (arith, nat_tests) in
    let e : eqb b 0x1B ≡ false = grind (arith, nat_tests) in
    let c : eqb b 0x9B ≡ false = grind (arith, nat_tests) in
    let o : is_opener b ≡ false = grind (arith, nat_tests) in
    let s : eqb b 0x98 ≡ false = grind (arith, nat_tests) in
    cond-false (is_graphic b) _ _ g ∙ cond-false (eqb b 0x7F || eqb b 0x9C) _ _ d ∙ cond-false (eqb b 0x1B) _ _ e ∙ cond-false (eqb b 0x9B) _ _ c ∙ cond-false (is_opener b) _ _ o ∙ cond-false (eqb b 0x98) _ _ s

-- ESC and the byte 64 lower stand for it
escaped_is : (b : ℕ) → is_single b ≡ true → leb 0x80 b ≡ true → step (escape false) (b - 64) ≡ step rest b
escaped_is b h l =
    let noti : is_intermediate (b - 64) ≡ false = grind (arith, nat_tests) in
    let fin : among 0x30 0x7E (b - 64) ≡ true = grind (arith, nat_tests) in
    let mid : among 0x40 0x5F (b - 64) ≡ true = grind (arith, nat_tests) in
    let above = leb-true 0x80 b l in
    let back : (b - 64) + 64 ≡ b = omega arith in
    cond-false (is_intermediate (b - 64)) _ _ noti ∙ cond-true (among 0x30 0x7E (b - 64)) _ _ fin ∙ cond-true (among 0x40 0x5F (b - 64)) _ _ mid ∙ ap at_rest back

by_step : (f : Function) (b : ℕ) (s : Standing) → step s b ≡ ended f → (performed s (b ∷ []) ≡ f ∷ []) × (standing_after s (b ∷ []) ≡ rest)
by_step f b s o = (ap (λ (q : Outcome). q.performs ++ performed q.standing []) o, ap (λ (q : Outcome). q.standing) o)

control_back : (b : ℕ) → is_single b ≡ true → Back (control b) (cond (leb 0x80 b) (0x1B ∷ (b - 64) ∷ []) (b ∷ []))
unfolding at_rest
control_back b h =
    cond_both (leb 0x80 b) (0x1B ∷ (b - 64) ∷ []) (b ∷ []) (Back (control b))
    (λ e. let o = by_step (control b) (b - 64) (escape false) (escaped_is b h e ∙ single_ends b h) in record { performs = o.0; rests = o.1 })
    (λ e. let o = by_step (control b) b rest (single_ends b h) in record { performs = o.0; rests = o.1 })

pub spaces : (space : Bool) → AllOf is_intermediate (space_bytes space)
spaces true = (refl, tt)
spaces false = tt

pub spaced : (ps : List Parameter) (space : Bool) (f : ℕ) → sequence_performs (Some ps) (space_bytes space) f ≡ sequence ps space f ∷ []
spaced ps true f = refl
spaced ps false f = refl

abbrev pub sequence_form : (ps : List Parameter) (space : Bool) (f : ℕ) → Fits ps → ends_sequence f ≡ true → Sequenced (0x1B ∷ 0x5B ∷ (parameters_bytes ps ++ (space_bytes space ++ (f ∷ []))))
sequence_form ps space f h e = record {
  csi = 0x1B ∷ 0x5B ∷ [];
  parameters = parameters_bytes ps;
  between = space_bytes space;
  final = f;
  spelled = refl;
  opens = inr refl;
  parameter = (numbers_back ps h).1;
  intermediate = spaces space;
  ends = e;
}

sequence_back : (ps : List Parameter) (space : Bool) (f : ℕ) → Fits ps → ends_sequence f ≡ true → Back (sequence ps space f) (0x1B ∷ 0x5B ∷ (parameters_bytes ps ++ (space_bytes space ++ (f ∷ []))))
sequence_back ps space f h e =
    let form = sequence_form ps space f h e in
    record {
      performs =
          sequence_performed (0x1B ∷ 0x5B ∷ []) (parameters_bytes ps) (space_bytes space) f (inr refl) (numbers_back ps h).1 (spaces space) e
          ∙ ap (λ (n : Parameters). sequence_performs n (space_bytes space) f) (numbers_back ps h).0
          ∙ spaced ps space f;
      rests = (behind_item Sequence _ [] form refl).leads;
    }

back : (f : Function) → Writable f → Back f (written f)
unfolding written at_rest
back (graphic b) h = let o = by_step (graphic b) b rest (cond-true (is_graphic b) _ _ h) in record { performs = o.0; rests = o.1 }
back (control b) h = control_back b h
back reset h = record { performs = refl; rests = refl }
back (sequence ps space f) h = sequence_back ps space f h.0 h.1

pub reads_back : ReadsBack
unfolding all_written
reads_back [] w = (refl, refl)
reads_back (f ∷ fs) w =
    let one = back f w.0 in
    let all = reads_back fs w.1 in (
      performed_parts rest (written f) (all_written fs) ∙ (λ i. one.performs i ++ performed (one.rests i) (all_written fs)) ∙ ap (λ (l : List Function). f ∷ l) all.0,
      standing_parts rest (written f) (all_written fs) ∙ ap (λ (s : Standing). standing_after s (all_written fs)) one.rests ∙ all.1,
    )
