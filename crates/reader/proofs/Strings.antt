-- A parameter string, read byte by byte, is read as its numbers.
use Rattle.std.proofs.Common.{◌≡◌, ℕ, suc, ◌+◌, ◌-◌, ◌*◌, ◌≤◌, min, Bool, true, false, cond, ◌&&◌, ◌||◌, leb, List, [], ◌∷◌, ◌++◌, map, length, Some, None, sym, refl, ap, ◌∙◌, ⊎_elim, append_assoc, append-nil, arith, length-append}
use Rattle.std.proofs.lemmas.Bool.{cond-true, cond-false, and_parts, and_left, and_right, and_from, leb-true, leb-false, le-leb, lt-leb, cases_Bool, and_cases, or_left, or_right, or_from}
use Rattle.std.proofs.lemmas.Bool.Decides.{nat_tests}
use Rattle.reader.specs.Bytes.{AllOf, is_parameter, is_digit, is_separator}
use Rattle.reader.specs.Functions.{Parameter, Parameters}
use Rattle.reader.specs.Steps.{Outcome, in_parameters, standing_after, performed, grown, with_digit, with_separator, with_byte}
use Rattle.reader.specs.Numbers.{onto, parts, decimal, value, plain, numbers}
use Rattle.reader.specs.Laws.{ReadsNumbers}

abbrev last_onto : ℕ → List (List ℕ) → List (List ℕ)
last_onto b [] = (b ∷ []) ∷ []
last_onto b (p ∷ []) = (p ++ b ∷ []) ∷ []
last_onto b (p ∷ q ∷ r) = p ∷ last_onto b (q ∷ r)

-- there is always a part
data SomePart : List (List ℕ) → Type 0 where
  some : (p : List ℕ) (ps : List (List ℕ)) → SomePart (p ∷ ps)

onto_some : (b : ℕ) (l : List (List ℕ)) → SomePart (onto b l)
onto_some b [] = some _ _
onto_some b (p ∷ ps) = some _ _

parts_some : (bs : List ℕ) → SomePart (parts bs)
parts_some [] = some _ _
parts_some (b ∷ bs) = elim (is_separator b) as (λ t. SomePart (cond t ([] ∷ parts bs) (onto b (parts bs)))) [ true ↦ some _ _ | false ↦ onto_some b (parts bs) ]

onto_last : (c b : ℕ) (l : List (List ℕ)) → SomePart l → onto c (last_onto b l) ≡ last_onto b (onto c l)
onto_last c b _ (some p []) = refl
onto_last c b _ (some p (q ∷ r)) = refl

first_last : (b : ℕ) (l : List (List ℕ)) → SomePart l → [] ∷ last_onto b l ≡ last_onto b ([] ∷ l)
first_last b _ (some p ps) = refl

-- one more byte, of a number or a separator
parts_digit : (bs : List ℕ) (b : ℕ) → is_separator b ≡ false → parts (bs ++ b ∷ []) ≡ last_onto b (parts bs)
parts_digit [] b h = cond-false (is_separator b) _ _ h
parts_digit (c ∷ bs) b h =
    let ih = parts_digit bs b h in
    let s = parts_some bs in
    elim (is_separator c) as (λ t. cond t ([] ∷ parts (bs ++ b ∷ [])) (onto c (parts (bs ++ b ∷ []))) ≡ last_onto b (cond t ([] ∷ parts bs) (onto c (parts bs)))) [
      | true ↦ ap (λ (l : List (List ℕ)). [] ∷ l) ih ∙ first_last b (parts bs) s
      | false ↦ ap (onto c) ih ∙ onto_last c b (parts bs) s
    ]

onto_append : (c : ℕ) (l m : List (List ℕ)) → SomePart l → onto c (l ++ m) ≡ onto c l ++ m
onto_append c _ m (some p ps) = refl

parts_separator : (bs : List ℕ) (b : ℕ) → is_separator b ≡ true → parts (bs ++ b ∷ []) ≡ parts bs ++ [] ∷ []
parts_separator [] b h = cond-true (is_separator b) _ _ h
parts_separator (c ∷ bs) b h =
    let ih = parts_separator bs b h in
    elim (is_separator c) as (λ t. cond t ([] ∷ parts (bs ++ b ∷ [])) (onto c (parts (bs ++ b ∷ []))) ≡ cond t ([] ∷ parts bs) (onto c (parts bs)) ++ [] ∷ []) [
      | true ↦ ap (λ (l : List (List ℕ)). [] ∷ l) ih
      | false ↦ ap (onto c) ih ∙ onto_append c (parts bs) _ (parts_some bs)
    ]

-- the number that a digit makes
decimal_more : (n : ℕ) (ds : List ℕ) (b : ℕ) → decimal n (ds ++ b ∷ []) ≡ decimal n ds * 10 + (b - 0x30)
decimal_more n [] b = refl
decimal_more n (d ∷ ds) b = decimal_more (n * 10 + (d - 0x30)) ds b

capped : (n d : ℕ) → min 9999 (n * 10 + d) ≡ min 9999 (min 9999 n * 10 + d)
capped n d = omega arith

value_more : (p : List ℕ) (b : ℕ) → is_digit b ≡ true → value (p ++ b ∷ []) ≡ Some (grown (value p) (b - 0x30))
value_more [] b h = ap Some (one b h)
  where
    one : (b : ℕ) → is_digit b ≡ true → min 9999 (0 * 10 + (b - 0x30)) ≡ b - 0x30
    one b h = grind (arith, nat_tests)
value_more (d ∷ ds) b h = ap Some (ap (min 9999) (decimal_more 0 (d ∷ ds) b) ∙ capped (decimal 0 (d ∷ ds)) (b - 0x30))

values_digit : (l : List (List ℕ)) (b : ℕ) → SomePart l → is_digit b ≡ true → map value (last_onto b l) ≡ with_digit (map value l) (b - 0x30)
values_digit _ b (some p []) h = ap (λ (v : Parameter). v ∷ []) (value_more p b h)
values_digit _ b (some p (q ∷ r)) h = ap (λ (l : List Parameter). value p ∷ l) (values_digit (q ∷ r) b (some q r) h)

values_separator : (l : List (List ℕ)) → SomePart l → map value (l ++ [] ∷ []) ≡ with_separator (map value l)
values_separator _ (some p ps) = ap (λ (z : List Parameter). value p ∷ z) (go ps)
  where
    go : (ps : List (List ℕ)) → map value (ps ++ [] ∷ []) ≡ map value ps ++ None ∷ []
    go [] = refl
    go (q ∷ qs) = ap (λ (z : List Parameter). value q ∷ z) (go qs)

-- the same for any string, the empty one too
abbrev full : List ℕ → Parameters
full ps = cond (plain ps && leb (length (parts ps)) 16) (Some (map value (parts ps))) None

length_last : (b : ℕ) (l : List (List ℕ)) → SomePart l → length (last_onto b l) ≡ length l
length_last b _ (some p []) = refl
length_last b _ (some p (q ∷ r)) = ap suc (length_last b (q ∷ r) (some q r))

length_values : (l : List (List ℕ)) → length (map value l) ≡ length l
length_values [] = refl
length_values (p ∷ l) = ap suc (length_values l)

plain_more : (ps : List ℕ) (b : ℕ) → plain (ps ++ b ∷ []) ≡ (plain ps && (is_digit b || is_separator b))
plain_more [] b = last (is_digit b || is_separator b)
  where
    last : (t : Bool) → (t && true) ≡ t
    last true = refl
    last false = refl
plain_more (c ∷ ps) b = ap (λ (t : Bool). (is_digit c || is_separator c) && t) (plain_more ps b) ∙ group (is_digit c || is_separator c) (plain ps) (is_digit b || is_separator b)
  where
    group : (x y z : Bool) → (x && (y && z)) ≡ ((x && y) && z)
    group true y z = refl
    group false y z = refl

module _ (ps : List ℕ) (b : ℕ) where
  part_some : SomePart (parts ps)
  part_some = parts_some ps

  same_length : is_separator b ≡ false → length (parts (ps ++ b ∷ [])) ≡ length (parts ps)
  same_length h = ap length (parts_digit ps b h) ∙ length_last b (parts ps) part_some

  one_longer : is_separator b ≡ true → length (parts (ps ++ b ∷ [])) ≡ length (parts ps) + 1
  one_longer h = ap length (parts_separator ps b h) ∙ length-append (parts ps) ([] ∷ [])

  -- what does not fit never fits again
  unfit_more : (plain ps && leb (length (parts ps)) 16) ≡ false → (plain (ps ++ b ∷ []) && leb (length (parts (ps ++ b ∷ []))) 16) ≡ false
  unfit_more h =
      ⊎_elim
      (λ a. and_left _ _ (plain_more ps b ∙ and_left (plain ps) _ a))
      (λ l.
      let long = leb-false (length (parts ps)) 16 l in
      and_right (plain (ps ++ b ∷ [])) _
      (⊎_elim (λ s. lt-leb _ 16 (omega (arith, one_longer s))) (λ s. lt-leb _ 16 (omega (arith, same_length s))) (cases_Bool (is_separator b))))
      (and_cases (plain ps) (leb (length (parts ps)) 16) h)

  module _ (fit : (plain ps && leb (length (parts ps)) 16) ≡ true) where
    was_plain : plain ps ≡ true
    was_plain = (and_parts (plain ps) _ fit).0

    was_short : length (parts ps) ≤ 16
    was_short = leb-true _ 16 (and_parts (plain ps) _ fit).1

    more_digit : is_digit b ≡ true → full (ps ++ b ∷ []) ≡ with_byte (Some (map value (parts ps))) b
    more_digit d =
        let apart : is_separator b ≡ false = grind (arith, nat_tests) in
        let good : plain (ps ++ b ∷ []) ≡ true = plain_more ps b ∙ and_from (plain ps) _ was_plain (or_left (is_digit b) _ d) in
        let short = le-leb (length (parts (ps ++ b ∷ []))) 16 (omega (arith, same_length apart, was_short)) in
        cond-true (plain (ps ++ b ∷ []) && leb (length (parts (ps ++ b ∷ []))) 16) _ _ (and_from (plain (ps ++ b ∷ [])) _ good short)
        ∙ ap (λ (l : List (List ℕ)). Some (map value l)) (parts_digit ps b apart)
        ∙ ap Some (values_digit (parts ps) b part_some d)
        ∙ sym (cond-true (is_digit b) _ _ d)

    more_separator : is_separator b ≡ true → full (ps ++ b ∷ []) ≡ with_byte (Some (map value (parts ps))) b
    more_separator s =
        let apart : is_digit b ≡ false = grind (arith, nat_tests) in
        let good : plain (ps ++ b ∷ []) ≡ true = plain_more ps b ∙ and_from (plain ps) _ was_plain (or_right (is_digit b) (is_separator b) s) in
        let vals : map value (parts (ps ++ b ∷ [])) ≡ with_separator (map value (parts ps)) = ap (map value) (parts_separator ps b s) ∙ values_separator (parts ps) part_some in
        let long : length (parts (ps ++ b ∷ [])) ≡ length (with_separator (map value (parts ps))) = sym (length_values (parts (ps ++ b ∷ []))) ∙ ap length vals in
        ap (λ (t : Bool). cond {A = Parameters} (t && leb (length (parts (ps ++ b ∷ []))) 16) (Some (map value (parts (ps ++ b ∷ [])))) None) good
        ∙ (λ i. cond {A = Parameters} (leb (long i) 16) (Some (vals i)) None)
        ∙ sym (cond-false (is_digit b) _ _ apart ∙ cond-true (is_separator b) _ _ s)

    more_other : is_digit b ≡ false → is_separator b ≡ false → full (ps ++ b ∷ []) ≡ with_byte (Some (map value (parts ps))) b
    more_other d s =
        let bad : plain (ps ++ b ∷ []) ≡ false = plain_more ps b ∙ and_right (plain ps) _ (or_from (is_digit b) (is_separator b) d s) in
        cond-false (plain (ps ++ b ∷ []) && leb (length (parts (ps ++ b ∷ []))) 16) _ _ (and_left _ _ bad) ∙ sym (cond-false (is_digit b) _ _ d ∙ cond-false (is_separator b) _ _ s)

  full_more : full (ps ++ b ∷ []) ≡ with_byte (full ps) b
  full_more =
      ⊎_elim
      (λ fit.
      ⊎_elim (more_digit fit) (λ d. ⊎_elim (more_separator fit) (more_other fit d) (cases_Bool (is_separator b))) (cases_Bool (is_digit b))
      ∙ sym (ap (λ (n : Parameters). with_byte n b) (cond-true (plain ps && leb (length (parts ps)) 16) _ _ fit)))
      (λ unfit. cond-false (plain (ps ++ b ∷ []) && leb (length (parts (ps ++ b ∷ []))) 16) _ _ (unfit_more unfit) ∙ sym (ap (λ (n : Parameters). with_byte n b) (cond-false (plain ps && leb (length (parts ps)) 16) _ _ unfit)))
      (cases_Bool (plain ps && leb (length (parts ps)) 16))

pub numbers_more : (ps : List ℕ) (b : ℕ) → numbers (ps ++ b ∷ []) ≡ with_byte (numbers ps) b
numbers_more [] b = full_more [] b
numbers_more (c ∷ ps) b = full_more (c ∷ ps) b

-- the bytes that follow those read already
read_on : (done ps : List ℕ) → AllOf is_parameter ps → standing_after (in_parameters (numbers done)) ps ≡ in_parameters (numbers (done ++ ps))
read_on done [] a = ap (λ (l : List ℕ). in_parameters (numbers l)) (sym (append-nil done))
read_on done (b ∷ ps) a =
    ap (λ (o : Outcome). standing_after o.standing ps) (cond-true (is_parameter b) _ _ a.0)
    ∙ ap (λ (n : Parameters). standing_after (in_parameters n) ps) (sym (numbers_more done b))
    ∙ read_on (done ++ b ∷ []) ps a.1
    ∙ ap (λ (l : List ℕ). in_parameters (numbers l)) (append_assoc done (b ∷ []) ps)

pub quiet_parameters : (n : Parameters) (ps : List ℕ) → AllOf is_parameter ps → performed (in_parameters n) ps ≡ []
quiet_parameters n [] a = refl
quiet_parameters n (b ∷ ps) a =
    ap (λ (o : Outcome). o.performs ++ performed o.standing ps) (cond-true (is_parameter b) _ _ a.0) ∙ quiet_parameters (with_byte n b) ps a.1

pub reads_numbers : ReadsNumbers
reads_numbers ps a = (read_on [] ps a, quiet_parameters (Some []) ps a)
