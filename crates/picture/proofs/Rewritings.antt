-- A sequence that was read within the bounds can be written.
use Rattle.std.proofs.Common.{◌≡◌, ℕ, Bool, true, false, cond, ◌&&◌, eqb, leb, List, [], ◌∷◌, map, length, Some, None, sym, refl, ap, ◌∙◌, subst, ⊎_elim, arith}
use Rattle.std.specs.List.{list_all}
use Rattle.std.proofs.lemmas.List.{length-map}
use Rattle.std.proofs.lemmas.Bool.{true≢false, and_parts, and_from, le-leb, cases_Bool, cond-true, cond-false}
use Rattle.reader.specs.Bytes.{is_separator, ends_sequence}
use Rattle.reader.specs.Functions.{Parameter, Parameters, Function, graphic, control, reset, sequence}
use Rattle.reader.specs.Numbers.{onto, parts, value, plain, numbers, sequence_performs}
use Rattle.picture.specs.Writes.{is_small, is_told}
use Rattle.picture.specs.Reads.{SequenceRewrites}

-- the parts of a function, for those that are sequences
abbrev parameters_of : List Function → List Parameter
parameters_of [] = []
parameters_of (graphic b ∷ fs) = []
parameters_of (control b ∷ fs) = []
parameters_of (reset ∷ fs) = []
parameters_of (sequence ps space f ∷ fs) = ps

abbrev final_of : List Function → ℕ
final_of [] = 0
final_of (graphic b ∷ fs) = 0
final_of (control b ∷ fs) = 0
final_of (reset ∷ fs) = 0
final_of (sequence ps space f ∷ fs) = f

abbrev is_some : List Function → Bool
is_some [] = false
is_some (f ∷ fs) = true

module _ (ps : List Parameter) (space : Bool) (f : ℕ) where
  abbrev Told : Parameters → ℕ → Type 0
  Told n g = (n ≡ Some ps) × (g ≡ f)

  same : (qs : List Parameter) (s : Bool) (g : ℕ) → sequence qs s g ∷ [] ≡ sequence ps space f ∷ [] → Told (Some qs) g
  same qs s g e = (ap (λ (l : List Function). Some (parameters_of l)) e, ap final_of e)

  told : (n : Parameters) (is : List ℕ) (g : ℕ) → sequence_performs n is g ≡ sequence ps space f ∷ [] → Told n g
  told None is g e = absurd (true≢false (sym (ap is_some e)))
  told (Some qs) [] g e = same qs false g e
  told (Some qs) (i ∷ []) g e =
      ⊎_elim
      (λ t. same qs true g (sym (cond-true (eqb i 0x20) _ _ t) ∙ e))
      (λ t. absurd (true≢false (sym (ap is_some (sym (cond-false (eqb i 0x20) _ _ t) ∙ e)))))
      (cases_Bool (eqb i 0x20))
  told (Some qs) (i ∷ j ∷ is) g e = absurd (true≢false (sym (ap is_some e)))

value_small : (p : List ℕ) → is_small (value p) ≡ true
value_small [] = refl
value_small (d ∷ ds) = le-leb _ 9999 (omega arith)

all_small : (l : List (List ℕ)) → list_all is_small (map value l) ≡ true
all_small [] = refl
all_small (p ∷ l) = and_from (is_small (value p)) _ (value_small p) (all_small l)

onto_told : (b : ℕ) (l : List (List ℕ)) → is_told (map value (onto b l)) ≡ true
onto_told b [] = refl
onto_told b (p ∷ []) = refl
onto_told b (p ∷ q ∷ l) = refl

onto_second : (b : ℕ) (l : List (List ℕ)) → is_told (map value ([] ∷ onto b l)) ≡ true
onto_second b [] = refl
onto_second b (p ∷ l) = refl

behind_separator : (bs : List ℕ) → is_told (map value ([] ∷ parts bs)) ≡ true
behind_separator [] = refl
behind_separator (b ∷ bs) = elim (is_separator b) as (λ t. is_told (map value ([] ∷ cond t ([] ∷ parts bs) (onto b (parts bs)))) ≡ true) [ true ↦ refl | false ↦ onto_second b (parts bs) ]

parts_told : (b : ℕ) (bs : List ℕ) → is_told (map value (parts (b ∷ bs))) ≡ true
parts_told b bs = elim (is_separator b) as (λ t. is_told (map value (cond t ([] ∷ parts bs) (onto b (parts bs)))) ≡ true) [ true ↦ behind_separator bs | false ↦ onto_told b (parts bs) ]

abbrev some_of : Parameters → List Parameter
some_of None = []
some_of (Some ps) = ps

abbrev is_there : Parameters → Bool
is_there None = false
is_there (Some ps) = true

-- what is left of the range beside the final byte
abbrev Fine : List Parameter → Type 0
Fine ps = (leb (length ps) 16 ≡ true) × ((list_all is_small ps ≡ true) × (is_told ps ≡ true))

fine_parts : (b : ℕ) (bs : List ℕ) (ps : List Parameter) (t : Bool) → (plain (b ∷ bs) && leb (length (parts (b ∷ bs))) 16) ≡ t → cond t (Some (map value (parts (b ∷ bs)))) None ≡ Some ps → Fine ps
fine_parts b bs ps true h e =
    let l = parts (b ∷ bs) in
    let few : leb (length (map value l)) 16 ≡ true = ap (λ n. leb n 16) (length-map l value) ∙ (and_parts (plain (b ∷ bs)) _ h).1 in
    subst Fine (ap some_of e) (few, (all_small l, parts_told b bs))
fine_parts b bs ps false h e = absurd (true≢false (sym (ap is_there e)))

fine : (s : List ℕ) (ps : List Parameter) → numbers s ≡ Some ps → Fine ps
fine [] ps e = subst Fine (ap some_of e) (refl, (refl, refl))
fine (b ∷ bs) ps e = fine_parts b bs ps _ refl e

pub sequence_rewrites : SequenceRewrites
sequence_rewrites x i ps space f e =
    let t = told ps space f (numbers i.parameters) i.between i.final e in
    let n = fine i.parameters ps t.0 in
    and_from _ _ n.0 (and_from _ _ n.1.0 (and_from _ _ n.1.1 (sym (ap ends_sequence t.1) ∙ i.ends)))
