-- Where the bytes of an item lead: to rest, or to where what follows is read as from rest.
use Rattle.std.proofs.Common.{◌≡◌, ℕ, ◌-◌, Bool, true, false, cond, ◌&&◌, eqb, leb, ◌⊎◌, List, [], ◌∷◌, ◌++◌, Some, None, sym, refl, ap, ◌∙◌, subst, inl, inr, ⊎_elim, arith}
use Rattle.std.proofs.lemmas.Bool.{cond-true, cond-false, leb-true, eqb-true, and_parts, or_cases, or_parts, or_from}
use Rattle.std.proofs.lemmas.Bool.Decides.{nat_tests}
use Rattle.reader.specs.Bytes.{AllOf, Stops, among, is_graphic, is_opener, is_body, is_intermediate, is_parameter}
use Rattle.reader.specs.Functions.{Parameters}
use Rattle.reader.specs.Steps.{Standing, Outcome, to, at_rest, step, standing_after, performed, rest, escape, in_parameters, in_intermediates, in_string, in_sos, with_byte}
use Rattle.reader.specs.Items.{Spells, begins, is_lone, Free}
use Rattle.reader.proofs.Parts.{standing_parts}

-- bytes that leave the reader where it stands
pub stays : (P : ℕ → Bool) (s : Standing) → ((b : ℕ) → P b ≡ true → (step s b).standing ≡ s) → (bs : List ℕ) → AllOf P bs → standing_after s bs ≡ s
stays P s h [] a = refl
stays P s h (b ∷ bs) a = ap (λ (q : Standing). standing_after q bs) (h b a.0) ∙ stays P s h bs a.1

pub rest_graphic : (b : ℕ) → is_graphic b ≡ true → (step rest b).standing ≡ rest
unfolding at_rest
rest_graphic b h = ap (λ (o : Outcome). o.standing) (cond-true (is_graphic b) _ _ h)

pub escape_between : (b : ℕ) → is_intermediate b ≡ true → (step (escape true) b).standing ≡ escape true
escape_between b h = ap (λ (o : Outcome). o.standing) (cond-true (is_intermediate b) _ _ h)

pub string_body : (b : ℕ) → is_body b ≡ true → (step in_string b).standing ≡ in_string
string_body b h = ap (λ (o : Outcome). o.standing) (cond-true (is_body b) _ _ h)

more_between : (b : ℕ) → is_intermediate b ≡ true → (step (in_intermediates None) b).standing ≡ in_intermediates None
more_between b h = ap (λ (o : Outcome). o.standing) (cond-true (is_intermediate b) _ _ h)

pub rest_lone : (b : ℕ) → is_lone b ≡ true → (step rest b).standing ≡ rest
unfolding at_rest
rest_lone b h = grind (arith, nat_tests)

-- where a control in either form leads
pub csi_leads : (c : List ℕ) → Spells 0x9B c → standing_after rest c ≡ in_parameters (Some [])
unfolding at_rest
csi_leads c (inl e) = ap (standing_after rest) e
csi_leads c (inr e) = ap (standing_after rest) e

pub sos_leads : (c : List ℕ) → Spells 0x98 c → standing_after rest c ≡ in_sos false
unfolding at_rest
sos_leads c (inl e) = ap (standing_after rest) e
sos_leads c (inr e) = ap (standing_after rest) e

which_opener : (k : ℕ) → is_opener k ≡ true → (k ≡ 0x90) ⊎ ((k ≡ 0x9D) ⊎ ((k ≡ 0x9E) ⊎ (k ≡ 0x9F)))
which_opener k h =
    ⊎_elim (λ e. inl (eqb-true k 0x90 e))
    (λ e.
    let low = leb-true 0x9D k (and_parts (leb 0x9D k) (leb k 0x9F) e).0 in
    let high = leb-true k 0x9F (and_parts (leb 0x9D k) (leb k 0x9F) e).1 in
    inr (search (arith, inl, inr)))
    (or_cases (eqb k 0x90) (among 0x9D 0x9F k) h)

-- what holds of both forms of each opener holds of every opener
pub each_opener : (P : List ℕ → Type 0) → P (0x90 ∷ []) → P (0x9D ∷ []) → P (0x9E ∷ []) → P (0x9F ∷ []) → P (0x1B ∷ 0x50 ∷ []) → P (0x1B ∷ 0x5D ∷ []) → P (0x1B ∷ 0x5E ∷ []) → P (0x1B ∷ 0x5F ∷ []) → (k : ℕ) (c : List ℕ) → is_opener k ≡ true → Spells k c → P c
each_opener P p q r s p' q' r' s' k c o sp =
    ⊎_elim (one 0x90 p p') (⊎_elim (one 0x9D q q') (⊎_elim (one 0x9E r r') (one 0x9F s s'))) (which_opener k o)
  where
    spelled : (n : ℕ) → P (n ∷ []) → P (0x1B ∷ (n - 64) ∷ []) → Spells n c → P c
    spelled n x y (inl e) = subst P (sym e) x
    spelled n x y (inr e) = subst P (sym e) y

    one : (n : ℕ) → P (n ∷ []) → P (0x1B ∷ (n - 64) ∷ []) → k ≡ n → P c
    one n x y e = spelled n x y (subst (λ (j : ℕ). Spells j c) e sp)

pub opener_leads : (k : ℕ) (c : List ℕ) → is_opener k ≡ true → Spells k c → standing_after rest c ≡ in_string
unfolding at_rest
opener_leads = each_opener (λ (c : List ℕ). standing_after rest c ≡ in_string) refl refl refl refl refl refl refl refl

-- ST, in either form, ends every string
pub string_ends : (c : List ℕ) → Spells 0x9C c → standing_after in_string c ≡ rest
unfolding at_rest
string_ends c (inl e) = ap (standing_after in_string) e
string_ends c (inr e) = ap (standing_after in_string) e

pub sos_ends : (escaped : Bool) (c : List ℕ) → Spells 0x9C c → standing_after (in_sos escaped) c ≡ rest
sos_ends escaped c (inl e) = ap (standing_after (in_sos escaped)) e
sos_ends true c (inr e) = ap (standing_after (in_sos true)) e
sos_ends false c (inr e) = ap (standing_after (in_sos false)) e

-- in the body of an SOS string, no 5C follows an ESC
no_end : (b : ℕ) (bs : List ℕ) → begins 0x9C (b ∷ bs) ≡ false → (eqb b 0x9C ≡ false) × (eqb b 0x1B ≡ true → Stops (λ c. eqb c 0x5C) bs)
no_end b [] h = (h, λ _. tt)
no_end b (c ∷ bs) h =
    let parts = or_parts (eqb b 0x9C) (eqb b 0x1B && eqb c 0x5C) h in
    (parts.0, λ e. sym (ap (λ (t : Bool). t && eqb c 0x5C) e) ∙ parts.1)

sos_one : (escaped : Bool) (b : ℕ) → eqb b 0x9C ≡ false → (escaped ≡ true → eqb b 0x5C ≡ false) → step (in_sos escaped) b ≡ to (in_sos (eqb b 0x1B))
sos_one true b n h = cond-false _ _ _ (or_from (eqb b 0x9C) (eqb b 0x5C) n (h refl))
sos_one false b n h = cond-false _ _ _ (or_from (eqb b 0x9C) false n refl)

-- a body leaves the reader in the SOS string, and performs nothing
pub sos_body : (escaped : Bool) (bs : List ℕ) → Free bs → (escaped ≡ true → Stops (λ c. eqb c 0x5C) bs) → (e : Bool) × (standing_after (in_sos escaped) bs ≡ in_sos e) × (performed (in_sos escaped) bs ≡ [])
sos_body escaped [] f h = (escaped, refl, refl)
sos_body escaped (b ∷ bs) f h =
    let none = no_end b bs f.0 in
    let one = sos_one escaped b none.0 h in
    let then = sos_body (eqb b 0x1B) bs f.2 none.1 in
    (then.0, ap (λ (o : Outcome). standing_after o.standing bs) one ∙ then.1, ap (λ (o : Outcome). o.performs ++ performed o.standing bs) one ∙ then.2)

-- parameters
pub parameters_lead : (n : Parameters) (ps : List ℕ) → AllOf is_parameter ps → (m : Parameters) × (standing_after (in_parameters n) ps ≡ in_parameters m)
parameters_lead n [] a = (n, refl)
parameters_lead n (b ∷ ps) a =
    let on : (step (in_parameters n) b).standing ≡ in_parameters (with_byte n b) = ap (λ (o : Outcome). o.standing) (cond-true (is_parameter b) _ _ a.0) in
    let then = parameters_lead (with_byte n b) ps a.1 in
    (then.0, ap (λ (q : Standing). standing_after q ps) on ∙ then.1)

-- where the reader stands after parameters and the intermediates is
pub data After (is : List ℕ) (s : Standing) : Type 0 where
  none : (n : Parameters) → is ≡ [] → s ≡ in_parameters n → After is s
  some : (n : Parameters) → s ≡ in_intermediates n → After is s

pub first_between : (n : Parameters) (b : ℕ) → is_intermediate b ≡ true → step (in_parameters n) b ≡ to (in_intermediates (cond (eqb b 0x20) n None))
first_between n b h =
    let unfit : is_parameter b ≡ false = grind (arith, nat_tests) in
    cond-false (is_parameter b) _ _ unfit ∙ cond-true (is_intermediate b) _ _ h

intermediates_lead : (n : Parameters) (is : List ℕ) → AllOf is_intermediate is → (m : Parameters) × (standing_after (in_intermediates n) is ≡ in_intermediates m)
intermediates_lead n [] a = (n, refl)
intermediates_lead n (b ∷ is) a =
    (None, ap (λ (o : Outcome). standing_after o.standing is) (cond-true (is_intermediate b) _ _ a.0) ∙ stays is_intermediate (in_intermediates None) more_between is a.1)

after_between : (n : Parameters) (is : List ℕ) → AllOf is_intermediate is → After is (standing_after (in_parameters n) is)
after_between n [] a = none n refl refl
after_between n (b ∷ is) a =
    let m = intermediates_lead (cond (eqb b 0x20) n None) is a.1 in
    some m.0 (ap (λ (o : Outcome). standing_after o.standing is) (first_between n b a.0) ∙ m.1)

-- three parts
pub standing_three : (s : Standing) (a b c : List ℕ) → standing_after s (a ++ (b ++ c)) ≡ standing_after (standing_after (standing_after s a) b) c
standing_three s a b c = standing_parts s a (b ++ c) ∙ standing_parts (standing_after s a) b c

pub sequence_leads : (c ps is : List ℕ) → Spells 0x9B c → AllOf is_parameter ps → AllOf is_intermediate is → After is (standing_after rest (c ++ (ps ++ is)))
sequence_leads c ps is s p i =
    let m = parameters_lead (Some []) ps p in
    subst (After is) (sym (standing_three rest c ps is ∙ ap (λ (q : Standing). standing_after (standing_after q ps) is) (csi_leads c s) ∙ ap (λ (q : Standing). standing_after q is) m.1)) (after_between m.0 is i)

-- an escape with its intermediates
pub escape_leads : (is : List ℕ) → AllOf is_intermediate is → (between : Bool) × (standing_after rest (0x1B ∷ is) ≡ escape between)
unfolding at_rest
escape_leads [] a = (false, refl)
escape_leads (b ∷ is) a =
    (true, ap (λ (o : Outcome). standing_after o.standing is) (cond-true (is_intermediate b) _ _ a.0) ∙ stays is_intermediate (escape true) escape_between is a.1)
