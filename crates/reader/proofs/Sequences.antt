-- What a whole sequence performs.
use Rattle.std.proofs.Common.{◌≡◌, ℕ, true, false, cond, eqb, List, [], ◌∷◌, ◌++◌, Some, None, refl, ap, ◌∙◌, inl, inr, arith}
use Rattle.std.proofs.lemmas.Bool.{cond-true, cond-false}
use Rattle.std.proofs.lemmas.Bool.Decides.{nat_tests}
use Rattle.reader.specs.Bytes.{AllOf, is_parameter, is_intermediate, ends_sequence}
use Rattle.reader.specs.Functions.{Parameters, sequence}
use Rattle.reader.specs.Steps.{Standing, Outcome, to, at_rest, sequence_final, step, performed, rest, in_parameters, in_intermediates}
use Rattle.reader.specs.Numbers.{numbers, sequence_performs}
use Rattle.reader.specs.Items.{Spells}
use Rattle.reader.proofs.Parts.{performed_parts}
use Rattle.reader.proofs.Strings.{reads_numbers}
use Rattle.reader.proofs.Agree.{csi_leads, first_between}

-- a byte that only moves the reader
pub quiet_step : (s q : Standing) (b : ℕ) (bs : List ℕ) → step s b ≡ to q → performed s (b ∷ bs) ≡ performed q bs
quiet_step s q b bs e = ap (λ (o : Outcome). o.performs ++ performed o.standing bs) e

pub quiet_csi : (c : List ℕ) → Spells 0x9B c → performed rest c ≡ []
unfolding at_rest
quiet_csi c (inl e) = ap (performed rest) e
quiet_csi c (inr e) = ap (performed rest) e

-- the final byte with no intermediate before it, and with some
final_alone : (n : Parameters) (f : ℕ) → ends_sequence f ≡ true → performed (in_parameters n) (f ∷ []) ≡ sequence_performs n [] f
final_alone n f h =
    let one : is_parameter f ≡ false = grind (arith, nat_tests) in
    let two : is_intermediate f ≡ false = grind (arith, nat_tests) in
    ap (λ (o : Outcome). o.performs ++ performed o.standing []) (cond-false (is_parameter f) _ _ one ∙ cond-false (is_intermediate f) _ _ two ∙ cond-true (ends_sequence f) _ _ h) ∙ shown n
  where
    shown : (n : Parameters) → (sequence_final n false f).performs ++ [] ≡ sequence_performs n [] f
    shown None = refl
    shown (Some ps) = refl

final_between : (n : Parameters) (f : ℕ) → ends_sequence f ≡ true → performed (in_intermediates n) (f ∷ []) ≡ (sequence_final n true f).performs ++ []
final_between n f h =
    let two : is_intermediate f ≡ false = grind (arith, nat_tests) in
    ap (λ (o : Outcome). o.performs ++ performed o.standing []) (cond-false (is_intermediate f) _ _ two ∙ cond-true (ends_sequence f) _ _ h) ∙ rests n
  where
    rests : (n : Parameters) → (sequence_final n true f).performs ++ performed (sequence_final n true f).standing [] ≡ (sequence_final n true f).performs ++ []
    rests None = refl
    rests (Some ps) = refl

-- intermediates that are no single 20
final_others : (is : List ℕ) (f : ℕ) → AllOf is_intermediate is → ends_sequence f ≡ true → performed (in_intermediates None) (is ++ f ∷ []) ≡ []
final_others [] f a h = final_between None f h
final_others (b ∷ is) f a h = quiet_step (in_intermediates None) (in_intermediates None) b (is ++ f ∷ []) (cond-true (is_intermediate b) _ _ a.0) ∙ final_others is f a.1 h

one_between : (n : Parameters) (b f : ℕ) → (sequence_final (cond (eqb b 0x20) n None) true f).performs ++ [] ≡ sequence_performs n (b ∷ []) f
one_between None b f = elim (eqb b 0x20) as (λ t. (sequence_final (cond t None None) true f).performs ++ [] ≡ []) [ true ↦ refl | false ↦ refl ]
one_between (Some ps) b f = elim (eqb b 0x20) as (λ t. (sequence_final (cond t (Some ps) None) true f).performs ++ [] ≡ cond t (sequence ps true f ∷ []) []) [ true ↦ refl | false ↦ refl ]

two_between : (n : Parameters) (b c : ℕ) (is : List ℕ) (f : ℕ) → [] ≡ sequence_performs n (b ∷ c ∷ is) f
two_between None b c is f = refl
two_between (Some ps) b c is f = refl

tail : (n : Parameters) (is : List ℕ) (f : ℕ) → AllOf is_intermediate is → ends_sequence f ≡ true → performed (in_parameters n) (is ++ f ∷ []) ≡ sequence_performs n is f
tail n [] f a h = final_alone n f h
tail n (b ∷ []) f a h = quiet_step (in_parameters n) _ b (f ∷ []) (first_between n b a.0) ∙ final_between (cond (eqb b 0x20) n None) f h ∙ one_between n b f
tail n (b ∷ c ∷ is) f a h =
    quiet_step (in_parameters n) _ b (c ∷ (is ++ f ∷ [])) (first_between n b a.0)
    ∙ quiet_step (in_intermediates (cond (eqb b 0x20) n None)) (in_intermediates None) c (is ++ f ∷ []) (cond-true (is_intermediate c) _ _ a.1.0)
    ∙ final_others is f a.1.1 h
    ∙ two_between n b c is f

pub sequence_performed : (c ps is : List ℕ) (f : ℕ) → Spells 0x9B c → AllOf is_parameter ps → AllOf is_intermediate is → ends_sequence f ≡ true → performed rest (c ++ (ps ++ (is ++ f ∷ []))) ≡ sequence_performs (numbers ps) is f
sequence_performed c ps is f s p i h =
    let R = is ++ f ∷ [] in
    let n = reads_numbers ps p in
    performed_parts rest c (ps ++ R)
    ∙ (λ j. quiet_csi c s j ++ performed (csi_leads c s j) (ps ++ R))
    ∙ performed_parts (in_parameters (Some [])) ps R
    ∙ (λ j. n.1 j ++ performed (n.0 j) R)
    ∙ tail (numbers ps) is f i h
