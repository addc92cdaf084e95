-- What the single steps perform on an item is what its grammar says.
use Rattle.std.proofs.Common.{◌≡◌, ℕ, ◌+◌, Bool, true, false, cond, eqb, List, [], ◌∷◌, ◌++◌, map, Some, None, sym, refl, ap, ◌∙◌, inl, inr, append_assoc, append-nil, arith}
use Rattle.std.proofs.lemmas.Bool.{cond-true, cond-false, both_ways}
use Rattle.std.proofs.lemmas.Bool.Decides.{nat_tests}
use Rattle.reader.specs.declared.item.Kind.TheVariants.{Text, Control, Escape, Sequence, String, Broken, Rest}
use Rattle.reader.specs.Bytes.{AllOf, among, is_graphic, is_body, is_opener, is_intermediate, is_parameter, ends_escape}
use Rattle.reader.specs.Functions.{Function, Parameters, graphic, reset}
use Rattle.reader.specs.Steps.{Standing, Outcome, to, ends, at_rest, step, standing_after, performed, rest, escape, in_parameters, in_intermediates, in_string, in_sos}
use Rattle.reader.specs.Items as item
use Rattle.reader.specs.Items.{Spells, is_beginning, is_lone, Free, Enclosed, Begun, Awaiting, Form}
use Rattle.reader.specs.Performs.{control_performs, escape_performs, ItemsPerform}
use Rattle.reader.proofs.Parts.{performed_parts}
use Rattle.reader.proofs.Strings.{reads_numbers}
use Rattle.reader.proofs.Agree.{csi_leads, each_opener, opener_leads, sos_leads, sos_body, first_between}
use Rattle.reader.proofs.Sequences.{quiet_step, quiet_csi, sequence_performed}
use Rattle.reader.proofs.Endings.{lone_above, string_within, sos_within, opens_sos}

text_performs : (x : List ℕ) → AllOf is_graphic x → performed rest x ≡ map graphic x
unfolding at_rest
text_performs [] a = refl
text_performs (b ∷ x) a = ap (λ (o : Outcome). o.performs ++ performed o.standing x) (cond-true (is_graphic b) _ _ a.0) ∙ ap (λ (l : List Function). graphic b ∷ l) (text_performs x a.1)

lone_performs : (b : ℕ) → is_lone b ≡ true → (step rest b).performs ≡ control_performs b
unfolding at_rest
lone_performs b h = grind (arith, nat_tests)

one_performs : (b : ℕ) → is_lone b ≡ true → performed rest (b ∷ []) ≡ control_performs b
one_performs b h = append-nil _ ∙ lone_performs b h

-- an escape with nothing between
short_performs : (f : ℕ) → ends_escape f ≡ true → is_beginning (f + 64) ≡ false → (step (escape false) f).performs ≡ escape_performs [] f
short_performs f h unfit =
    let noti : is_intermediate f ≡ false = grind (arith, nat_tests) in
    ap (λ (o : Outcome). o.performs) (cond-false (is_intermediate f) _ _ noti ∙ cond-true (ends_escape f) _ _ h) ∙ chosen
  where
    P : Bool → Type 0
    P t = (cond t (at_rest (f + 64)) (cond (eqb f 0x63) (ends reset) (to rest))).performs ≡ cond t (control_performs (f + 64)) (cond (eqb f 0x63) (reset ∷ []) [])

    last : (t : Bool) → (cond t (ends reset) (to rest)).performs ≡ cond t (reset ∷ []) []
    last true = refl
    last false = refl

    by : (t : Bool) → among 0x40 0x5F f ≡ t → P t
    by true e = lone_performs (f + 64) (lone_above f e unfit)
    by false e = last (eqb f 0x63)

    chosen : P (among 0x40 0x5F f)
    chosen = by (among 0x40 0x5F f) refl

-- and with intermediates
long_performs : (is : List ℕ) (f : ℕ) → AllOf is_intermediate is → ends_escape f ≡ true → performed (escape true) (is ++ f ∷ []) ≡ []
long_performs [] f a h =
    let noti : is_intermediate f ≡ false = grind (arith, nat_tests) in
    ap (λ (o : Outcome). o.performs ++ performed o.standing []) (cond-false (is_intermediate f) _ _ noti ∙ cond-true (ends_escape f) _ _ h)
long_performs (b ∷ is) f a h = quiet_step (escape true) (escape true) b (is ++ f ∷ []) (cond-true (is_intermediate b) _ _ a.0) ∙ long_performs is f a.1 h

escape_performed : (is : List ℕ) (f : ℕ) → AllOf is_intermediate is → ends_escape f ≡ true → (is ≡ [] → is_beginning (f + 64) ≡ false) → performed rest (0x1B ∷ (is ++ f ∷ [])) ≡ escape_performs is f
unfolding at_rest
escape_performed [] f a h alone = append-nil _ ∙ short_performs f h (alone refl)
escape_performed (b ∷ is) f a h alone = quiet_step (escape false) (escape true) b (is ++ f ∷ []) (cond-true (is_intermediate b) _ _ a.0) ∙ long_performs is f a.1 h

-- bytes of a class that only lead from a standing to itself
quiet_all : (P : ℕ → Bool) (s : Standing) → ((b : ℕ) → P b ≡ true → step s b ≡ to s) → (bs : List ℕ) → AllOf P bs → performed s bs ≡ []
quiet_all P s h [] a = refl
quiet_all P s h (b ∷ bs) a = quiet_step s s b bs (h b a.0) ∙ quiet_all P s h bs a.1

opener_quiet : (k : ℕ) (c : List ℕ) → is_opener k ≡ true → Spells k c → performed rest c ≡ []
unfolding at_rest
opener_quiet = each_opener (λ (c : List ℕ). performed rest c ≡ []) refl refl refl refl refl refl refl refl

sos_quiet : (c : List ℕ) → Spells 0x98 c → performed rest c ≡ []
unfolding at_rest
sos_quiet c (inl e) = ap (performed rest) e
sos_quiet c (inr e) = ap (performed rest) e

-- two quiet parts
quiet_parts : (s q : Standing) (a b : List ℕ) → performed s a ≡ [] → standing_after s a ≡ q → performed q b ≡ [] → performed s (a ++ b) ≡ []
quiet_parts s q a b x e y = performed_parts s a b ∙ (λ j. x j ++ performed (e j) b) ∙ y

string_begun : (k : ℕ) (c body : List ℕ) → is_opener k ≡ true → Spells k c → AllOf is_body body → performed rest (c ++ body) ≡ []
string_begun k c body o s a = quiet_parts rest in_string c body (opener_quiet k c o s) (opener_leads k c o s) (quiet_all is_body in_string (λ b h. cond-true (is_body b) _ _ h) body a)

sos_begun : (c body : List ℕ) → Spells 0x98 c → Free body → performed rest (c ++ body) ≡ []
sos_begun c body s f = quiet_parts rest (in_sos false) c body (sos_quiet c s) (sos_leads c s) (sos_body false body f (λ z. absurd (both_ways false refl z))).2

string_end_quiet : (c : List ℕ) → Spells 0x9C c → performed in_string c ≡ []
unfolding at_rest
string_end_quiet c (inl e) = ap (performed in_string) e
string_end_quiet c (inr e) = ap (performed in_string) e

sos_end_quiet : (escaped : Bool) (c : List ℕ) → Spells 0x9C c → performed (in_sos escaped) c ≡ []
sos_end_quiet escaped c (inl e) = ap (performed (in_sos escaped)) e
sos_end_quiet true c (inr e) = ap (performed (in_sos true)) e
sos_end_quiet false c (inr e) = ap (performed (in_sos false)) e

string_quiet : (x : List ℕ) → Enclosed is_opener (AllOf is_body) x → performed rest x ≡ []
string_quiet x f =
    ap (performed rest) (f.spelled ∙ sym (append_assoc f.opener f.body f.st))
    ∙ quiet_parts rest in_string (f.opener ++ f.body) f.st (string_begun f.by f.opener f.body f.known f.opens f.within) (string_within f.by f.opener f.body f.known f.opens f.within) (string_end_quiet f.st f.ends)

sos_string_quiet : (x : List ℕ) → Enclosed (λ k. eqb k 0x98) Free x → performed rest x ≡ []
sos_string_quiet x f =
    let inside = sos_within f.opener f.body (opens_sos x f) f.within in
    ap (performed rest) (f.spelled ∙ sym (append_assoc f.opener f.body f.st))
    ∙ quiet_parts rest (in_sos inside.0) (f.opener ++ f.body) f.st (sos_begun f.opener f.body (opens_sos x f) f.within) inside.1 (sos_end_quiet inside.0 f.st f.ends)

-- a sequence without its final byte
between_quiet : (n : Parameters) (is : List ℕ) → AllOf is_intermediate is → performed (in_intermediates n) is ≡ []
between_quiet n [] a = refl
between_quiet n (b ∷ is) a = quiet_step (in_intermediates n) (in_intermediates None) b is (cond-true (is_intermediate b) _ _ a.0) ∙ between_quiet None is a.1

first_quiet : (n : Parameters) (is : List ℕ) → AllOf is_intermediate is → performed (in_parameters n) is ≡ []
first_quiet n [] a = refl
first_quiet n (b ∷ is) a = quiet_step (in_parameters n) (in_intermediates (cond (eqb b 0x20) n None)) b is (first_between n b a.0) ∙ between_quiet (cond (eqb b 0x20) n None) is a.1

sequence_begun : (c ps is : List ℕ) → Spells 0x9B c → AllOf is_parameter ps → AllOf is_intermediate is → performed rest (c ++ (ps ++ is)) ≡ []
sequence_begun c ps is s p i =
    let n = reads_numbers ps p in
    quiet_parts rest (in_parameters (Some [])) c (ps ++ is) (quiet_csi c s) (csi_leads c s) (quiet_parts (in_parameters (Some [])) _ ps is n.1 n.0 (first_quiet _ is i))

begun_quiet : (x : List ℕ) → Begun x → performed rest x ≡ []
unfolding at_rest
begun_quiet x (item.escape [] a e) = ap (performed rest) e
begun_quiet x (item.escape (b ∷ is) a e) =
    ap (performed rest) e ∙ quiet_step (escape false) (escape true) b is (cond-true (is_intermediate b) _ _ a.0) ∙ quiet_all is_intermediate (escape true) (λ b h. cond-true (is_intermediate b) _ _ h) is a.1
begun_quiet x (item.sequence c ps is s p i e) = ap (performed rest) e ∙ sequence_begun c ps is s p i
begun_quiet x (item.string k c body o s a e) = ap (performed rest) e ∙ string_begun k c body o s a
begun_quiet x (item.sos c body s f e) = ap (performed rest) e ∙ sos_begun c body s f

awaiting_quiet : (x : List ℕ) → Awaiting x → performed rest x ≡ []
unfolding at_rest
awaiting_quiet x f =
    ap (performed rest) (f.spelled ∙ sym (append_assoc f.opener f.body _))
    ∙ quiet_parts rest in_string (f.opener ++ f.body) (0x1B ∷ []) (string_begun f.by f.opener f.body f.known f.opens f.within) (string_within f.by f.opener f.body f.known f.opens f.within) refl

pub items_perform : ItemsPerform
items_perform Text x r f = text_performs x f.1
items_perform Control x r f = ap (performed rest) f.1 ∙ one_performs f.0 f.2
items_perform Escape x r f = ap (performed rest) f.spelled ∙ escape_performed f.between f.final f.intermediate f.ends f.alone
items_perform Sequence x r f = ap (performed rest) f.spelled ∙ sequence_performed f.csi f.parameters f.between f.final f.opens f.parameter f.intermediate f.ends
items_perform String x r (inl f) = string_quiet x f
items_perform String x r (inr f) = sos_string_quiet x f
items_perform Broken x r f = begun_quiet x f.0
items_perform Rest x r (e, inl g) = begun_quiet x g
items_perform Rest x r (e, inr g) = awaiting_quiet x g
