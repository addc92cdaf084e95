-- Where the reader stands behind an item.
use Rattle.std.proofs.Common.{◌≡◌, ℕ, ◌+◌, Bool, true, false, cond, ◌&&◌, eqb, List, [], ◌∷◌, ◌++◌, Some, None, sym, refl, ap, ◌∙◌, subst, inl, inr, ⊎_elim, append_assoc, arith}
use Rattle.std.proofs.lemmas.Bool.{cond-true, cond-false, cond_both, eqb-true, and_parts, or_cases, both_ways}
use Rattle.std.proofs.lemmas.Bool.Decides.{nat_tests}
use Rattle.reader.specs.declared.item.Kind.{Kind}
use Rattle.reader.specs.declared.item.Kind.TheVariants.{Text, Control, Escape, Sequence, String, Broken, Rest}
use Rattle.reader.specs.Bytes.{AllOf, among, is_graphic, is_body, is_opener, is_intermediate, is_parameter, ends_escape, ends_sequence}
use Rattle.reader.specs.Functions.{Parameters, reset}
use Rattle.reader.specs.Steps.{Standing, Outcome, to, ends, at_rest, sequence_final, step, standing_after, performed, rest, escape, in_string, in_sos, is_at_rest}
use Rattle.reader.specs.Items as item
use Rattle.reader.specs.Items.{Spells, begins, is_beginning, is_lone, Free, Sequenced, Enclosed, Begun, Cuts, Awaiting, Form}
use Rattle.reader.specs.Performs.{is_rest}
use Rattle.reader.proofs.Parts.{standing_parts}
use Rattle.reader.proofs.Agree.{stays, rest_graphic, escape_between, string_body, rest_lone, sos_leads, opener_leads, string_ends, sos_ends, sos_body, After, none, some, sequence_leads, escape_leads}

-- what follows is read as from rest
pub record LikeRest (s : Standing) (r : List ℕ) : Type 0 where
  pub leads : standing_after s r ≡ standing_after rest r
  pub performs : performed s r ≡ performed rest r

at_rest_like : (s : Standing) (r : List ℕ) → s ≡ rest → LikeRest s r
at_rest_like s r e = record { leads = ap (λ (q : Standing). standing_after q r) e; performs = ap (λ (q : Standing). performed q r) e }

-- a byte that is read as at rest
byte_like : (s : Standing) (b : ℕ) (bs : List ℕ) → step s b ≡ step rest b → LikeRest s (b ∷ bs)
byte_like s b bs e = record { leads = ap (λ (o : Outcome). standing_after o.standing bs) e; performs = ap (λ (o : Outcome). o.performs ++ performed o.standing bs) e }

standing_in : {o q : Outcome} → o ≡ q → o.standing ≡ q.standing
standing_in e = ap (λ (o : Outcome). o.standing) e

-- a final byte ends a sequence
final_rests : (n : Parameters) (space : Bool) (f : ℕ) → (sequence_final n space f).standing ≡ rest
final_rests None space f = refl
final_rests (Some ps) space f = refl

sequence_ends : (is : List ℕ) (s : Standing) (f : ℕ) → After is s → ends_sequence f ≡ true → (step s f).standing ≡ rest
sequence_ends is s f (none n e w) h =
    let unfit : is_parameter f ≡ false = grind (arith, nat_tests) in
    let noti : is_intermediate f ≡ false = grind (arith, nat_tests) in
    ap (λ (q : Standing). (step q f).standing) w ∙ standing_in (cond-false (is_parameter f) _ _ unfit ∙ cond-false (is_intermediate f) _ _ noti ∙ cond-true (ends_sequence f) _ _ h) ∙ final_rests n false f
sequence_ends is s f (some n w) h =
    let noti : is_intermediate f ≡ false = grind (arith, nat_tests) in
    ap (λ (q : Standing). (step q f).standing) w ∙ standing_in (cond-false (is_intermediate f) _ _ noti ∙ cond-true (ends_sequence f) _ _ h) ∙ final_rests n true f

sequence_item : (x : List ℕ) → Sequenced x → standing_after rest x ≡ rest
sequence_item x f =
    let front = f.csi ++ (f.parameters ++ f.between) in
    let regroup : x ≡ front ++ f.final ∷ [] = f.spelled ∙ simp append_assoc in
    ap (standing_after rest) regroup ∙ standing_parts rest front (f.final ∷ [])
    ∙ sequence_ends f.between (standing_after rest front) f.final (sequence_leads f.csi f.parameters f.between f.opens f.parameter f.intermediate) f.ends

-- a final byte ends an escape: one that stands for a control of one byte, RIS or nothing
escape_ends : (f : ℕ) → ends_escape f ≡ true → (step (escape true) f).standing ≡ rest
escape_ends f h =
    let noti : is_intermediate f ≡ false = grind (arith, nat_tests) in
    standing_in (cond-false (is_intermediate f) _ _ noti ∙ cond-true (ends_escape f) _ _ h)

pub lone_above : (f : ℕ) → among 0x40 0x5F f ≡ true → is_beginning (f + 64) ≡ false → is_lone (f + 64) ≡ true
lone_above f h unfit = grind (arith, nat_tests)

escape_ends_alone : (f : ℕ) → ends_escape f ≡ true → is_beginning (f + 64) ≡ false → (step (escape false) f).standing ≡ rest
escape_ends_alone f h unfit =
    let noti : is_intermediate f ≡ false = grind (arith, nat_tests) in
    standing_in (cond-false (is_intermediate f) _ _ noti ∙ cond-true (ends_escape f) _ _ h)
    ∙ cond_both (among 0x40 0x5F f) (at_rest (f + 64)) (cond (eqb f 0x63) (ends reset) (to rest)) (λ (o : Outcome). o.standing ≡ rest)
    (λ e. rest_lone (f + 64) (lone_above f e unfit))
    (λ _. cond_both (eqb f 0x63) (ends reset) (to rest) (λ (o : Outcome). o.standing ≡ rest) (λ _. refl) (λ _. refl))

escape_item : (is : List ℕ) (f : ℕ) → AllOf is_intermediate is → ends_escape f ≡ true → (is ≡ [] → is_beginning (f + 64) ≡ false) → standing_after rest (0x1B ∷ (is ++ f ∷ [])) ≡ rest
unfolding at_rest
escape_item [] f a h alone = escape_ends_alone f h (alone refl)
escape_item (b ∷ is) f a h alone =
    ap (λ (o : Outcome). standing_after o.standing (is ++ f ∷ [])) (cond-true (is_intermediate b) _ _ a.0)
    ∙ standing_parts (escape true) is (f ∷ [])
    ∙ ap (λ (q : Standing). standing_after q (f ∷ [])) (stays is_intermediate (escape true) escape_between is a.1)
    ∙ escape_ends f h

-- a string's body, and its end
pub string_within : (k : ℕ) (c body : List ℕ) → is_opener k ≡ true → Spells k c → AllOf is_body body → standing_after rest (c ++ body) ≡ in_string
string_within k c body o s a = standing_parts rest c body ∙ ap (λ (q : Standing). standing_after q body) (opener_leads k c o s) ∙ stays is_body in_string string_body body a

pub sos_within : (c body : List ℕ) → Spells 0x98 c → Free body → (e : Bool) × (standing_after rest (c ++ body) ≡ in_sos e)
sos_within c body s f =
    let inside = sos_body false body f (λ z. absurd (both_ways false refl z)) in
    (inside.0, standing_parts rest c body ∙ ap (λ (q : Standing). standing_after q body) (sos_leads c s) ∙ inside.1)

enclosed : (opening : ℕ → Bool) (Within : List ℕ → Type 0) (x : List ℕ) (f : Enclosed opening Within x) (s : Standing) → standing_after rest (f.opener ++ f.body) ≡ s → standing_after s f.st ≡ rest → standing_after rest x ≡ rest
enclosed opening Within x f s in_Body ended =
    ap (standing_after rest) (f.spelled ∙ sym (append_assoc f.opener f.body f.st)) ∙ standing_parts rest (f.opener ++ f.body) f.st ∙ ap (λ (q : Standing). standing_after q f.st) in_Body ∙ ended

string_item : (x : List ℕ) → Enclosed is_opener (AllOf is_body) x → standing_after rest x ≡ rest
string_item x f = enclosed is_opener (AllOf is_body) x f in_string (string_within f.by f.opener f.body f.known f.opens f.within) (string_ends f.st f.ends)

pub opens_sos : (x : List ℕ) (f : Enclosed (λ k. eqb k 0x98) Free x) → Spells 0x98 f.opener
opens_sos x f = subst (λ (k : ℕ). Spells k f.opener) (eqb-true f.by 0x98 f.known) f.opens

sos_item : (x : List ℕ) → Enclosed (λ k. eqb k 0x98) Free x → standing_after rest x ≡ rest
sos_item x f =
    let inside = sos_within f.opener f.body (opens_sos x f) f.within in
    enclosed (λ k. eqb k 0x98) Free x f (in_sos inside.0) inside.1 (sos_ends inside.0 f.st f.ends)

-- what cuts an item is read as at rest
sequence_cut : (is : List ℕ) (s : Standing) (b : ℕ) → After is s → is_intermediate b ≡ false → ends_sequence b ≡ false → (is ≡ [] → is_parameter b ≡ false) → step s b ≡ step rest b
sequence_cut is s b (none n e w) i f q =
    ap (λ (z : Standing). step z b) w ∙ cond-false (is_parameter b) _ _ (q e) ∙ cond-false (is_intermediate b) _ _ i ∙ cond-false (ends_sequence b) _ _ f
sequence_cut is s b (some n w) i f q = ap (λ (z : Standing). step z b) w ∙ cond-false (is_intermediate b) _ _ i ∙ cond-false (ends_sequence b) _ _ f

escape_cut : (between : Bool) (b : ℕ) → is_intermediate b ≡ false → ends_escape b ≡ false → step (escape between) b ≡ step rest b
escape_cut between b i f = cond-false (is_intermediate b) _ _ i ∙ cond-false (ends_escape b) _ _ f

-- an SOS string that SOS cuts is in the same standing as one that it opens
again_eight : (escaped : Bool) (bs : List ℕ) → LikeRest (in_sos escaped) (0x98 ∷ bs)
unfolding at_rest
again_eight true bs = record { leads = refl; performs = refl }
again_eight false bs = record { leads = refl; performs = refl }

again_seven : (escaped : Bool) (bs : List ℕ) → LikeRest (in_sos escaped) (0x1B ∷ 0x58 ∷ bs)
unfolding at_rest
again_seven true bs = record { leads = refl; performs = refl }
again_seven false bs = record { leads = refl; performs = refl }

sos_again : (escaped : Bool) (r : List ℕ) → begins 0x98 r ≡ true → LikeRest (in_sos escaped) r
sos_again escaped [] h = absurd (both_ways false refl h)
sos_again escaped (b ∷ []) h = subst (λ (x : ℕ). LikeRest (in_sos escaped) (x ∷ [])) (sym (eqb-true b 0x98 h)) (again_eight escaped [])
sos_again escaped (b ∷ c ∷ bs) h =
    ⊎_elim
    (λ e. subst (λ (x : ℕ). LikeRest (in_sos escaped) (x ∷ c ∷ bs)) (sym (eqb-true b 0x98 e)) (again_eight escaped (c ∷ bs)))
    (λ e.
    let both = and_parts (eqb b 0x1B) (eqb c 0x58) e in
    subst (λ (x : ℕ). LikeRest (in_sos escaped) (x ∷ c ∷ bs)) (sym (eqb-true b 0x1B both.0))
    (subst (λ (x : ℕ). LikeRest (in_sos escaped) (0x1B ∷ x ∷ bs)) (sym (eqb-true c 0x58 both.1)) (again_seven escaped bs)))
    (or_cases (eqb b 0x98) (eqb b 0x1B && eqb c 0x58) h)

-- a cut after s, where x leads
cut_after : (x : List ℕ) (s : Standing) (r : List ℕ) (b : ℕ) (bs : List ℕ) → standing_after rest x ≡ s → r ≡ b ∷ bs → step s b ≡ step rest b → LikeRest (standing_after rest x) r
cut_after x s r b bs led at e = subst (λ (q : Standing). LikeRest q r) (sym led) (subst (LikeRest s) (sym at) (byte_like s b bs e))

broken_item : (x r : List ℕ) (g : Begun x) → Cuts g r → LikeRest (standing_after rest x) r
broken_item x r (item.escape is a e) (b, bs, at, i, f) =
    let led = escape_leads is a in
    cut_after x (escape led.0) r b bs (ap (standing_after rest) e ∙ led.1) at (escape_cut led.0 b i f)
broken_item x r (item.sequence c ps is s p i e) (b, bs, at, noti, unfit, q) =
    let front = c ++ (ps ++ is) in
    cut_after x (standing_after rest front) r b bs (ap (standing_after rest) e) at (sequence_cut is (standing_after rest front) b (sequence_leads c ps is s p i) noti unfit q)
broken_item x r (item.string k c body o s a e) (b, bs, at, unfit, _, _) =
    cut_after x in_string r b bs (ap (standing_after rest) e ∙ string_within k c body o s a) at (cond-false (is_body b) _ _ unfit)
broken_item x r (item.sos c body s f e) h =
    let led = sos_within c body s f in
    subst (λ (q : Standing). LikeRest q r) (sym (ap (standing_after rest) e ∙ led.1)) (sos_again led.0 r h)

-- behind every item but an unfinished one, the bytes are read as from rest
pub behind_item : (k : Kind) (x r : List ℕ) → Form k x r → is_rest k ≡ false → LikeRest (standing_after rest x) r
behind_item Text x r f h = at_rest_like _ r (stays is_graphic rest rest_graphic x f.1)
behind_item Control x r f h = at_rest_like _ r (ap (standing_after rest) f.1 ∙ rest_lone f.0 f.2)
behind_item Escape x r f h = at_rest_like _ r (ap (standing_after rest) f.spelled ∙ escape_item f.between f.final f.intermediate f.ends f.alone)
behind_item Sequence x r f h = at_rest_like _ r (sequence_item x f)
behind_item String x r (inl f) h = at_rest_like _ r (string_item x f)
behind_item String x r (inr f) h = at_rest_like _ r (sos_item x f)
behind_item Broken x r f h = broken_item x r f.0 f.1
behind_item Rest x r f h = absurd (both_ways true h refl)

-- an unfinished item leaves the reader in the middle
after_unrested : {is : List ℕ} {s : Standing} → After is s → is_at_rest s ≡ false
after_unrested (none n e w) = ap is_at_rest w
after_unrested (some n w) = ap is_at_rest w

begun_unrested : (x : List ℕ) → Begun x → is_at_rest (standing_after rest x) ≡ false
begun_unrested x (item.escape is a e) = let led = escape_leads is a in ap is_at_rest (ap (standing_after rest) e ∙ led.1)
begun_unrested x (item.sequence c ps is s p i e) = ap (λ (y : List ℕ). is_at_rest (standing_after rest y)) e ∙ after_unrested (sequence_leads c ps is s p i)
begun_unrested x (item.string k c body o s a e) = ap is_at_rest (ap (standing_after rest) e ∙ string_within k c body o s a)
begun_unrested x (item.sos c body s f e) = let led = sos_within c body s f in ap is_at_rest (ap (standing_after rest) e ∙ led.1)

awaiting_unrested : (x : List ℕ) → Awaiting x → is_at_rest (standing_after rest x) ≡ false
unfolding at_rest
awaiting_unrested x f =
    ap is_at_rest
    (ap (standing_after rest) (f.spelled ∙ sym (append_assoc f.opener f.body _)) ∙ standing_parts rest (f.opener ++ f.body) _
    ∙ ap (λ (q : Standing). standing_after q (0x1B ∷ [])) (string_within f.by f.opener f.body f.known f.opens f.within))

pub rest_unrested : (x r : List ℕ) → Form Rest x r → is_at_rest (standing_after rest x) ≡ false
rest_unrested x r (e, inl g) = begun_unrested x g
rest_unrested x r (e, inr g) = awaiting_unrested x g
