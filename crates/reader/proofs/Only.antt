-- An item's kind and the bytes behind it are told from the bytes, so bytes are cut into items in one way only.
use Rattle.std.proofs.Common.{◌≡◌, ℕ, ◌+◌, ◌<◌, false, eqb, ◌⊎◌, List, [], ◌∷◌, ◌++◌, length, sym, refl, ap, ◌∙◌, subst, inl, inr, append_assoc, arith, length-append}
use Rattle.std.proofs.lemmas.List.{append_cancel_right}
use Rattle.std.proofs.lemmas.Bool.{eqb-true}
use Rattle.std.proofs.lemmas.Bool.Decides.{nat_tests}
use Rattle.reader.specs.declared.item.Kind.{Kind}
use Rattle.reader.specs.declared.item.Kind.TheVariants.{Text, Control, Escape, Sequence, String, Broken, Rest}
use Rattle.reader.specs.Bytes.{is_opener, is_body, is_intermediate, is_parameter, ends_escape, ends_sequence, AllOf}
use Rattle.reader.specs.Items as item
use Rattle.reader.specs.Items.{Spells, begins, Free, Begun, Cuts, Escaped, Sequenced, Enclosed, Awaiting, Form}
use Rattle.reader.specs.Walks.{opens_more}
use Rattle.reader.specs.Performs.{Cut, CutIsOnly}
use Rattle.reader.proofs.First.{first, first_none, ended_fits, ended_broken, ended_rest, closed_whole, closed_broken, closed_rest, closed_esc, scanned_whole, scanned_broken, scanned_rest, text_first, control_first, escape_first, sequence_first, string_first, sos_first, sos_apart, control_stops}

-- an item of two or of three parts, where r follows
two_parts : (x a b r : List ℕ) → x ≡ a ++ b → first (x ++ r) ≡ first (a ++ (b ++ r))
two_parts x a b r e = ap (λ (z : List ℕ). first (z ++ r)) e ∙ ap first (append_assoc a b r)

three_parts : (x a b c r : List ℕ) → x ≡ a ++ (b ++ c) → first (x ++ r) ≡ first (a ++ (b ++ (c ++ r)))
three_parts x a b c r e = two_parts x a (b ++ c) r e ∙ ap (λ (z : List ℕ). first (a ++ z)) (append_assoc b c r)

-- an escape, a sequence and strings
escaped_first : (x r : List ℕ) → Escaped x → first (x ++ r) ≡ (Escape, r)
escaped_first x r f =
    let h = f.ends in
    let s : is_intermediate f.final ≡ false = grind (arith, nat_tests) in
    three_parts x (0x1B ∷ []) f.between (f.final ∷ []) r f.spelled
    ∙ escape_first f.between (f.final ∷ r) f.intermediate s f.alone
    ∙ ended_fits ends_escape Escape f.final r h

sequenced_first : (x r : List ℕ) → Sequenced x → first (x ++ r) ≡ (Sequence, r)
sequenced_first x r f =
    let h = f.ends in
    let s : is_intermediate f.final ≡ false = grind (arith, nat_tests) in
    let p : is_parameter f.final ≡ false = grind (arith, nat_tests) in
    three_parts x f.csi f.parameters (f.between ++ f.final ∷ []) r f.spelled
    ∙ ap (λ (z : List ℕ). first (f.csi ++ (f.parameters ++ z))) (append_assoc f.between (f.final ∷ []) r)
    ∙ sequence_first f.between (f.final ∷ r) f.intermediate s f.csi f.parameters f.opens f.parameter (λ _. p)
    ∙ ended_fits ends_sequence Sequence f.final r h

string_whole_first : (x r : List ℕ) → Enclosed is_opener (AllOf is_body) x → first (x ++ r) ≡ (String, r)
string_whole_first x r f =
    three_parts x f.opener f.body f.st r f.spelled
    ∙ string_first f.by f.opener f.body (f.st ++ r) f.known f.opens f.within (control_stops 0x9C is_body refl refl f.st r f.ends)
    ∙ closed_whole f.st r f.ends

sos_whole_first : (x r : List ℕ) → Enclosed (λ k. eqb k 0x98) Free x → first (x ++ r) ≡ (String, r)
sos_whole_first x r f =
    let opens_98 : Spells 0x98 f.opener = subst (λ (k : ℕ). Spells k f.opener) (eqb-true f.by 0x98 f.known) f.opens in
    three_parts x f.opener f.body f.st r f.spelled
    ∙ sos_first f.opener f.body (f.st ++ r) opens_98 f.within (control_stops 0x9C _ refl refl f.st r f.ends, control_stops 0x9C _ refl refl f.st r f.ends)
    ∙ scanned_whole f.st r f.ends

-- what has no end
broken_first : (x r : List ℕ) (g : Begun x) → Cuts g r → first (x ++ r) ≡ (Broken, r)
broken_first x r (item.escape is a e) (b, bs, w, i, f) =
    let opens : opens_more b ≡ false = grind (arith, nat_tests) in
    subst (λ (z : List ℕ). first (x ++ z) ≡ (Broken, z)) (sym w)
    (ap (λ (z : List ℕ). first (z ++ b ∷ bs)) e ∙ escape_first is (b ∷ bs) a i (λ _. opens) ∙ ended_broken ends_escape Escape b bs f)
broken_first x r (item.sequence c ps is s p a e) (b, bs, w, i, f, q) =
    subst (λ (z : List ℕ). first (x ++ z) ≡ (Broken, z)) (sym w)
    (three_parts x c ps is (b ∷ bs) e ∙ sequence_first is (b ∷ bs) a i c ps s p q ∙ ended_broken ends_sequence Sequence b bs f)
broken_first x r (item.string k c body o s a e) (b, bs, w, n, st, more) =
    subst (λ (z : List ℕ). first (x ++ z) ≡ (Broken, z)) (sym w)
    (two_parts x c body (b ∷ bs) e ∙ string_first k c body (b ∷ bs) o s a n ∙ closed_broken b bs (ap (begins 0x9C) (sym w) ∙ st) more)
broken_first x r (item.sos c body s f e) h =
    two_parts x c body r e ∙ sos_first c body r s f (sos_apart r h).1 ∙ scanned_broken r h

rest_first : (x : List ℕ) → Begun x ⊎ Awaiting x → first (x ++ []) ≡ (Rest, [])
rest_first x (inl (item.escape is a e)) = ap (λ (z : List ℕ). first (z ++ [])) e ∙ escape_first is [] a tt (λ _. tt) ∙ ended_rest ends_escape Escape
rest_first x (inl (item.sequence c ps is s p a e)) = three_parts x c ps is [] e ∙ sequence_first is [] a tt c ps s p (λ _. tt) ∙ ended_rest ends_sequence Sequence
rest_first x (inl (item.string k c body o s a e)) = two_parts x c body [] e ∙ string_first k c body [] o s a tt ∙ closed_rest
rest_first x (inl (item.sos c body s f e)) = two_parts x c body [] e ∙ sos_first c body [] s f (tt, tt) ∙ scanned_rest
rest_first x (inr f) = three_parts x f.opener f.body (0x1B ∷ []) [] f.spelled ∙ string_first f.by f.opener f.body (0x1B ∷ []) f.known f.opens f.within refl ∙ closed_esc

-- each kind is told
pub form_first : (k : Kind) (x r : List ℕ) → Form k x r → first (x ++ r) ≡ (k, r)
form_first Text x r f = text_first x r f.0 f.1 f.2
form_first Control x r f = ap (λ (z : List ℕ). first (z ++ r)) f.1 ∙ control_first f.0 r f.2
form_first Escape x r f = escaped_first x r f
form_first Sequence x r f = sequenced_first x r f
form_first String x r (inl f) = string_whole_first x r f
form_first String x r (inr f) = sos_whole_first x r f
form_first Broken x r f = broken_first x r f.0 f.1
form_first Rest x r f = subst (λ (z : List ℕ). first (x ++ z) ≡ (Rest, z)) (sym f.0) (rest_first x f.1)

-- the first item of bytes is of one kind and one length
pub form_is_only : (k j : Kind) (x r y s : List ℕ) → Form k x r → Form j y s → x ++ r ≡ y ++ s → (k ≡ j) × (x ≡ y) × (r ≡ s)
form_is_only k j x r y s f g e =
    let same : ◌≡◌ {A = Kind × List ℕ} (k, r) (j, s) = sym (form_first k x r f) ∙ ap first e ∙ form_first j y s g in
    let left : r ≡ s = ap (λ (p : Kind × List ℕ). p.1) same in
    (ap (λ (p : Kind × List ℕ). p.0) same, append_cancel_right x y s (ap (λ (z : List ℕ). x ++ z) (sym left) ∙ e), left)

-- no item has no bytes: it would be told as a text, and no text is empty
pub form_of_none : (k : Kind) (x r : List ℕ) → Form k x r → [] ≡ x ++ r → ⊥
form_of_none k x r f e =
    let same : ◌≡◌ {A = Kind × List ℕ} (k, r) (Text, []) = sym (form_first k x r f) ∙ ap first (sym e) ∙ first_none in
    let text : Form Text x r = subst (λ (j : Kind). Form j x r) (ap (λ (p : Kind × List ℕ). p.0) same) f in
    let some : 0 < length x = text.0 in
    omega (arith, simp length-append at (ap length e))

pub cut_is_only : CutIsOnly
cut_is_only at [] [] bs c d = refl
cut_is_only at [] (q ∷ qs) bs c (place, s, whole, g, others) = absurd (form_of_none q.kind q.bytes s g (sym c ∙ whole))
cut_is_only at (p ∷ ps) [] bs (place, r, whole, f, others) d = absurd (form_of_none p.kind p.bytes r f (sym d ∙ whole))
cut_is_only at (p ∷ ps) (q ∷ qs) bs (p_place, r, p_whole, f, p_others) (q_place, s, q_whole, g, q_others) =
    let one = form_is_only p.kind q.kind p.bytes r q.bytes s f g (sym p_whole ∙ q_whole) in
    let same : p ≡ q = λ i. record { kind = one.0 i; place = (p_place ∙ sym q_place) i; bytes = one.1 i } in
    let moved : Cut (at + length p.bytes) qs r = subst (λ (z : List ℕ). Cut (at + length z) qs r) (sym one.1) (subst (λ (z : List ℕ). Cut (at + length q.bytes) qs z) (sym one.2) q_others) in
    let after = cut_is_only (at + length p.bytes) ps qs r p_others moved in
    λ i. same i ∷ after i
