-- One step of the walk along bytes.
use Rattle.std.proofs.Common.{◌≡◌, ℕ, ◌+◌, ◌-◌, ◌<◌, List, [], ◌∷◌, ◌++◌, length, take, drop, sym, ap, ◌∙◌, subst, inl, inr, arith, length-append, drop-drop}
use Rattle.std.proofs.Math.Seq.{take-append_seam, drop-append_seam}
use Rattle.reader.specs.declared.item.Item.{Item}
use Rattle.reader.specs.declared.item.Kind.{Kind}
use Rattle.reader.specs.declared.item.Kind.TheVariants.{Text, Control, Escape, Sequence, String, Broken, Rest}
use Rattle.reader.specs.Items as item
use Rattle.reader.specs.Items.{Spells, Begun, Form}
use Rattle.reader.specs.Walks.{Handed, Leads, spelling}

-- no item is empty
spelled_some : (k : ℕ) (z c x : List ℕ) → Spells k c → z ≡ c ++ x → 0 < length z
spelled_some k z c x (inl s) e = subst (λ (y : List ℕ). 0 < length y) (sym (e ∙ ap (λ (d : List ℕ). d ++ x) s)) (omega arith)
spelled_some k z c x (inr s) e = subst (λ (y : List ℕ). 0 < length y) (sym (e ∙ ap (λ (d : List ℕ). d ++ x) s)) (omega arith)

cons_some : (z : List ℕ) (b : ℕ) (x : List ℕ) → z ≡ b ∷ x → 0 < length z
cons_some z b x e = subst (λ (y : List ℕ). 0 < length y) (sym e) (omega arith)

begun_some : (x : List ℕ) → Begun x → 0 < length x
begun_some x (item.escape is a e) = cons_some x 0x1B is e
begun_some x (item.sequence c ps is s a i e) = spelled_some 0x9B x c (ps ++ is) s e
begun_some x (item.string k c body o s a e) = spelled_some k x c body s e
begun_some x (item.sos c body s f e) = spelled_some 0x98 x c body s e

pub item_some : (k : Kind) (x t : List ℕ) → Form k x t → 0 < length x
item_some Text x t f = f.0
item_some Control x t f = cons_some x f.0 [] f.1
item_some Escape x t f = cons_some x 0x1B _ f.spelled
item_some Sequence x t f = spelled_some 0x9B x f.csi _ f.opens f.spelled
item_some String x t (inl f) = spelled_some f.by x f.opener _ f.opens f.spelled
item_some String x t (inr f) = spelled_some f.by x f.opener _ f.opens f.spelled
item_some Broken x t f = begun_some x f.0
item_some Rest x t (e, inl f) = begun_some x f
item_some Rest x t (e, inr f) = spelled_some f.by x f.opener _ f.opens f.spelled

-- what is cut off the front of what is left is handed out
pub handed : (bs left after : List ℕ) (from n : ℕ) (i : Item) → left ≡ drop from bs → Leads i.kind left after → n ≡ length left - length after → spelling i ≡ take n left → i.place ≡ from → Handed bs from (from + n) i
handed bs left after from n i at v len part place =
    let x = v.0 in
    let long : length x ≡ n = omega (arith, simp length-append at (ap length v.1)) in
    let is_x : spelling i ≡ x = part ∙ ap (λ (m : ℕ). take m left) (sym long) ∙ ap (take (length x)) (sym v.1) ∙ take-append_seam x after in
    let is_after : drop (from + n) bs ≡ after = sym (drop-drop n from bs) ∙ ap (drop n) (sym at) ∙ ap (λ (m : ℕ). drop m left) (sym long) ∙ ap (drop (length x)) (sym v.1) ∙ drop-append_seam x after in
    let form : Form i.kind (spelling i) (drop (from + n) bs) = subst (λ (y : List ℕ). Form i.kind y (drop (from + n) bs)) (sym is_x) (subst (Form i.kind x) (sym is_after) v.2) in
    record {
      place = place;
      part = (λ j. is_x j ++ is_after j) ∙ v.1 ∙ at;
      on = ap (λ (m : ℕ). from + m) (sym long ∙ ap length (sym is_x));
      some = item_some i.kind (spelling i) _ form;
      form = form;
    }
