-- The whole walk: the items of all the bytes, and what they perform.
use Rattle.std.proofs.Common.{◌≡◌, ℕ, ◌+◌, true, false, ◌↔◌, None, List, [], ◌∷◌, map, ◌++◌, length, drop, sym, refl, ap, ◌∙◌, subst, append-nil, arith, length-append}
use Rattle.std.proofs.Math.Seq.{drop-length}
use Rattle.std.proofs.lemmas.Bool.{both_ways}
use Rattle.std.specs.Iterator.{Yields}
use Rattle.reader.specs.declared.item.Item.{Item}
use Rattle.reader.specs.declared.item.Items.{Items}
use Rattle.reader.specs.declared.item.Kind.{Kind}
use Rattle.reader.specs.declared.item.Kind.TheVariants.{Text, Control, Escape, Sequence, String, Broken, Rest}
use Rattle.reader.specs.Functions.{Function}
use Rattle.reader.specs.Steps.{Standing, rest, is_at_rest, standing_after, performed}
use Rattle.reader.specs.Items.{Form}
use Rattle.reader.specs.Walks.{spelling}
use Rattle.reader.specs.Giving.{GivesItem}
use Rattle.reader.specs.Performs.{Part, Cut, item_performs, CutsPerform, is_rest, unfinished, RestIsUnfinished}
use Rattle.reader.proofs.Parts.{standing_parts, performed_parts}
use Rattle.reader.proofs.Endings.{behind_item, rest_unrested}
use Rattle.reader.proofs.Grammar.{items_perform}
use Rattle.reader.proofs.Walk.{item_some}

abbrev pub part_of : Item → Part
part_of i = record { kind = i.kind; place = i.place; bytes = spelling i }

-- the items that came to the end are all of the bytes, in order
pub gives_cut : (s t u : Items) (is : List Item) → Yields GivesItem s is t → GivesItem t None u → Cut s.place (map part_of is) (drop s.place s.bytes.now)
gives_cut s t u [] e (same, end, _) = subst (λ (s : Items). drop s.place s.bytes.now ≡ []) (sym e) (ap (λ (n : ℕ). drop n t.bytes.now) end.ends ∙ drop-length t.bytes.now)
gives_cut s t u (i ∷ is) (j, (same, h, _), more) end =
    let others : Cut j.place (map part_of is) (drop j.place s.bytes.now) = subst (λ (bs : List ℕ). Cut j.place (map part_of is) (drop j.place bs)) same (gives_cut j t u is more end) in
    (h.place, drop j.place s.bytes.now, sym h.part, h.form, subst (λ (n : ℕ). Cut n (map part_of is) (drop j.place s.bytes.now)) h.on others)

-- the bytes behind an item perform as from rest; behind an unfinished one there are none
behind_performs : (k : Kind) (x r : List ℕ) → Form k x r → performed (standing_after rest x) r ≡ performed rest r
behind_performs Text x r f = (behind_item Text x r f refl).performs
behind_performs Control x r f = (behind_item Control x r f refl).performs
behind_performs Escape x r f = (behind_item Escape x r f refl).performs
behind_performs Sequence x r f = (behind_item Sequence x r f refl).performs
behind_performs String x r f = (behind_item String x r f refl).performs
behind_performs Broken x r f = (behind_item Broken x r f refl).performs
behind_performs Rest x r f = rw f.0 refl

pub cuts_perform : CutsPerform
cuts_perform at [] bs c = ap (performed rest) c
cuts_perform at (p ∷ ps) bs (place, r, whole, form, others) =
    ap (performed rest) whole ∙ performed_parts rest p.bytes r
    ∙ (λ j. items_perform p.kind p.bytes r form j ++ behind_performs p.kind p.bytes r form j)
    ∙ ap (λ (l : List Function). item_performs p.kind p.bytes r form ++ l) (cuts_perform (at + length p.bytes) ps r others)

-- where the reader stands after the first item and the others
leads_on : (k : Kind) (x r : List ℕ) → Form k x r → is_rest k ≡ false → standing_after rest (x ++ r) ≡ standing_after rest r
leads_on k x r f h = standing_parts rest x r ∙ (behind_item k x r f h).leads

not_at_rest : (s : Standing) → is_at_rest s ≡ false → s ≡ rest → ⊥
not_at_rest s h e = both_ways (is_at_rest s) h (ap is_at_rest e)

-- the last item
last_item : (k : Kind) (x : List ℕ) → Form k x [] → (is_rest k ≡ false) ↔ (standing_after rest x ≡ rest)
last_item Text x f = (λ _. (behind_item Text x [] f refl).leads, λ _. refl)
last_item Control x f = (λ _. (behind_item Control x [] f refl).leads, λ _. refl)
last_item Escape x f = (λ _. (behind_item Escape x [] f refl).leads, λ _. refl)
last_item Sequence x f = (λ _. (behind_item Sequence x [] f refl).leads, λ _. refl)
last_item String x f = (λ _. (behind_item String x [] f refl).leads, λ _. refl)
last_item Broken x f = (λ _. (behind_item Broken x [] f refl).leads, λ _. refl)
last_item Rest x f = (λ e. absurd (both_ways true e refl), λ e. absurd (not_at_rest _ (rest_unrested x [] f) e))

-- nothing follows an unfinished item
only_last : (k : Kind) (x r : List ℕ) (q : Part) (rs : List ℕ) → Form k x r → r ≡ q.bytes ++ rs → Form q.kind q.bytes rs → is_rest k ≡ false
only_last Text x r q rs f e g = refl
only_last Control x r q rs f e g = refl
only_last Escape x r q rs f e g = refl
only_last Sequence x r q rs f e g = refl
only_last String x r q rs f e g = refl
only_last Broken x r q rs f e g = refl
only_last Rest x r q rs f e g = absurd (omega (arith, item_some q.kind q.bytes rs g, simp length-append at (ap length (sym f.0 ∙ e))))

pub rest_is_unfinished : RestIsUnfinished
rest_is_unfinished at [] bs c = (λ _. ap (standing_after rest) c, λ _. refl)
rest_is_unfinished at (p ∷ []) bs (place, r, whole, form, others) =
    let all : bs ≡ p.bytes = whole ∙ ap (λ (l : List ℕ). p.bytes ++ l) others ∙ append-nil p.bytes in
    subst (λ (l : List ℕ). (is_rest p.kind ≡ false) ↔ (standing_after rest l ≡ rest)) (sym all) (last_item p.kind p.bytes (subst (Form p.kind p.bytes) others form))
rest_is_unfinished at (p ∷ q ∷ ps) bs (place, r, whole, form, others) =
    let more = only_last p.kind p.bytes r q others.1 form others.2 others.3 in
    let led : standing_after rest bs ≡ standing_after rest r = ap (standing_after rest) whole ∙ leads_on p.kind p.bytes r form more in
    subst (λ (s : Standing). (unfinished (q ∷ ps) ≡ false) ↔ (s ≡ rest)) (sym led) (rest_is_unfinished (at + length p.bytes) (q ∷ ps) r others)
