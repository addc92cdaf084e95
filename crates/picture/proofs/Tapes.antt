-- Laying bytes: one list after another, and what the buffer holds in the end.
use Rattle.std.proofs.Common.{◌≡◌, ℕ, ◌+◌, ◌-◌, ◌^◌, ◌<◌, ◌≤◌, min, Bool, List, [], ◌∷◌, ◌++◌, length, drop, set, sym, refl, ap, ◌∙◌, subst₂, arith}
use Rattle.std.proofs.lemmas.List.{append_assoc, length-append, set_at}
use Rattle.picture.specs.Tape.{Tape, next, begun, laid, Lays, Leads, over, needed}

pub lays_none : {t : Tape} → Lays t [] t
unfolding laid
lays_none = record { is = refl }

pub lays_one : (t : Tape) (b : ℕ) (bs : List ℕ) (n : ℕ) → bs ≡ set t.bytes t.at b → n ≡ min (t.at + 1) (2 ^ 64 - 1)
    → Lays t (b ∷ []) (record { loan = t.loan; bytes = bs; at = n })
unfolding laid
lays_one t b bs n e f = record { is = ap (λ x. record { loan = t.loan; bytes = x; at = n }) e ∙ ap (λ m. record { loan = t.loan; bytes = set t.bytes t.at b; at = m }) f }

pub laid_append : (t : Tape) (xs ys : List ℕ) → laid (laid t xs) ys ≡ laid t (xs ++ ys)
unfolding laid
laid_append t [] ys = refl
laid_append t (x ∷ xs) ys = laid_append (next t x) xs ys

-- two steps of laying are one
pub then : {t u v : Tape} {xs ys : List ℕ} → Lays t xs u → Lays u ys v → Lays t (xs ++ ys) v
then {t} {u} {v} {xs} {ys} e f = record { is = f.is ∙ ap (λ s. laid s ys) e.is ∙ laid_append t xs ys }

-- the bytes by another name
pub being : {t u : Tape} {xs ys : List ℕ} → Lays t xs u → xs ≡ ys → Lays t ys u
being {t} e f = record { is = e.is ∙ ap (laid t) f }

pub leads_on : {t u v : Tape} {w left xs ys : List ℕ} → Leads u left t w → left ≡ xs ++ ys → Lays u xs v → Leads v ys t w
leads_on {t} {u} {v} {w} {left} {xs} {ys} l e s = record { is = ap (λ z. laid z ys) s.is ∙ laid_append u xs ys ∙ sym (ap (laid u) e) ∙ l.is }

pub leads_end : {t u : Tape} {w left : List ℕ} → Leads u left t w → left ≡ [] → Lays t w u
unfolding laid
leads_end {t} {u} l e = record { is = sym (ap (laid u) e) ∙ l.is }

at_next : (n : ℕ) → n + 1 < 2 ^ 64 → min (n + 1) (2 ^ 64 - 1) ≡ n + 1
at_next n h = omega arith

pub counted : (t : Tape) (w : List ℕ) → t.at < 2 ^ 64 → (laid t w).at ≡ min (t.at + length w) (2 ^ 64 - 1)
unfolding laid
counted t [] h = omega arith
counted t (b ∷ w) h = let r = counted (next t b) w (omega arith) in omega arith

-- the count of bytes laid from the start
pub measured : {loan : ℕ} {b w : List ℕ} {u : Tape} → Lays (begun loan b) w u → u.at ≡ needed w
measured {loan} {b} {w} {u} l = ap (λ t. t.at) l.is ∙ counted (begun loan b) w (omega arith) ∙ (let e : min (0 + length w) (2 ^ 64 - 1) ≡ min (length w) (2 ^ 64 - 1) = omega arith in e)

-- bytes laid behind those at the front
front : (loan : ℕ) (done rest w : List ℕ) → length done + length w < 2 ^ 64 → length w ≤ length rest
    → (laid (record { loan = loan; bytes = done ++ rest; at = length done }) w).bytes ≡ done ++ (w ++ drop (length w) rest)
unfolding laid
front loan done rest [] h k = refl
front loan done [] (b ∷ w) h k = absurd (omega arith)
front loan done (y ∷ rest) (b ∷ w) h k =
    let n : min (length done + 1) (2 ^ 64 - 1) ≡ length (done ++ b ∷ []) = at_next (length done) (omega arith) ∙ sym (length-append done (b ∷ [])) in
    let s : set (done ++ y ∷ rest) (length done) b ≡ (done ++ b ∷ []) ++ rest = set_at done y rest b (length done) refl ∙ sym (append_assoc done (b ∷ []) rest) in
    ap (λ x. (laid (record { loan = loan; bytes = x; at = min (length done + 1) (2 ^ 64 - 1) }) w).bytes) s ∙
    ap (λ m. (laid (record { loan = loan; bytes = (done ++ b ∷ []) ++ rest; at = m }) w).bytes) n ∙
    front loan (done ++ b ∷ []) rest w (simp length-append (omega arith)) (omega arith) ∙
    append_assoc done (b ∷ []) (w ++ drop (length w) rest)

pub laid_front : (loan : ℕ) (b w : List ℕ) → length w < 2 ^ 64 → length w ≤ length b → (laid (begun loan b) w).bytes ≡ over w b
laid_front loan b w h k = front loan [] b w (omega arith) k

pub same_loan : (t : Tape) (w : List ℕ) → (laid t w).loan ≡ t.loan
unfolding laid
same_loan t [] = refl
same_loan t (b ∷ w) = same_loan (next t b) w

-- what the lender finds again: its loan, and the bytes at the front
pub loan_kept : {loan : ℕ} {b w : List ℕ} {u : Tape} → Lays (begun loan b) w u → loan ≡ u.loan
loan_kept {loan} {b} {w} {u} l = sym (ap (λ t. t.loan) l.is ∙ same_loan (begun loan b) w)

pub bytes_at_front : {loan : ℕ} {b w : List ℕ} {u : Tape} → Lays (begun loan b) w u → length w < 2 ^ 64 → length w ≤ length b → u.bytes ≡ over w b
bytes_at_front {loan} {b} {w} {u} l h k = ap (λ t. t.bytes) l.is ∙ laid_front loan b w h k

-- what is laid where a test came out so, by the test
pub lays_by : (w : Bool → List ℕ) {a b : Bool} {t u v : Tape} → a ≡ b → v ≡ u → Lays t (w b) u → Lays t (w a) v
lays_by w {a} {b} {t} e s l = subst₂ (λ x y. Lays t (w x) y) (sym e) (sym s) l
