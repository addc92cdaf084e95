-- Runs of a class, and the forms of items that are made of them.
use Rattle.std.proofs.Common.{◌≡◌, ℕ, suc, cond, ◌+◌, ◌-◌, ◌<◌, Bool, true, false, eqb, List, [], ◌∷◌, ◌++◌, length, get_or, take, drop, sym, refl, ap, ◌∙◌, subst, inl, inr, append_assoc, append-nil, not-suc-le-zero, arith, take_all}
use Rattle.std.proofs.lemmas.Bool.{eq-eqb, or_left, or_right, and_from, or_parts}
use Rattle.std.proofs.lemmas.Bool.Decides.{nat_tests}
use Rattle.std.specs.List.{prefix_len}
use Rattle.reader.specs.declared.item.Kind.{Kind}
use Rattle.reader.specs.declared.item.Kind.TheVariants.{Control, Escape, Sequence, String, Broken, Rest}
use Rattle.reader.specs.Bytes.{is_graphic, is_opener, is_body, is_intermediate, is_parameter, ends_escape, ends_sequence, AllOf, Stops}
use Rattle.reader.specs.Items as item
use Rattle.reader.specs.Items.{Spells, begins, Free, is_lone, Form}
use Rattle.reader.specs.Walks.{Leaves, Leads, Opens, ended, opens_more}

-- the longest front of a class is all of that class
pub front_all : (P : ℕ → Bool) (bs : List ℕ) → AllOf P (take (prefix_len P bs) bs)
front_all P [] = tt
front_all P (b ∷ bs) = by_test (P b) refl (front_all P bs)
  where
    by_test : (t : Bool) → P b ≡ t → AllOf P (take (prefix_len P bs) bs) → AllOf P (take (cond t (1 + prefix_len P bs) 0) (b ∷ bs))
    by_test true e others = let one : 1 + prefix_len P bs ≡ suc (prefix_len P bs) = omega arith in rw one (e, others)
    by_test false e others = tt

-- what a slice pattern `[first, after @ ..]` names
pub pattern_one : (t : List ℕ) → 0 < length t → get_or t 0 0 ∷ take (length t - 1) (drop 1 t) ≡ t
pattern_one [] h = absurd (not-suc-le-zero h)
pattern_one (b ∷ bs) h = ap (λ (l : List ℕ). b ∷ l) (take_all _ bs (omega arith))

empty : (t : List ℕ) → length t < 1 → t ≡ []
empty [] h = refl
empty (b ∷ bs) h = absurd (omega arith)

-- l is ps and m, and m is is and t
module _ (l ps m is t : List ℕ) (front : ps ++ m ≡ l) (back : is ++ t ≡ m) where
  joined : (ps ++ is) ++ t ≡ l
  joined = append_assoc ps is t ∙ ap (λ (z : List ℕ). ps ++ z) back ∙ front

  module _ (a : AllOf is_parameter ps) (i : AllOf is_intermediate is) where
    pub sequence_rest : length t < 1 → Leaves (Spells 0x9B) Rest l t
    sequence_rest h = (ps ++ is, joined, λ c s. (empty t h, inl (item.sequence c ps is s a i refl)))

    pub sequence_whole : (b : ℕ) (bs : List ℕ) → b ∷ bs ≡ t → ends_sequence b ≡ true → Leaves (Spells 0x9B) Sequence l bs
    sequence_whole b bs e f = (
      ps ++ (is ++ b ∷ []),
      append_assoc ps (is ++ b ∷ []) bs ∙ ap (λ (z : List ℕ). ps ++ z) (append_assoc is (b ∷ []) bs ∙ ap (λ (z : List ℕ). is ++ z) e ∙ back) ∙ front,
      λ c s. record { csi = c; parameters = ps; between = is; final = b; spelled = refl; opens = s; parameter = a; intermediate = i; ends = f },
    )

    pub sequence_broken : Stops is_parameter m → Stops is_intermediate t → (b : ℕ) (bs : List ℕ) → b ∷ bs ≡ t → ends_sequence b ≡ false → Leaves (Spells 0x9B) Broken l t
    sequence_broken sp si b bs e f = (
      ps ++ is,
      joined,
      λ c s. (
        item.sequence c ps is s a i refl,
        (b, bs, sym e, subst (Stops is_intermediate) (sym e) si, f, λ none. subst (Stops is_parameter) (sym (e ∙ ap (λ (z : List ℕ). z ++ t) (sym none) ∙ back)) sp),
      ),
    )

-- what `[first, second, after @ ..]` names
pub pattern_two : (t : List ℕ) → 1 < length t → get_or t 0 0 ∷ get_or t 1 0 ∷ take (length t - 2) (drop 2 t) ≡ t
pattern_two [] h = absurd (not-suc-le-zero h)
pattern_two (a ∷ []) h = absurd (omega arith)
pattern_two (a ∷ b ∷ bs) h = ap (λ (l : List ℕ). a ∷ b ∷ l) (take_all _ bs (omega arith))

-- the rest of an escape, l, is its intermediates and t
module _ (l is t : List ℕ) (whole : is ++ t ≡ l) (i : AllOf is_intermediate is) where
  esc : (c x : List ℕ) → c ≡ 0x1B ∷ [] → c ++ x ≡ 0x1B ∷ x
  esc c x e = ap (λ (z : List ℕ). z ++ x) e

  pub escape_rest : length t < 1 → Leaves (λ c. c ≡ 0x1B ∷ []) Rest l t
  escape_rest h = (is, whole, λ c s. (empty t h, inl (item.escape is i (esc c is s))))

  pub escape_whole : Stops opens_more l → (b : ℕ) (bs : List ℕ) → b ∷ bs ≡ t → ends_escape b ≡ true → Leaves (λ c. c ≡ 0x1B ∷ []) Escape l bs
  escape_whole lone b bs e f = (
    is ++ b ∷ [],
    append_assoc is (b ∷ []) bs ∙ ap (λ (z : List ℕ). is ++ z) e ∙ whole,
    λ c s. record { between = is; final = b; spelled = esc c (is ++ b ∷ []) s; intermediate = i; ends = f; alone = λ none. subst (Stops opens_more) (sym (e ∙ ap (λ (z : List ℕ). z ++ t) (sym none) ∙ whole)) lone },
  )

  pub escape_broken : Stops is_intermediate t → (b : ℕ) (bs : List ℕ) → b ∷ bs ≡ t → ends_escape b ≡ false → Leaves (λ c. c ≡ 0x1B ∷ []) Broken l t
  escape_broken si b bs e f = (is, whole, λ c s. (item.escape is i (esc c is s), (b, bs, sym e, subst (Stops is_intermediate) (sym e) si, f)))

-- which of these it is, is told by the byte at the end
pub escape_ends : (l is t : List ℕ) → is ++ t ≡ l → AllOf is_intermediate is → Stops opens_more l → Stops is_intermediate t → Leaves (λ c. c ≡ 0x1B ∷ []) (ended ends_escape Escape t).0 l (ended ends_escape Escape t).1
escape_ends l is [] w i lone si = escape_rest l is [] w i (omega arith)
escape_ends l is (b ∷ bs) w i lone si = by (ends_escape b) refl
  where
    by : (t : Bool) → ends_escape b ≡ t → Leaves (λ c. c ≡ 0x1B ∷ []) (cond {A = Kind × List ℕ} t (Escape, bs) (Broken, b ∷ bs)).0 l (cond {A = Kind × List ℕ} t (Escape, bs) (Broken, b ∷ bs)).1
    by true f = escape_whole l is (b ∷ bs) w i lone b bs refl f
    by false f = escape_broken l is (b ∷ bs) w i si b bs refl f

pub sequence_ends : (l ps m is t : List ℕ) → ps ++ m ≡ l → is ++ t ≡ m → AllOf is_parameter ps → AllOf is_intermediate is → Stops is_parameter m → Stops is_intermediate t → Leaves (Spells 0x9B) (ended ends_sequence Sequence t).0 l (ended ends_sequence Sequence t).1
sequence_ends l ps m is [] v w a i sp si = sequence_rest l ps m is [] v w a i (omega arith)
sequence_ends l ps m is (b ∷ bs) v w a i sp si = by (ends_sequence b) refl
  where
    by : (t : Bool) → ends_sequence b ≡ t → Leaves (Spells 0x9B) (cond {A = Kind × List ℕ} t (Sequence, bs) (Broken, b ∷ bs)).0 l (cond {A = Kind × List ℕ} t (Sequence, bs) (Broken, b ∷ bs)).1
    by true f = sequence_whole l ps m is (b ∷ bs) v w a i b bs refl f
    by false f = sequence_broken l ps m is (b ∷ bs) v w a i sp si b bs refl f

-- a control at the front, in one form or the other
begins_one : (k : ℕ) (b : ℕ) (bs : List ℕ) → b ≡ k → begins k (b ∷ bs) ≡ true
begins_one k b [] e = eq-eqb b k e
begins_one k b (c ∷ bs) e = or_left (eqb b k) _ (eq-eqb b k e)

pub control_one : (k : ℕ) (l : List ℕ) (b : ℕ) (bs : List ℕ) → b ∷ bs ≡ l → b ≡ k → (begins k l ≡ true) × ((c : List ℕ) × Spells k c × (c ++ bs ≡ l))
control_one k l b bs w e = (ap (begins k) (sym w) ∙ begins_one k b bs e, (k ∷ [], inl refl, ap (λ (j : ℕ). j ∷ bs) (sym e) ∙ w))

pub control_two : (k : ℕ) (l : List ℕ) (a b : ℕ) (bs : List ℕ) → a ∷ b ∷ bs ≡ l → a ≡ 0x1B → b ≡ k - 64 → (begins k l ≡ true) × ((c : List ℕ) × Spells k c × (c ++ bs ≡ l))
control_two k l a b bs w e f = (
  ap (begins k) (sym w) ∙ or_right (eqb a k) _ (and_from (eqb a 0x1B) (eqb b (k - 64)) (eq-eqb a 0x1B e) (eq-eqb b (k - 64) f)),
  (0x1B ∷ (k - 64) ∷ [], inr refl, (λ i. sym e i ∷ sym f i ∷ bs) ∙ w),
)

-- after the opener of a command string, l is the body and t
module _ (l body t : List ℕ) (whole : body ++ t ≡ l) (a : AllOf is_body body) where
  pub string_rest : length t < 1 → Leaves Opens Rest l t
  string_rest h = (body, whole, λ c o. (empty t h, inl (item.string o.0 c body o.1 o.2 a refl)))

  pub string_rest_esc : t ≡ 0x1B ∷ [] → Leaves Opens Rest l []
  string_rest_esc e = (
    body ++ 0x1B ∷ [],
    append-nil _ ∙ ap (λ (z : List ℕ). body ++ z) (sym e) ∙ whole,
    λ c o. (refl, inr (record { by = o.0; opener = c; body = body; spelled = refl; known = o.1; opens = o.2; within = a })),
  )

  pub string_whole : (st bs : List ℕ) → Spells 0x9C st → st ++ bs ≡ t → Leaves Opens String l bs
  string_whole st bs s e = (
    body ++ st,
    append_assoc body st bs ∙ ap (λ (z : List ℕ). body ++ z) e ∙ whole,
    λ c o. inl (record { by = o.0; opener = c; body = body; st = st; spelled = refl; known = o.1; opens = o.2; within = a; ends = s }),
  )

  pub string_broken : Stops is_body t → begins 0x9C t ≡ false → (b : ℕ) (bs : List ℕ) → b ∷ bs ≡ t → (b ≡ 0x1B → 0 < length bs) → Leaves Opens Broken l t
  string_broken sb st b bs e more = (body, whole, λ c o. (item.string o.0 c body o.1 o.2 a refl, (b, bs, sym e, subst (Stops is_body) (sym e) sb, st, more)))

pub single : (t : List ℕ) (k : ℕ) → 0 < length t → length t < 2 → get_or t 0 0 ≡ k → t ≡ k ∷ []
single [] k h g e = absurd (not-suc-le-zero h)
single (b ∷ []) k h g e = ap (λ (j : ℕ). j ∷ []) e
single (b ∷ c ∷ bs) k h g e = absurd (omega arith)

pub some_after : (t : List ℕ) → 1 < length t → 0 < length (take (length t - 1) (drop 1 t))
some_after [] h = absurd (not-suc-le-zero h)
some_after (b ∷ bs) h = rw (take_all (length (b ∷ bs) - 1) bs (omega arith)) (omega arith)

-- ST and SOS begin nowhere in x, where t follows
abbrev pub Clear : List ℕ → List ℕ → Type 0
Clear [] t = Unit {0}
Clear (b ∷ x) t = (begins 0x9C ((b ∷ x) ++ t) ≡ false) × (begins 0x98 ((b ∷ x) ++ t) ≡ false) × Clear x t

begins_front : (k : ℕ) (x t : List ℕ) → begins k (x ++ t) ≡ false → begins k x ≡ false
begins_front k [] t h = refl
begins_front k (b ∷ []) [] h = h
begins_front k (b ∷ []) (c ∷ t) h = (or_parts (eqb b k) _ h).0
begins_front k (b ∷ c ∷ x) t h = h

clear_free : (x t : List ℕ) → Clear x t → Free x
clear_free [] t h = tt
clear_free (b ∷ x) t h = (begins_front 0x9C (b ∷ x) t h.0, begins_front 0x98 (b ∷ x) t h.1, clear_free x t h.2)

clear_more : (x : List ℕ) (b : ℕ) (t : List ℕ) → Clear x (b ∷ t) → begins 0x9C (b ∷ t) ≡ false → begins 0x98 (b ∷ t) ≡ false → Clear (x ++ b ∷ []) t
clear_more [] b t h p q = (p, q, tt)
clear_more (y ∷ x) b t h p q =
    let same = append_assoc (y ∷ x) (b ∷ []) t in
    (ap (begins 0x9C) same ∙ h.0, ap (begins 0x98) same ∙ h.1, clear_more x b t h.2 p q)

-- l is the body so far and t
abbrev pub Sofar : List ℕ → List ℕ → Type 0
Sofar l t = (x : List ℕ) × (x ++ t ≡ l) × Clear x t

pub sofar_more : (l t : List ℕ) (b : ℕ) (bs : List ℕ) → Sofar l t → b ∷ bs ≡ t → begins 0x9C t ≡ false → begins 0x98 t ≡ false → Sofar l bs
sofar_more l t b bs s e p q =
    let at = λ (z : List ℕ). Clear s.0 z in
    (s.0 ++ b ∷ [], append_assoc s.0 (b ∷ []) bs ∙ ap (λ (z : List ℕ). s.0 ++ z) e ∙ s.1, clear_more s.0 b bs (subst at (sym e) s.2) (ap (begins 0x9C) e ∙ p) (ap (begins 0x98) e ∙ q))

pub sos_rest : (l t : List ℕ) → Sofar l t → length t < 1 → Leaves (Spells 0x98) Rest l t
sos_rest l t s h = (s.0, s.1, λ c o. (empty t h, inl (item.sos c s.0 o (clear_free s.0 t s.2) refl)))

pub sos_broken : (l t : List ℕ) → Sofar l t → begins 0x98 t ≡ true → Leaves (Spells 0x98) Broken l t
sos_broken l t s h = (s.0, s.1, λ c o. (item.sos c s.0 o (clear_free s.0 t s.2) refl, h))

pub sos_whole : (l t st bs : List ℕ) → Sofar l t → Spells 0x9C st → st ++ bs ≡ t → Leaves (Spells 0x98) String l bs
sos_whole l t st bs s o e = (
  s.0 ++ st,
  append_assoc s.0 st bs ∙ ap (λ (z : List ℕ). s.0 ++ z) e ∙ s.1,
  λ c p. inr (record { by = 0x98; opener = c; body = s.0; st = st; spelled = refl; known = refl; opens = p; within = clear_free s.0 t s.2; ends = o }),
)

-- an opening c, and what it leads to
pub lead_by : (Opening : List ℕ → Type 0) (k : Kind) (l m t c : List ℕ) → Leaves Opening k m t → Opening c → c ++ m ≡ l → Leads k l t
lead_by Opening k l m t c v o e = (c ++ v.0, append_assoc c v.0 t ∙ ap (λ (z : List ℕ). c ++ z) v.1 ∙ e, v.2 c o)

pub front_one : (t : List ℕ) (k : ℕ) → 0 < length t → get_or t 0 0 ≡ k → (k ∷ []) ++ take (length t - 1) (drop 1 t) ≡ t
front_one t k h e = ap (λ (j : ℕ). j ∷ take (length t - 1) (drop 1 t)) (sym e) ∙ pattern_one t h

pub front_two : (t : List ℕ) (j k : ℕ) → 1 < length t → get_or t 0 0 ≡ j → get_or t 1 0 ≡ k → (j ∷ k ∷ []) ++ take (length t - 2) (drop 2 t) ≡ t
front_two t j k h e f = (λ i. sym e i ∷ sym f i ∷ take (length t - 2) (drop 2 t)) ∙ pattern_two t h

pub control_leads : (l : List ℕ) → 0 < length l → is_lone (get_or l 0 0) ≡ true → Leads Control l (take (length l - 1) (drop 1 l))
control_leads l h g = (get_or l 0 0 ∷ [], pattern_one l h, (get_or l 0 0, refl, g))

pub lone_rest : (b : ℕ) → b < 256 → (b ≡ 0x1B → ⊥) → (b ≡ 0x9B → ⊥) → (b ≡ 0x98 → ⊥) → is_opener b ≡ false → is_graphic b ≡ false → is_lone b ≡ true
lone_rest b f e c s o g = grind (arith, nat_tests)

pub escaped : (b : ℕ) → 0x1B ∷ b ∷ [] ≡ 0x1B ∷ ((b + 64) - 64) ∷ []
escaped b = let same : b ≡ (b + 64) - 64 = omega arith in ap (λ (j : ℕ). 0x1B ∷ j ∷ []) same
