-- The kind of the first item and the bytes behind it, told from the bytes alone.
use Rattle.std.proofs.Common.{◌≡◌, ℕ, ◌+◌, ◌-◌, ◌<◌, Bool, true, false, cond, eqb, List, [], ◌∷◌, ◌++◌, length, drop, sym, refl, ap, ◌∙◌, subst, inl, inr, not-suc-le-zero, arith}
use Rattle.std.proofs.lemmas.Bool.{cond-true, cond-false, or_from, or_left, and_right, both_ways, ne_eqb}
use Rattle.std.proofs.lemmas.Bool.Decides.{nat_tests}
use Rattle.reader.specs.declared.item.Kind.{Kind}
use Rattle.reader.specs.declared.item.Kind.TheVariants.{Text, Control, Escape, Sequence, String, Broken, Rest}
use Rattle.reader.specs.Bytes.{is_graphic, is_opener, is_body, is_intermediate, is_parameter, ends_escape, ends_sequence, AllOf, Stops}
use Rattle.reader.specs.Items.{Spells, begins, is_beginning, is_lone, Free}
use Rattle.reader.specs.Walks.{ended, opens_more}
use Rattle.reader.proofs.Forms.{control_one}

-- what is left behind the bytes of a class
skip : (ℕ → Bool) → List ℕ → List ℕ
skip P [] = []
skip P (b ∷ bs) = cond (P b) (skip P bs) (b ∷ bs)

-- what is left behind a control in either form
abbrev behind : ℕ → List ℕ → List ℕ
behind b bs = cond (eqb b 0x1B) (drop 1 bs) bs

-- a command string, from the end of its body: an ESC with nothing behind it may begin ST
abbrev waits : ℕ → List ℕ → Bool
waits b [] = eqb b 0x1B
waits b (c ∷ bs) = false

pub closed : List ℕ → Kind × List ℕ
closed [] = (Rest, [])
closed (b ∷ bs) = cond (begins 0x9C (b ∷ bs)) (String, behind b bs) (cond (waits b bs) (Rest, []) (Broken, b ∷ bs))

-- an SOS string, from its body
pub scanned : List ℕ → Kind × List ℕ
scanned [] = (Rest, [])
scanned (b ∷ bs) = cond (begins 0x9C (b ∷ bs)) (String, behind b bs) (cond (begins 0x98 (b ∷ bs)) (Broken, b ∷ bs) (scanned bs))

-- behind a control that begins an item of several bytes, and behind an ESC
opened : ℕ → List ℕ → Kind × List ℕ
opened k m = cond (eqb k 0x9B) (ended ends_sequence Sequence (skip is_intermediate (skip is_parameter m))) (cond (eqb k 0x98) (scanned m) (closed (skip is_body m)))

escaped : List ℕ → Kind × List ℕ
escaped [] = (Rest, [])
escaped (b ∷ m) = cond (opens_more b) (opened (b + 64) m) (ended ends_escape Escape (skip is_intermediate (b ∷ m)))

-- the first item; where there are no bytes, a text, since no text is empty
pub first : List ℕ → Kind × List ℕ
first [] = (Text, [])
first (b ∷ m) = cond (is_graphic b) (Text, skip is_graphic m) (cond (is_lone b) (Control, m) (cond (eqb b 0x1B) (escaped m) (opened b m)))

pub first_none : first [] ≡ (Text, [])
unfolding first
first_none = refl

-- a run is skipped up to what stops it
skip_stops : (P : ℕ → Bool) (r : List ℕ) → Stops P r → skip P r ≡ r
unfolding skip
skip_stops P [] s = refl
skip_stops P (b ∷ r) s = cond-false (P b) _ _ s

skip_run : (P : ℕ → Bool) (x r : List ℕ) → AllOf P x → Stops P r → skip P (x ++ r) ≡ r
unfolding skip
skip_run P [] r a s = skip_stops P r s
skip_run P (b ∷ x) r a s = cond-true (P b) _ _ a.0 ∙ skip_run P x r a.1 s

-- a run of another class stops this one
stops_run : (P Q : ℕ → Bool) → ((b : ℕ) → Q b ≡ true → P b ≡ false) → (x r : List ℕ) → AllOf Q x → (x ≡ [] → Stops P r) → Stops P (x ++ r)
stops_run P Q apart [] r a s = s refl
stops_run P Q apart (b ∷ x) r a s = apart b a.0

-- a final byte that fits, a byte that does not, and none
pub ended_fits : (P : ℕ → Bool) (k : Kind) (f : ℕ) (r : List ℕ) → P f ≡ true → ended P k (f ∷ r) ≡ (k, r)
ended_fits P k f r h = cond-true (P f) _ _ h

pub ended_broken : (P : ℕ → Bool) (k : Kind) (b : ℕ) (r : List ℕ) → P b ≡ false → ended P k (b ∷ r) ≡ (Broken, b ∷ r)
ended_broken P k b r h = cond-false (P b) _ _ h

pub ended_rest : (P : ℕ → Bool) (k : Kind) → ended P k [] ≡ (Rest, [])
ended_rest P k = refl

-- an ESC, where the byte behind it opens neither a sequence nor a string
first_escape : (m : List ℕ) → Stops opens_more m → first (0x1B ∷ m) ≡ ended ends_escape Escape (skip is_intermediate m)
unfolding first escaped skip
first_escape [] s = refl
first_escape (b ∷ m) s = cond-false (opens_more b) _ _ s

-- a control that begins an item, in either form
first_opened : (k : ℕ) (c m : List ℕ) → is_beginning k ≡ true → Spells k c → first (c ++ m) ≡ opened k m
unfolding first escaped
first_opened k c m h (inl e) =
    let g : is_graphic k ≡ false = grind (arith, nat_tests) in
    let l : is_lone k ≡ false = grind (arith, nat_tests) in
    let n : eqb k 0x1B ≡ false = grind (arith, nat_tests) in
    ap (λ (z : List ℕ). first (z ++ m)) e ∙ cond-false (is_graphic k) _ _ g ∙ cond-false (is_lone k) _ _ l ∙ cond-false (eqb k 0x1B) _ _ n
first_opened k c m h (inr e) =
    let low : 64 < k = grind (arith, nat_tests) in
    let same : (k - 64) + 64 ≡ k = omega arith in
    ap (λ (z : List ℕ). first (z ++ m)) e ∙ cond-true (opens_more (k - 64)) _ _ (ap is_beginning same ∙ h) ∙ ap (λ (j : ℕ). opened j m) same

first_csi : (c m : List ℕ) → Spells 0x9B c → first (c ++ m) ≡ ended ends_sequence Sequence (skip is_intermediate (skip is_parameter m))
unfolding opened
first_csi c m s = first_opened 0x9B c m refl s

first_sos : (c m : List ℕ) → Spells 0x98 c → first (c ++ m) ≡ scanned m
unfolding opened
first_sos c m s = first_opened 0x98 c m refl s

first_string : (k : ℕ) (c m : List ℕ) → is_opener k ≡ true → Spells k c → first (c ++ m) ≡ closed (skip is_body m)
unfolding opened
first_string k c m o s =
    let csi : eqb k 0x9B ≡ false = grind (arith, nat_tests) in
    let sos : eqb k 0x98 ≡ false = grind (arith, nat_tests) in
    first_opened k c m (or_left (is_opener k) _ o) s ∙ cond-false (eqb k 0x9B) _ _ csi ∙ cond-false (eqb k 0x98) _ _ sos

-- an intermediate stops the others
intermediate_opens_none : (b : ℕ) → is_intermediate b ≡ true → opens_more b ≡ false
intermediate_opens_none b h = grind (arith, nat_tests)

intermediate_no_parameter : (b : ℕ) → is_intermediate b ≡ true → is_parameter b ≡ false
intermediate_no_parameter b h = grind (arith, nat_tests)

-- an escape and a sequence, from the bytes behind their intermediates
module _ (is t : List ℕ) (i : AllOf is_intermediate is) (s : Stops is_intermediate t) where
  pub escape_first : (is ≡ [] → Stops opens_more t) → first (0x1B ∷ (is ++ t)) ≡ ended ends_escape Escape t
  escape_first lone = first_escape (is ++ t) (stops_run opens_more is_intermediate intermediate_opens_none is t i lone) ∙ ap (ended ends_escape Escape) (skip_run is_intermediate is t i s)

  pub sequence_first : (c ps : List ℕ) → Spells 0x9B c → AllOf is_parameter ps → (is ≡ [] → Stops is_parameter t) → first (c ++ (ps ++ (is ++ t))) ≡ ended ends_sequence Sequence t
  sequence_first c ps o p lone =
      first_csi c (ps ++ (is ++ t)) o
      ∙ ap (λ (z : List ℕ). ended ends_sequence Sequence (skip is_intermediate z)) (skip_run is_parameter ps (is ++ t) p (stops_run is_parameter is_intermediate intermediate_no_parameter is t i lone))
      ∙ ap (ended ends_sequence Sequence) (skip_run is_intermediate is t i s)

-- ST in either form, for what answers a string wherever ST begins
found : (F : List ℕ → Kind × List ℕ) → ((b : ℕ) (bs : List ℕ) → begins 0x9C (b ∷ bs) ≡ true → F (b ∷ bs) ≡ (String, behind b bs)) → (st r : List ℕ) → Spells 0x9C st → F (st ++ r) ≡ (String, r)
found F h st r (inl e) = ap (λ (z : List ℕ). F (z ++ r)) e ∙ h 0x9C r (control_one 0x9C (0x9C ∷ r) 0x9C r refl refl).0
found F h st r (inr e) = ap (λ (z : List ℕ). F (z ++ r)) e ∙ h 0x1B (0x5C ∷ r) refl

-- a command string's end, its break, and nothing more
pub closed_whole : (st r : List ℕ) → Spells 0x9C st → closed (st ++ r) ≡ (String, r)
unfolding closed
closed_whole = found closed (λ b bs h. cond-true (begins 0x9C (b ∷ bs)) _ _ h)

pub closed_broken : (b : ℕ) (bs : List ℕ) → begins 0x9C (b ∷ bs) ≡ false → (b ≡ 0x1B → 0 < length bs) → closed (b ∷ bs) ≡ (Broken, b ∷ bs)
unfolding closed
closed_broken b [] h more = cond-false (begins 0x9C (b ∷ [])) _ _ h ∙ cond-false (eqb b 0x1B) _ _ (ne_eqb b 0x1B (λ e. not-suc-le-zero (more e)))
closed_broken b (c ∷ bs) h more = cond-false (begins 0x9C (b ∷ c ∷ bs)) _ _ h

pub closed_rest : closed [] ≡ (Rest, [])
unfolding closed
closed_rest = refl

pub closed_esc : closed (0x1B ∷ []) ≡ (Rest, [])
unfolding closed
closed_esc = refl

-- a control in either form stops a class that has neither of its first bytes
pub control_stops : (k : ℕ) (P : ℕ → Bool) → P k ≡ false → P 0x1B ≡ false → (c r : List ℕ) → Spells k c → Stops P (c ++ r)
control_stops k P one two c r (inl e) = subst (λ (z : List ℕ). Stops P (z ++ r)) (sym e) one
control_stops k P one two c r (inr e) = subst (λ (z : List ℕ). Stops P (z ++ r)) (sym e) two

-- a command string, from the bytes behind its body
pub string_first : (k : ℕ) (c body t : List ℕ) → is_opener k ≡ true → Spells k c → AllOf is_body body → Stops is_body t → first (c ++ (body ++ t)) ≡ closed t
string_first k c body t o s a h = first_string k c (body ++ t) o s ∙ ap closed (skip_run is_body body t a h)

-- with what follows, an ESC at the end of an SOS string's body makes neither ST nor SOS
abbrev pub Apart : List ℕ → Type 0
Apart t = Stops (λ c. eqb c 0x5C) t × Stops (λ c. eqb c 0x58) t

begins_longer : (k b : ℕ) (x t : List ℕ) → begins k (b ∷ x) ≡ false → Stops (λ c. eqb c (k - 64)) t → begins k ((b ∷ x) ++ t) ≡ false
begins_longer k b [] [] h s = h
begins_longer k b [] (c ∷ t) h s = or_from (eqb b k) _ h (and_right (eqb b 0x1B) _ s)
begins_longer k b (c ∷ x) t h s = h

scanned_body : (body t : List ℕ) → Free body → Apart t → scanned (body ++ t) ≡ scanned t
unfolding scanned
scanned_body [] t f a = refl
scanned_body (b ∷ x) t f a =
    cond-false (begins 0x9C ((b ∷ x) ++ t)) _ _ (begins_longer 0x9C b x t f.0 a.0)
    ∙ cond-false (begins 0x98 ((b ∷ x) ++ t)) _ _ (begins_longer 0x98 b x t f.1 a.1)
    ∙ scanned_body x t f.2 a

pub scanned_whole : (st r : List ℕ) → Spells 0x9C st → scanned (st ++ r) ≡ (String, r)
unfolding scanned
scanned_whole = found scanned (λ b bs h. cond-true (begins 0x9C (b ∷ bs)) _ _ h)

pub scanned_rest : scanned [] ≡ (Rest, [])
unfolding scanned
scanned_rest = refl

-- SOS is not ST, and with its first byte an ESC before it makes neither
pub sos_apart : (r : List ℕ) → begins 0x98 r ≡ true → (begins 0x9C r ≡ false) × Apart r
sos_apart [] h = absurd (both_ways false refl h)
sos_apart (b ∷ []) h = (grind (arith, nat_tests), (grind (arith, nat_tests), grind (arith, nat_tests)))
sos_apart (b ∷ c ∷ bs) h = (grind (arith, nat_tests), (grind (arith, nat_tests), grind (arith, nat_tests)))

pub scanned_broken : (r : List ℕ) → begins 0x98 r ≡ true → scanned r ≡ (Broken, r)
unfolding scanned
scanned_broken [] h = absurd (both_ways false refl h)
scanned_broken (b ∷ bs) h = cond-false (begins 0x9C (b ∷ bs)) _ _ (sos_apart (b ∷ bs) h).0 ∙ cond-true (begins 0x98 (b ∷ bs)) _ _ h

pub sos_first : (c body t : List ℕ) → Spells 0x98 c → Free body → Apart t → first (c ++ (body ++ t)) ≡ scanned t
sos_first c body t s f a = first_sos c (body ++ t) s ∙ scanned_body body t f a

-- a text and a control are told
pub text_first : (x r : List ℕ) → 0 < length x → AllOf is_graphic x → Stops is_graphic r → first (x ++ r) ≡ (Text, r)
unfolding first
text_first [] r h a s = absurd (not-suc-le-zero h)
text_first (b ∷ x) r h a s = cond-true (is_graphic b) _ _ a.0 ∙ ap (λ (z : List ℕ). (Text, z)) (skip_run is_graphic x r a.1 s)

pub control_first : (b : ℕ) (r : List ℕ) → is_lone b ≡ true → first (b ∷ r) ≡ (Control, r)
unfolding first
control_first b r h =
    let g : is_graphic b ≡ false = grind (arith, nat_tests) in
    cond-false (is_graphic b) _ _ g ∙ cond-true (is_lone b) _ _ h
