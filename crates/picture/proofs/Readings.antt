-- What the writer writes is one item, and performs what was asked for.
use Rattle.std.proofs.Common.{◌≡◌, ℕ, ◌+◌, ◌-◌, ◌<◌, Bool, true, false, leb, List, [], ◌∷◌, ◌++◌, map, length, Some, None, sym, refl, ap, ◌∙◌, inl, inr, ⊎_elim, arith}
use Rattle.std.specs.List.{list_all}
use Rattle.std.proofs.lemmas.Bool.{true≢false, and_parts, leb-true, cond-true, cond-false, cases_Bool}
use Rattle.std.proofs.lemmas.Bool.Decides.{nat_tests}
use Rattle.reader.specs.declared.item.Kind.{Kind}
use Rattle.reader.specs.declared.item.Kind.TheVariants.{Text, Control, Escape, Sequence, String}
use Rattle.reader.specs.Bytes.{among, is_graphic, is_opener, is_body, ends_sequence, ends_escape, AllOf, Stops}
use Rattle.reader.specs.Functions.{Parameter, Function, graphic, control, sequence}
use Rattle.reader.specs.Steps.{Standing, rest, standing_after, performed}
use Rattle.reader.specs.Numbers.{numbers, sequence_performs}
use Rattle.reader.specs.Performs.{control_performs, escape_performs, item_performs, is_rest}
use Rattle.reader.specs.Items.{Form, Escaped, Sequenced, Enclosed, is_lone, is_beginning}
use Rattle.reader.proofs.Parts.{standing_parts, performed_parts}
use Rattle.reader.proofs.Endings.{behind_item}
use Rattle.reader.proofs.Grammar.{items_perform}
use Rattle.picture.specs.Writing.{space_bytes, written}
use Rattle.picture.specs.Writable.{Small, Told, Fits}
use Rattle.picture.specs.Writes.{is_text, is_control, is_small, is_told, is_sequence, is_string, string_bytes}
use Rattle.picture.specs.Reads.{Performs, ReadsInARow, TextReads, ControlReads, SequenceReads, StringReads}
use Rattle.picture.proofs.Back.{numbers_back, spaced, sequence_form}

pub reads_in_a_row : ReadsInARow
reads_in_a_row xs ys fs gs p q = record {
  functions = performed_parts rest xs ys ∙ (λ i. p.functions i ++ performed (p.rests i) ys) ∙ ap (λ (l : List Function). fs ++ l) q.functions;
  rests = standing_parts rest xs ys ∙ ap (λ (s : Standing). standing_after s ys) p.rests ∙ q.rests;
}

-- an item performs what its grammar says
by_form : (k : Kind) (x : List ℕ) (f : Form k x []) (fs : List Function) → is_rest k ≡ false → item_performs k x [] f ≡ fs → Performs x fs
by_form k x f fs whole e = record { functions = items_perform k x [] f ∙ e; rests = (behind_item k x [] f whole).leads }

all_of : (P : ℕ → Bool) (bs : List ℕ) → list_all P bs ≡ true → AllOf P bs
all_of P [] h = tt
all_of P (b ∷ bs) h = let p = and_parts (P b) (list_all P bs) h in (p.0, all_of P bs p.1)

text_form : (bs after : List ℕ) → is_text bs ≡ true → 0 < length bs → Stops is_graphic after → Form Text bs after
text_form bs after h some stops = (some, all_of is_graphic bs h, stops)

text_performs : (bs : List ℕ) → is_text bs ≡ true → Performs bs (map graphic bs)
text_performs [] h = record { functions = refl; rests = refl }
text_performs (b ∷ bs) h = by_form Text (b ∷ bs) (text_form (b ∷ bs) [] h (omega arith) tt) _ refl refl

pub text_reads : TextReads
text_reads bs h = (text_performs bs h, λ after some stops. text_form bs after h some stops)

-- a C0 control is itself
lone : (b : ℕ) → is_control b ≡ true → is_lone b ≡ true
lone b h = grind (arith, nat_tests)

control_form : (b : ℕ) (after : List ℕ) → is_control b ≡ true → leb 0x80 b ≡ false → (i : Form Control (written (control b)) after) × (i.0 ≡ b)
unfolding written
control_form b after h e = ((b, cond-false (leb 0x80 b) _ _ e, lone b h), refl)

-- a C1 control is an escape
back : (b : ℕ) → leb 0x80 b ≡ true → b - 64 + 64 ≡ b
back b e = let h = leb-true 0x80 b e in omega arith

beginning : (b : ℕ) → is_control b ≡ true → is_beginning b ≡ false
beginning b h = grind (arith, nat_tests)

final_ends : (b : ℕ) → is_control b ≡ true → leb 0x80 b ≡ true → ends_escape (b - 64) ≡ true
final_ends b h e = grind (arith, nat_tests)

final_stands : (b : ℕ) → is_control b ≡ true → leb 0x80 b ≡ true → among 0x40 0x5F (b - 64) ≡ true
final_stands b h e = grind (arith, nat_tests)

escape_form : (b : ℕ) → is_control b ≡ true → leb 0x80 b ≡ true → (i : Escaped (written (control b))) × (i.between ≡ []) × (i.final ≡ b - 64)
unfolding written
escape_form b h e = (
  record {
    between = [];
    final = b - 64;
    spelled = cond-true (leb 0x80 b) _ _ e;
    intermediate = tt;
    ends = final_ends b h e;
    alone = λ z. ap is_beginning (back b e) ∙ beginning b h;
  },
  refl,
  refl,
)

escape_is : (b : ℕ) → is_control b ≡ true → leb 0x80 b ≡ true → (is : List ℕ) (f : ℕ) → is ≡ [] → f ≡ b - 64 → escape_performs is f ≡ control_performs b
escape_is b h e is f p q =
    (λ i. escape_performs (p i) (q i)) ∙ cond-true (among 0x40 0x5F (b - 64)) _ _ (final_stands b h e) ∙ ap control_performs (back b e)

control_performed : (b : ℕ) → is_control b ≡ true → Performs (written (control b)) (control_performs b)
control_performed b h =
    ⊎_elim
    (λ e. let i = escape_form b h e in by_form Escape _ i.0 _ refl (escape_is b h e _ _ i.1 i.2))
    (λ e. let i = control_form b [] h e in by_form Control _ i.0 _ refl (ap control_performs i.1))
    (cases_Bool (leb 0x80 b))

pub control_reads : ControlReads
control_reads b h = (control_performed b h, (λ after e. control_form b after h e), λ after e. escape_form b h e)

-- sequences
all_below : (ps : List Parameter) → list_all is_small ps ≡ true → Small ps
all_below [] h = tt
all_below (None ∷ ps) h = all_below ps h
all_below (Some n ∷ ps) h = let p = and_parts (leb n 9999) (list_all is_small ps) h in (leb-true n 9999 p.0, all_below ps p.1)

lone_told : (ps : List Parameter) → is_told ps ≡ true → Told ps
lone_told [] h = tt
lone_told (None ∷ []) h = absurd (true≢false (sym h))
lone_told (None ∷ q ∷ ps) h = tt
lone_told (Some n ∷ ps) h = tt

fits : (ps : List Parameter) (f : ℕ) → is_sequence ps f ≡ true → Fits ps × (ends_sequence f ≡ true)
fits ps f h =
    let p = and_parts (leb (length ps) 16) _ h in
    let q = and_parts (list_all is_small ps) _ p.1 in
    let r = and_parts (is_told ps) (ends_sequence f) q.1 in
    (record { small = all_below ps q.0; told = lone_told ps r.0; few = leb-true _ _ p.0 }, r.1)

record As (ps : List Parameter) (space : Bool) (f : ℕ) (x : List ℕ) : Type 0 where
  form : Sequenced x
  parameters : numbers form.parameters ≡ Some ps
  between : form.between ≡ space_bytes space
  final : form.final ≡ f

sequence_as : (ps : List Parameter) (space : Bool) (f : ℕ) → is_sequence ps f ≡ true → As ps space f (written (sequence ps space f))
unfolding written
sequence_as ps space f h =
    let q = fits ps f h in
    let n = numbers_back ps q.0 in
    record {
      form = sequence_form ps space f q.0 q.1;
      parameters = n.0;
      between = refl;
      final = refl;
    }

pub sequence_reads : SequenceReads
sequence_reads ps space f h =
    let a = sequence_as ps space f h in
    let e = (λ i. sequence_performs (a.parameters i) (a.between i) (a.final i)) ∙ spaced ps space f in
    (by_form Sequence _ a.form _ refl e, λ after. (a.form, a.parameters, a.between, a.final))

-- strings
string_form : (k : ℕ) (body : List ℕ) → is_string k body ≡ true → (i : Enclosed is_opener (AllOf is_body) (string_bytes k body)) × (i.by ≡ k) × (i.body ≡ body)
string_form k body h =
    let p = and_parts (is_opener k) (list_all is_body body) h in (
      record {
        by = k;
        opener = 0x1B ∷ (k - 64) ∷ [];
        body = body;
        st = 0x1B ∷ 0x5C ∷ [];
        spelled = refl;
        known = p.0;
        opens = inr refl;
        within = all_of is_body body p.1;
        ends = inr refl;
      },
      refl,
      refl,
    )

pub string_reads : StringReads
string_reads k body h = let i = string_form k body h in (by_form String _ (inl i.0) _ refl refl, i)
