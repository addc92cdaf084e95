-- What items tell: the sequence that bytes perform, and the parts of a string.
use Rattle.std.proofs.Common.{◌≡◌, ℕ, ◌+◌, ◌-◌, ◌<◌, min, true, false, cond, eqb, List, [], ◌∷◌, ◌++◌, suc, drop-cons, length, get_or, take, drop, Some, None, Option, sym, refl, ap, ◌∙◌, subst, inl, inr, append_assoc, append-nil, arith, take-append-drop, MatchOption}
use Rattle.std.proofs.lemmas.List.{append_cancel_right}
use Rattle.std.proofs.lemmas.Bool.{false≢true, cond-false}
use Rattle.std.proofs.lemmas.Bool.Decides.{nat_tests}
use Rattle.std.proofs.Math.Seq.{drop-length}
use Rattle.std.specs.Option.{is_some, option_map, option_to_list}
use Rattle.reader.specs.declared.function.Function as code
use Rattle.reader.specs.declared.function.Completed.{Completed}
use Rattle.reader.specs.declared.item.ControlString.{ControlString}
use Rattle.reader.specs.declared.item.Kind.{Kind}
use Rattle.reader.specs.declared.item.Kind.TheVariants.{Text, Control, Escape, Sequence, String, Broken, Rest}
use Rattle.reader.specs.Functions.{Function, Parameters, graphic, control, reset, sequence}
use Rattle.reader.specs.Steps.{Standing, step, rest, standing_after, performed}
use Rattle.reader.specs.Numbers.{numbers, sequence_performs}
use Rattle.reader.specs.Meaning.{function_of, functions_of}
use Rattle.reader.specs.Telling.{only_sequence, tells_sequence, SequencesTell, opens_string, Opened, Closed, StringParts, TellsString, StringIsOnly}
use Rattle.reader.proofs.Parts.{performed_parts, performed_more}
use Rattle.reader.proofs.Grammar.{items_perform}

-- a sequence is all that a sequence item performs
only_performs : (n : Parameters) (is : List ℕ) (f : ℕ) → only_sequence (sequence_performs n is f) ≡ sequence_performs n is f
only_performs None is f = refl
only_performs (Some ps) [] f = refl
only_performs (Some ps) (i ∷ []) f =
    elim (eqb i 0x20) as (λ t. only_sequence (cond t (sequence ps true f ∷ []) []) ≡ cond t (sequence ps true f ∷ []) []) [ true ↦ refl | false ↦ refl ]
only_performs (Some ps) (i ∷ j ∷ is) f = refl

pub sequences_tell : SequencesTell
sequences_tell x f = ap only_sequence (items_perform Sequence x [] f) ∙ only_performs (numbers f.parameters) f.between f.final

-- of two functions or more none is told
two_tell_none : (f g : Function) (fs : List Function) → [] ≡ only_sequence (f ∷ g ∷ fs)
two_tell_none (graphic b) g fs = refl
two_tell_none (control b) g fs = refl
two_tell_none reset g fs = refl
two_tell_none (sequence ps space e) g fs = refl

pub some_is : {A : Type 0} (o : Option A) → is_some o ≡ true → (a : A) × (o ≡ Some a)
some_is None h = absurd (false≢true h)
some_is (Some a) h = (a, refl)

-- one turn of a loop that keeps what the bytes so far perform, while that is at most one function
module _ (t : Standing) (o : Option code.Function) (g : Completed) (i : ℕ) (xs : List ℕ) (on : i < length xs) (at : t ≡ standing_after rest (take i xs)) (sofar : option_to_list (option_map function_of o) ≡ performed rest (take i xs)) (completes : functions_of g ≡ (step t (get_or xs i 0)).performs) where
  more : performed rest (take (i + 1) xs) ≡ option_to_list (option_map function_of o) ++ functions_of g
  more =
      performed_more rest xs i on
      ∙ (λ j. sym sofar j ++ (step (sym at j) (get_or xs i 0)).performs)
      ∙ ap (λ (l : List Function). option_to_list (option_map function_of o) ++ l) (sym completes)

  pub told_same : (q : Option code.Function) → g.function ≡ None → q ≡ o → option_to_list (option_map function_of q) ≡ performed rest (take (i + 1) xs)
  told_same q n e =
      ap (λ z. option_to_list (option_map function_of z)) e
      ∙ sym (append-nil _)
      ∙ ap (λ z. option_to_list (option_map function_of o) ++ option_to_list (option_map function_of z)) (sym n)
      ∙ sym more

  pub told_first : (q : Option code.Function) (f : code.Function) → o ≡ None → g.function ≡ Some f → q ≡ Some f → option_to_list (option_map function_of q) ≡ performed rest (take (i + 1) xs)
  told_first q f n e told =
      ap (λ z. option_to_list (option_map function_of z)) (told ∙ sym e)
      ∙ ap (λ z. option_to_list (option_map function_of z) ++ functions_of g) (sym n)
      ∙ sym more

  -- a second function leaves none to tell
  pub told_none : (f h : code.Function) → o ≡ Some f → g.function ≡ Some h → [] ≡ only_sequence (performed rest xs)
  told_none f h e k =
      let two : performed rest (take (i + 1) xs) ≡ function_of f ∷ function_of h ∷ [] = more ∙ (λ j. option_to_list (option_map function_of (e j)) ++ option_to_list (option_map function_of (k j))) in
      let after = performed (standing_after rest (take (i + 1) xs)) (drop (i + 1) xs) in
      two_tell_none (function_of f) (function_of h) after
      ∙ ap only_sequence (sym (ap (performed rest) (sym (take-append-drop (i + 1) xs)) ∙ performed_parts rest (take (i + 1) xs) (drop (i + 1) xs) ∙ ap (λ (l : List Function). l ++ after) two))

-- the last byte
last_of : ℕ → List ℕ → ℕ
last_of d [] = d
last_of d (b ∷ bs) = last_of b bs

last_is : (d : ℕ) (xs : List ℕ) (b : ℕ) → last_of d (xs ++ b ∷ []) ≡ b
unfolding last_of
last_is d [] b = refl
last_is d (x ∷ xs) b = last_is x xs b

-- bytes end with one byte, and one front stands before it
pub same_last : (xs ys : List ℕ) (a b : ℕ) → xs ++ a ∷ [] ≡ ys ++ b ∷ [] → a ≡ b
same_last xs ys a b e = sym (last_is 0 xs a) ∙ ap (last_of 0) e ∙ last_is 0 ys b

same_front : (xs ys : List ℕ) (a b : ℕ) → xs ++ a ∷ [] ≡ ys ++ b ∷ [] → xs ≡ ys
same_front xs ys a b e = append_cancel_right xs ys (a ∷ []) (e ∙ ap (λ (z : ℕ). ys ++ z ∷ []) (sym (same_last xs ys a b e)))

-- ST stands at the end, in one form or the other
pub closed_one : (l : List ℕ) → 0 < length l → get_or l (length l - 1) 0 ≡ 0x9C → Closed l (take (length l - 1) l)
closed_one l h e =
    let last : drop (length l - 1) l ≡ 0x9C ∷ [] = drop-cons l (length l - 1) 0 (omega arith) ∙ (λ i. e i ∷ drop-past i) in
    (0x9C ∷ [], inl refl, sym (take-append-drop (length l - 1) l) ∙ ap (λ (z : List ℕ). take (length l - 1) l ++ z) last)
  where
    drop-past : drop (suc (length l - 1)) l ≡ []
    drop-past = let all : suc (length l - 1) ≡ length l = omega (arith, h) in rw all (drop-length l)

-- the form of ST that ends bytes
data Ending (l body : List ℕ) : Type 0 where
  one : l ≡ body ++ 0x9C ∷ [] → Ending l body
  two : l ≡ (body ++ 0x1B ∷ []) ++ 0x5C ∷ [] → Ending l body

ending : (l body : List ℕ) → Closed l body → Ending l body
ending l body (st, inl s, e) = one (e ∙ ap (λ (z : List ℕ). body ++ z) s)
ending l body (st, inr s, e) = two (e ∙ ap (λ (z : List ℕ). body ++ z) s ∙ sym (append_assoc body (0x1B ∷ []) (0x5C ∷ [])))

closed_is_only : (l a b : List ℕ) → Closed l a → Closed l b → a ≡ b
closed_is_only l a b c d = by (ending l a c) (ending l b d)
  where
    by : Ending l a → Ending l b → a ≡ b
    by (one e) (one f) = same_front a b 0x9C 0x9C (sym e ∙ f)
    by (one e) (two f) = absurd (omega (arith, same_last a (b ++ 0x1B ∷ []) 0x9C 0x5C (sym e ∙ f)))
    by (two e) (one f) = absurd (omega (arith, same_last (a ++ 0x1B ∷ []) b 0x5C 0x9C (sym e ∙ f)))
    by (two e) (two f) = same_front a b 0x1B 0x1B (same_front (a ++ 0x1B ∷ []) (b ++ 0x1B ∷ []) 0x5C 0x5C (sym e ∙ f))

-- the opener and what follows it are told from the bytes
opened_by : List ℕ → ℕ × List ℕ
opened_by [] = (0, [])
opened_by (b ∷ []) = (b, [])
opened_by (b ∷ c ∷ bs) = cond (eqb b 0x1B) (c + 64, bs) (b, c ∷ bs)

no_escape : (k : ℕ) → opens_string k ≡ true → eqb k 0x1B ≡ false
no_escape k h = grind (arith, nat_tests)

higher : (k : ℕ) → opens_string k ≡ true → (k - 64) + 64 ≡ k
higher k h = grind (arith, nat_tests)

opened_short : (k : ℕ) (l : List ℕ) → opens_string k ≡ true → opened_by (k ∷ l) ≡ (k, l)
unfolding opened_by
opened_short k [] h = refl
opened_short k (b ∷ bs) h = cond-false (eqb k 0x1B) _ _ (no_escape k h)

opened_long : (k : ℕ) (l : List ℕ) → opens_string k ≡ true → opened_by (0x1B ∷ (k - 64) ∷ l) ≡ (k, l)
unfolding opened_by
opened_long k l h = ap (λ (j : ℕ). (j, l)) (higher k h)

opened_is : (x : List ℕ) (k : ℕ) (l : List ℕ) → Opened x k l → opened_by x ≡ (k, l)
opened_is x k l (c, h, inl s, e) = ap opened_by (e ∙ ap (λ (z : List ℕ). z ++ l) s) ∙ opened_short k l h
opened_is x k l (c, h, inr s, e) = ap opened_by (e ∙ ap (λ (z : List ℕ). z ++ l) s) ∙ opened_long k l h

opened_is_only : (x : List ℕ) (j k : ℕ) (l m : List ℕ) → Opened x j l → Opened x k m → (j ≡ k) × (l ≡ m)
opened_is_only x j k l m o p =
    let same : ◌≡◌ {A = ℕ × List ℕ} (j, l) (k, m) = sym (opened_is x j l o) ∙ opened_is x k m p in
    (ap (λ (q : ℕ × List ℕ). q.0) same, ap (λ (q : ℕ × List ℕ). q.1) same)

pub string_is_only : StringIsOnly
string_is_only kind x j k a b (_, (l, o, c)) (_, (m, p, d)) =
    let same = opened_is_only x j k l m o p in
    (same.0, closed_is_only m a b (subst (λ (z : List ℕ). Closed z a) same.1 c) d)

-- no parts
pub unopened_parts : (x : List ℕ) → ((k : ℕ) (l : List ℕ) → Opened x k l → ⊥) → (k : ℕ) (body : List ℕ) → StringParts x k body → ⊥
unopened_parts x none k body (l, o, c) = none k l o

pub unclosed_parts : (x : List ℕ) (j : ℕ) (m : List ℕ) → Opened x j m → ((body : List ℕ) → Closed m body → ⊥) → (k : ℕ) (body : List ℕ) → StringParts x k body → ⊥
unclosed_parts x j m p none k body (l, o, c) = none body (subst (λ (z : List ℕ). Closed z body) (opened_is_only x k j l m o p).1 c)

-- an opener at the front, in one form or the other
pub opened_one : (x : List ℕ) (k : ℕ) (l : List ℕ) → k ∷ l ≡ x → opens_string k ≡ true → Opened x k l
opened_one x k l e h = (k ∷ [], h, inl refl, sym e)

pub opened_two : (x : List ℕ) (b k : ℕ) (l : List ℕ) → 0x1B ∷ b ∷ l ≡ x → k ≡ min (b + 64) 255 → opens_string k ≡ true → Opened x k l
opened_two x b k l e m h =
    let lower : b ≡ k - 64 = grind (arith, nat_tests) in
    (0x1B ∷ (k - 64) ∷ [], h, inr refl, sym e ∙ ap (λ (z : ℕ). 0x1B ∷ z ∷ l) lower)

-- an item of that kind tells what its bytes are, and one of another kind nothing
pub tells_by_kind : (o : Option ControlString) (kind : Kind) (x : List ℕ) → kind ≡ String → MatchOption o ((k : ℕ) (body : List ℕ) → StringParts x k body → ⊥) (λ s. StringParts x s.opener s.body.now) → MatchOption o ((k : ℕ) (body : List ℕ) → TellsString kind x k body → ⊥) (λ s. TellsString kind x s.opener s.body.now)
tells_by_kind None kind x e h = λ k body t. h k body t.1
tells_by_kind (Some s) kind x e h = (e, h)

pub other_kind_tells_none : (kind : Kind) (x : List ℕ) → (kind ≡ Sequence → ⊥) → [] ≡ tells_sequence kind x
other_kind_tells_none Text x h = refl
other_kind_tells_none Control x h = refl
other_kind_tells_none Escape x h = refl
other_kind_tells_none Sequence x h = absurd (h refl)
other_kind_tells_none String x h = refl
other_kind_tells_none Broken x h = refl
other_kind_tells_none Rest x h = refl
