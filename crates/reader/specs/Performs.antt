-- What an item performs, by its grammar, and what the items of bytes perform.
use Rattle.std.specs.Prelude.{◌≡◌, ℕ, ◌+◌, Bool, true, false, cond, ◌||◌, ◌↔◌, List, [], ◌∷◌, ◌++◌, map, length, ◌==◌}
use Rattle.reader.specs.declared.item.Kind.{Kind}
use Rattle.reader.specs.declared.item.Kind.TheVariants.{Text, Control, Escape, Sequence, String, Broken, Rest}
use Rattle.reader.specs.Bytes.{among}
use Rattle.reader.specs.Functions.{Function, graphic, control, reset}
use Rattle.reader.specs.Steps.{rest, standing_after, performed}
use Rattle.reader.specs.Numbers.{numbers, sequence_performs}
use Rattle.reader.specs.Items.{Form}

-- a control performs itself, but DEL and ST nothing
abbrev pub control_performs : ℕ → List Function
control_performs b = cond (b == 0x7F || b == 0x9C) [] (control b ∷ [])

-- an escape performs the C1 control that it stands for, or the reset, or nothing
abbrev pub escape_performs : List ℕ → ℕ → List Function
escape_performs [] f = cond (among 0x40 0x5F f) (control_performs (f + 64)) (cond (f == 0x63) (reset ∷ []) [])
escape_performs (i ∷ is) f = []

-- a text performs each of its characters; strings and what has no end perform nothing
abbrev pub item_performs : (k : Kind) (x r : List ℕ) → Form k x r → List Function
item_performs Text x r f = map graphic x
item_performs Control x r f = control_performs f.0
item_performs Escape x r f = escape_performs f.between f.final
item_performs Sequence x r f = sequence_performs (numbers f.parameters) f.between f.final
item_performs String x r f = []
item_performs Broken x r f = []
item_performs Rest x r f = []

-- an item by its kind, place and bytes
pub record Part : Type 0 where
  pub kind : Kind
  pub place : ℕ
  pub bytes : List ℕ

-- the parts, the first at the place, are the items of the bytes: they are all of the bytes in order, each of its kind's grammar
abbrev pub Cut : ℕ → List Part → List ℕ → Type 0
Cut at [] bs = bs ≡ []
Cut at (p ∷ ps) bs = (p.place ≡ at) × (r : List ℕ) × (bs ≡ p.bytes ++ r) × Form p.kind p.bytes r × Cut (at + length p.bytes) ps r

abbrev pub cut_performs : (at : ℕ) (ps : List Part) (bs : List ℕ) → Cut at ps bs → List Function
cut_performs at [] bs c = []
cut_performs at (p ∷ ps) bs (place, r, whole, form, others) = item_performs p.kind p.bytes r form ++ cut_performs (at + length p.bytes) ps r others

-- whether the last item is unfinished
abbrev pub is_rest : Kind → Bool
is_rest Text = false
is_rest Control = false
is_rest Escape = false
is_rest Sequence = false
is_rest String = false
is_rest Broken = false
is_rest Rest = true

abbrev pub unfinished : List Part → Bool
unfinished [] = false
unfinished (p ∷ []) = is_rest p.kind
unfinished (p ∷ q ∷ ps) = unfinished (q ∷ ps)

-- what an item performs by its grammar is what the single steps perform on it
abbrev pub ItemsPerform : Type 0
ItemsPerform = (k : Kind) (x r : List ℕ) (f : Form k x r) → performed rest x ≡ item_performs k x r f

-- what the items of bytes perform is what the single steps perform on all the bytes
abbrev pub CutsPerform : Type 0
CutsPerform = (at : ℕ) (ps : List Part) (bs : List ℕ) (c : Cut at ps bs) → performed rest bs ≡ cut_performs at ps bs c

-- bytes are cut into items in one way only
abbrev pub CutIsOnly : Type 0
CutIsOnly = (at : ℕ) (ps qs : List Part) (bs : List ℕ) → Cut at ps bs → Cut at qs bs → ps ≡ qs

-- a last item is unfinished exactly where the reader does not end at rest
abbrev pub RestIsUnfinished : Type 0
RestIsUnfinished = (at : ℕ) (ps : List Part) (bs : List ℕ) → Cut at ps bs → (unfinished ps ≡ false) ↔ (standing_after rest bs ≡ rest)
