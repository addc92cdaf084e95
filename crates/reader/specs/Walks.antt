-- One step of the walk along bytes, item by item, and the parts of it.
use Rattle.std.specs.Prelude.{◌≡◌, ℕ, ◌+◌, ◌<◌, Bool, true, cond, List, [], ◌∷◌, ◌++◌, length, drop}
use Rattle.reader.specs.declared.item.Item.{Item}
use Rattle.reader.specs.declared.item.Kind.{Kind}
use Rattle.reader.specs.declared.item.Kind.TheVariants.{Broken, Rest}
use Rattle.reader.specs.Bytes.{is_opener}
use Rattle.reader.specs.Items.{Form, Spells, is_beginning}

-- the bytes of an item
abbrev pub spelling : Item → List ℕ
spelling i = i.bytes.now

-- the walk is at the end of the bytes, and stays there
pub record Ended (bs : List ℕ) (from to : ℕ) : Type 0 where
  pub ends : from ≡ length bs
  pub stays : to ≡ from

-- an item is handed out, and the walk goes on behind it
pub record Handed (bs : List ℕ) (from to : ℕ) (i : Item) : Type 0 where
  pub place : i.place ≡ from
  pub part : spelling i ++ drop to bs ≡ drop from bs
  pub on : to ≡ from + length (spelling i)
  pub some : 0 < length (spelling i)
  pub form : Form i.kind (spelling i) (drop to bs)

-- after an opening, an item goes on by x, and t is left of l
abbrev pub Leaves : (List ℕ → Type 0) → Kind → List ℕ → List ℕ → Type 0
Leaves Opening k l t = (x : List ℕ) × (x ++ t ≡ l) × ((c : List ℕ) → Opening c → Form k (c ++ x) t)

-- an item of the kind from its final byte on, and what is left behind it
abbrev pub ended : (ℕ → Bool) → Kind → List ℕ → Kind × List ℕ
ended P k [] = (Rest, [])
ended P k (b ∷ bs) = cond (P b) (k, bs) (Broken, b ∷ bs)

-- ESC and this byte begin a sequence or a string
abbrev pub opens_more : ℕ → Bool
opens_more b = is_beginning (b + 64)

-- what opens a command string
abbrev pub Opens : List ℕ → Type 0
Opens c = (k : ℕ) × (is_opener k ≡ true) × Spells k c

-- l begins with an item of the kind, and t follows it
abbrev pub Leads : Kind → List ℕ → List ℕ → Type 0
Leads k l t = (x : List ℕ) × (x ++ t ≡ l) × Form k x t
