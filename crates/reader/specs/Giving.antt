-- What the iterator over items gives.
use Rattle.std.specs.Prelude.{◌≡◌, ℕ, ◌-◌, length, MatchOption, Option}
use Rattle.reader.specs.declared.item.Item.{Item}
use Rattle.reader.specs.declared.item.Items.{Items}
use Rattle.reader.specs.Walks.{Ended, Handed}
use Rattle.reader.specs.Performs.{ItemsPerform}

-- a call leaves the bytes as they are, and hands out an item or is at their end; and an item performs what its grammar says
abbrev pub GivesItem : Items → Option Item → Items → Type 0
GivesItem s r t = (t.bytes.now ≡ s.bytes.now) × MatchOption r (Ended s.bytes.now s.place t.place) (λ i. Handed s.bytes.now s.place t.place i) × ItemsPerform

-- as no item is empty, no more items are left than bytes
abbrev pub bytes_left : Items → ℕ
bytes_left s = length s.bytes.now - s.place
