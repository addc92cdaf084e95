-- Bytes laid one after the other into a buffer.
use Rattle.std.specs.Prelude.{◌≡◌, ℕ, ◌+◌, ◌-◌, ◌^◌, min, List, [], ◌∷◌, ◌++◌, length, drop, slice_set}
use Rattle.picture.specs.declared.out.Out.{Out}

-- the loan (by its ghost name), what the buffer holds, and how many bytes have come
pub record Tape : Type 0 where
  pub loan : ℕ
  pub bytes : List ℕ
  pub at : ℕ

abbrev pub tape : Out → Tape
tape o = record { loan = o.bytes.ghost_name; bytes = o.bytes.now; at = o.at }

abbrev pub begun : ℕ → List ℕ → Tape
begun loan bytes = record { loan = loan; bytes = bytes; at = 0 }

-- one byte more: past the buffer's end it is only counted
abbrev pub next : Tape → ℕ → Tape
next t b = record { loan = t.loan; bytes = slice_set t.bytes t.at b; at = min (t.at + 1) (2 ^ 64 - 1) }

unfoldable pub laid : Tape → List ℕ → Tape
laid t [] = t
laid t (b ∷ bs) = laid (next t b) bs

-- from one tape, by these bytes, to the other
pub record Lays (t : Tape) (w : List ℕ) (u : Tape) : Type 0 where
  pub is : u ≡ laid t w

-- what is left to lay leads where all of it does
pub record Leads (u : Tape) (left : List ℕ) (t : Tape) (w : List ℕ) : Type 0 where
  pub is : laid u left ≡ laid t w

-- bytes at a buffer's front, and the rest as it was
abbrev pub over : List ℕ → List ℕ → List ℕ
over w b = w ++ drop (length w) b

-- a count of bytes, as far as a number of 64 bits holds it
abbrev pub needed : List ℕ → ℕ
needed w = min (length w) (2 ^ 64 - 1)
