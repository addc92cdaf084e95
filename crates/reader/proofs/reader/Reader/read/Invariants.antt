use Rattle.std.proofs.Common.{◌≡◌, ◌≤◌, length, take}
use Rattle.reader.specs.Steps.{standing_after, performed}
use Rattle.reader.specs.Meaning.{standing_of}
use Rattle.reader.proofs.reader.Reader.read.Given as goal

abbrev pub invariant-loop-byte : goal.invariant-loop-byte
invariant-loop-byte l =
    (standing_of l.self.standing ≡ standing_after (standing_of l.initial.self.standing) (take l.byte-index l.bytes))
    × (l.count ≡ length (performed (standing_of l.initial.self.standing) (take l.byte-index l.bytes)))
    × (l.count ≤ l.byte-index)
