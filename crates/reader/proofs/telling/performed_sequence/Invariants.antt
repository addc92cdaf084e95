use Rattle.std.proofs.Common.{◌≡◌, take}
use Rattle.std.specs.Option.{option_map, option_to_list}
use Rattle.reader.specs.Steps.{rest, standing_after, performed}
use Rattle.reader.specs.Meaning.{standing_of, function_of}
use Rattle.reader.proofs.telling.performed_sequence.Given as goal

-- what is told is all that the bytes so far perform
abbrev pub invariant-loop-byte : goal.invariant-loop-byte
invariant-loop-byte l =
    (standing_of l.reader.standing ≡ standing_after rest (take l.byte-index l.bytes))
    × (option_to_list (option_map function_of l.told) ≡ performed rest (take l.byte-index l.bytes))
