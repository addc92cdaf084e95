-- The table of bytes, by computation.
use Rattle.std.proofs.Common.{true, false, Some, None, refl}
use Rattle.reader.specs.Steps.{at_rest, rest, escape, in_parameters, in_intermediates, in_string, in_sos}
use Rattle.reader.specs.Table.{BytesByStanding}

pub bytes_by_standing : BytesByStanding
unfolding at_rest
bytes_by_standing rest = refl
bytes_by_standing (escape false) = refl
bytes_by_standing (escape true) = refl
bytes_by_standing (in_parameters (Some ps)) = refl
bytes_by_standing (in_parameters None) = refl
bytes_by_standing (in_intermediates (Some ps)) = refl
bytes_by_standing (in_intermediates None) = refl
bytes_by_standing in_string = refl
bytes_by_standing (in_sos false) = refl
bytes_by_standing (in_sos true) = refl
