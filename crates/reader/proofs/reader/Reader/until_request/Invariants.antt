use Rattle.std.proofs.Common.{◌≡◌, ◌+◌, drop}
use Rattle.reader.specs.Requests.{until_request}
use Rattle.reader.specs.Meaning.{standing_of}
use Rattle.reader.proofs.reader.Reader.until_request.Given as goal

-- what is left stops where all of it does
abbrev pub invariant-loop-i : goal.invariant-loop-i
invariant-loop-i l = until_request (standing_of l.self.standing) l.bytes ≡ l.i + until_request (standing_of l.reader.standing) (drop l.i l.bytes)
