use Rattle.std.proofs.Common.{map, Some, sym, ap}
use Rattle.std.proofs.lemmas.List.{append-nil}
use Rattle.std.specs.Option.{option_to_list}
use Rattle.picture.specs.Writing.{more_bytes}
use Rattle.picture.proofs.Tapes.{lays_none, then, being}
use Rattle.picture.proofs.renditions.put_need.Goals as goal

pub returns-in-Some : goal.returns-in-Some
returns-in-Some c = record { lays = being (then c.put.ensures (being c.put_number.ensures (sym (append-nil _)))) (sym (ap (λ n. more_bytes (map Some (option_to_list n))) c.in-Some.is)) }

pub returns-in_default : goal.returns-in_default
returns-in_default c = record { lays = being lays_none (sym (ap (λ n. more_bytes (map Some (option_to_list n))) c.in_default.is)) }
