-- The nine cases, by computation.
use Rattle.std.proofs.Common.{refl}
use Rattle.reader.specs.Steps.{at_rest}
use Rattle.reader.specs.Requests.{until_request}
use Rattle.page.specs.Effects.{stepped, run}
use Rattle.picture.specs.Writing.{digits, written, all_written}
use Rattle.picture.specs.Pictures.{cells_from, stops_from, drawing}
use Rattle.turns.specs.Turns.{turn}
use Rattle.turns.specs.Cases.{CasesHold}

pub cases_hold : CasesHold
unfolding at_rest until_request stepped run digits written all_written cells_from stops_from drawing turn
cases_hold =
    (record { delivers = refl; replies = refl; pictures = refl }, (record { delivers = refl; replies = refl; pictures = refl }, (record { delivers = refl; replies = refl; pictures = refl }, (record { delivers = refl; replies = refl; pictures = refl }, (record { delivers = refl; replies = refl; pictures = refl }, (record { delivers = refl; replies = refl; pictures = refl }, (record { delivers = refl; replies = refl; pictures = refl }, (record { delivers = refl; replies = refl; pictures = refl }, (record { delivers = refl; replies = refl; pictures = refl }, tt)))))))))
