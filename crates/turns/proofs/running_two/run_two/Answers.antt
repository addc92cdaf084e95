use Rattle.std.proofs.lemmas.Result.{MatchResult-from_err}
use Rattle.page.specs.Plain.{on_panel}
use Rattle.turns.proofs.Ran.{none_ran, all_ran}
use Rattle.turns.proofs.Agreeing.{agree}
use Rattle.turns.proofs.SoFar.{same_bytes_same_page}
use Rattle.turns.proofs.running_two.run_two.Goals as goal

pub returns-in_err-first : goal.returns-in_err-first
returns-in_err-first g c = record { ran = MatchResult-from_err c.from_residual.result _ _ c.from_residual.ensures.0 (λ e. (c.in_err-first.ensures.ran, none_ran _ _)); same = same_bytes_same_page }

pub returns-in_err-second : goal.returns-in_err-second
returns-in_err-second g c = record { ran = MatchResult-from_err c.from_residual-in_err-second.result _ _ c.from_residual-in_err-second.ensures.0 (λ e. (all_ran c.in_ok-first.ensures.ran, c.in_err-second.ensures.ran)); same = same_bytes_same_page }

pub returns : goal.returns
returns g c =
    let shows = g.P.Panel.shows in
    let seen = g.Q.Panel.shows in
    let one = c.in_ok-first.ensures.ran in
    let other = c.in_ok-second.ensures.ran in
    record {
      ran = (one, other, agree (on_panel c.args.one.now (shows c.args.shown.now)) (on_panel c.args.other.now (seen c.args.over.now)) _ _ _ _ one.leaves other.leaves);
      same = same_bytes_same_page;
    }
