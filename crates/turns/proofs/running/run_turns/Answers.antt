use Rattle.std.proofs.Common.{[], arith}
use Rattle.std.proofs.lemmas.Result.{MatchResult-from_err}
use Rattle.std.proofs.lemmas.List.{get_or_default}
use Rattle.page.specs.Plain.{on_panel}
use Rattle.turns.proofs.Showing.{runs_show_items}
use Rattle.turns.proofs.Touched.{never_foreign}
use Rattle.turns.proofs.Cased.{cases_hold}
use Rattle.turns.proofs.Ran.{none_ran, ran_none, some_ran, ran_more, ran_all}
use Rattle.turns.proofs.running.run_turns.Goals as goal

pub returns-in_err-answers : goal.returns-in_err-answers
returns-in_err-answers g c = record { ran = MatchResult-from_err c.from_residual.result _ _ c.from_residual.ensures.0 (λ e. none_ran _ _); items = runs_show_items; foreign = never_foreign; cases = cases_hold }

pub loop-turn-init : goal.loop-turn-init
loop-turn-init g c = let m = c.in_ok-answers.ensures in (ran_none _ [] _ _ m.items c.new-written.ensures.items, omega (arith, m.len), m.capacity)

pub returns-in_err-answer : goal.returns-in_err-answer
returns-in_err-answer g c = record { ran = MatchResult-from_err c.from_residual-in_err-answer.result _ _ c.from_residual-in_err-answer.ensures.0 (λ e. some_ran c.loop-turn.turn-index c.loop-turn.invariant.0 c.in_err-answer.ensures.0); items = runs_show_items; foreign = never_foreign; cases = cases_hold }

pub loop-turn-preserved : goal.loop-turn-preserved
loop-turn-preserved g c =
    let i = c.loop-turn.invariant in (
      ran_more _ (on_panel c.loop-turn.page (g.P.Panel.shows c.loop-turn.panel)) _ c.args.turns.now c.loop-turn.turn-index _ _ _ _ _ _ c.loop-turn-test.true (get_or_default c.args.turns.now c.loop-turn.turn-index _ _ c.loop-turn-test.true) i.0 c.in_ok-answer.ensures c.push_reserved.ensures.items,
      omega (arith, c.push_reserved.ensures.len, i.1),
      omega (arith, c.push_reserved.ensures.capacity, i.2),
    )

pub returns : goal.returns
returns g c =
    record {
      ran = ran_all _ _ c.args.turns.now _ _ _ c.loop-turn-test.false c.loop-turn.invariant.0;
      items = runs_show_items;
      foreign = never_foreign;
      cases = cases_hold;
    }
