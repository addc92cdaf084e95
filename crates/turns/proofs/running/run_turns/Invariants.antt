use Rattle.std.proofs.Common.{◌≤◌, map, length, take, vec_items, vec_len, vec_capacity}
use Rattle.page.specs.Plain.{on_panel}
use Rattle.turns.specs.Running.{Ran, meant}
use Rattle.turns.proofs.running.run_turns.Given as goal

abbrev pub invariant-loop-turn : goal.invariant-loop-turn
invariant-loop-turn g l =
    let shows = g.P.Panel.shows in
    Ran (on_panel l.initial.page (shows l.initial.panel)) (take l.turn-index (map meant l.turns)) (vec_items l.answers) (vec_items l.written) (on_panel l.page (shows l.panel))
    × (vec_len l.answers ≤ l.turn-index) × (length l.turns ≤ vec_capacity l.answers)
