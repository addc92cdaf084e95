use Rattle.std.proofs.Common.{rules}
use Rattle.reader.specs.Steps.{rest}
use Rattle.reader.proofs.Parts.{turn_standing}
use Rattle.reader.proofs.Tells.{told_same, told_first, told_none, some_is}
use Rattle.reader.proofs.telling.performed_sequence.Goals as goal
use Rattle.reader.proofs.telling.performed_sequence.Goals.{in-Some+else-is_some, in_default}

pub loop-byte-preserved : goal.loop-byte-preserved
loop-byte-preserved c =
    let i = c.loop-byte.invariant in
    let on = c.loop-byte-test.true in (
      turn_standing rest _ _ c.args.bytes.now _ on i.0 c.step.ensures.standing,
      elim c.match-step.branch [
        | in-Some+else-is_some w ↦ told_first _ _ _ _ c.args.bytes.now on i.0 i.1 c.step.ensures.completes _ _ (search rules) w.in-Some.is (search rules)
        | in_default w ↦ told_same _ _ _ _ c.args.bytes.now on i.0 i.1 c.step.ensures.completes _ (search rules) w.told-is
      ],
    )

pub returns-then-is_some : goal.returns-then-is_some
returns-then-is_some c =
    let i = c.loop-byte.invariant in
    let before = some_is c.loop-byte.told (search rules) in
    told_none _ _ _ _ c.args.bytes.now c.loop-byte-test.true i.0 i.1 c.step.ensures.completes _ _ before.1 c.in-Some.is
