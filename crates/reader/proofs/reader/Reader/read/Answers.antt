use Rattle.std.proofs.Common.{◌≡◌, cond, Option, Some, None, rules, length, refl, arith}
use Rattle.std.specs.Option.{is_some, option_map, option_to_list}
use Rattle.reader.specs.declared.function.Function.{Function}
use Rattle.reader.specs.Meaning.{function_of, functions_of}
use Rattle.reader.proofs.Parts.{reads_in_parts, turn_standing, turn_performed}
use Rattle.reader.proofs.Strings.{reads_numbers}
use Rattle.reader.proofs.Standings.{reads_reset, standings_differ}
use Rattle.reader.proofs.Tabled.{bytes_by_standing}
use Rattle.reader.proofs.reader.Reader.read.Goals as goal
use Rattle.reader.proofs.reader.Reader.read.Goals.{then-is_some, else-is_some}

-- a byte completes one function or none
how_many : (f : Option Function) → length (option_to_list (option_map function_of f)) ≡ cond (is_some f) 1 0
how_many None = refl
how_many (Some f) = refl

pub loop-byte-preserved : goal.loop-byte-preserved
loop-byte-preserved c =
    let i = c.loop-byte.invariant in
    let on = c.loop-byte-test.true in
    let standing = turn_standing _ _ _ c.args.bytes.now _ on i.0 c.step.ensures.standing in
    let performs = turn_performed (functions_of c.step.result) _ _ c.args.bytes.now _ _ on i.0 i.1 c.step.ensures.completes in
    let many = how_many c.step.result.function in
    elim c.if-is_some.branch [
      | then-is_some w ↦ let one : length (functions_of c.step.result) ≡ 1 = search rules in (standing, omega (arith, w.count-is, performs, one), omega (arith, w.count-is))
      | else-is_some w ↦ let none : length (functions_of c.step.result) ≡ 0 = search rules in (standing, omega (arith, w.count-is, performs, none), omega (arith, w.count-is))
    ]

pub returns-clause-parts : goal.returns-clause-parts
returns-clause-parts c = reads_in_parts

pub returns-clause-numbers : goal.returns-clause-numbers
returns-clause-numbers c = reads_numbers

pub returns-clause-reset : goal.returns-clause-reset
returns-clause-reset c = reads_reset

pub returns-clause-canonical : goal.returns-clause-canonical
returns-clause-canonical c = standings_differ

pub returns-clause-table : goal.returns-clause-table
returns-clause-table c = bytes_by_standing
