use Rattle.std.proofs.Common.{rules}
use Rattle.reader.proofs.Forms.{pattern_one, sofar_more, sos_rest, sos_broken, sos_whole}
use Rattle.reader.proofs.cutting.sos.Goals as goal

pub returns-in-Some : goal.returns-in-Some
returns-in-Some c =
    let st = c.in-Some.ensures.1 in
    sos_whole _ _ st.0 _ c.loop-tail.invariant st.1 st.2

pub returns-then-is_some : goal.returns-then-is_some
returns-then-is_some c = sos_broken _ _ c.loop-tail.invariant (search rules)

pub returns : goal.returns
returns c = sos_rest _ c.loop-tail.tail.now c.loop-tail.invariant (search rules)

pub loop-tail-preserved : goal.loop-tail-preserved
loop-tail-preserved c = sofar_more _ _ _ _ c.loop-tail.invariant (pattern_one c.loop-tail.tail.now (search rules)) (search rules) (search rules)
