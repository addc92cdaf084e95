use Rattle.std.proofs.Common.{rules}
use Rattle.reader.proofs.Forms.{single, some_after, pattern_one, string_rest, string_rest_esc, string_whole, string_broken}
use Rattle.reader.proofs.cutting.string.Goals as goal

pub returns-in-Some : goal.returns-in-Some
returns-in-Some c =
    let st = c.in-Some.ensures.1 in
    string_whole _ _ _ c.run.ensures.whole c.run.ensures.all st.0 _ st.1 st.2

pub returns-in-empty : goal.returns-in-empty
returns-in-empty c = string_rest _ _ c.run.result.1.now c.run.ensures.whole c.run.ensures.all (search rules)

pub returns-in-27 : goal.returns-in-27
returns-in-27 c =
    string_rest_esc _ _ c.run.result.1.now c.run.ensures.whole c.run.ensures.all (single c.run.result.1.now 27 (search rules) (search rules) (search rules))

pub returns-in-len1-up : goal.returns-in-len1-up
returns-in-len1-up c =
    let t = c.run.result.1.now in
    string_broken _ _ _ c.run.ensures.whole c.run.ensures.all c.run.ensures.stops c.in_default.ensures _ _ (pattern_one t (search rules)) (λ e. some_after t (search rules))
