use Rattle.std.proofs.Common.{take, sym, ap, ◌∙◌, subst, rules, tests}
use Rattle.std.proofs.lemmas.Iterator.{YieldsList-from_slice}
use Rattle.std.proofs.lemmas.Iterator.Consumers.{count_from_yields_List}
use Rattle.std.proofs.lemmas.Iterator.Search.{YieldsList-from_take_while}
use Rattle.std.proofs.lemmas.List.Folds.{length-prefix_len}
use Rattle.reader.specs.Bytes.{AllOf}
use Rattle.reader.specs.Classes.{member}
use Rattle.reader.proofs.Forms.{front_all}
use Rattle.reader.proofs.cutting.run.Goals as goal

pub returns-clause-all : goal.returns-clause-all
returns-clause-all c =
    let P = member c.args.class in
    let bs = c.args.bytes.now in
    let counted =
    count_from_yields_List c.take_while.result _ c.count-n.ensures.ran
    (YieldsList-from_take_while _ P (YieldsList-from_slice bs (cc)) c.take_while.ensures.closure c.take_while.ensures.done (λ x b q k. search (rules, tests)))
    ∙ length-prefix_len P bs
    in
    subst (AllOf P) (sym (c.split_at.ensures.front ∙ ap (λ n. take n bs) counted)) (front_all P bs)
