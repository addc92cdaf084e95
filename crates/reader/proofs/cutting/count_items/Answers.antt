use Rattle.std.proofs.Common.{ℕ, List, map, drop, sym, ◌∙◌, subst}
use Rattle.std.proofs.lemmas.List.{length-map}
use Rattle.reader.specs.Performs.{Cut}
use Rattle.reader.proofs.Whole.{part_of, gives_cut, cuts_perform, rest_is_unfinished}
use Rattle.reader.proofs.Only.{cut_is_only}
use Rattle.reader.proofs.cutting.count_items.Goals as goal

pub returns : goal.returns
returns c =
    let (is, (u, (t, on, end)), len) = c.count.ensures.ran in
    let cut = gives_cut _ t u is on end in
    record {
      items = (map part_of is, length-map is part_of ∙ sym len, subst (λ (n : ℕ). Cut n (map part_of is) (drop n c.args.bytes.now)) c.new.ensures.place (subst (λ (bs : List ℕ). Cut c.new.result.place (map part_of is) (drop c.new.result.place bs)) c.new.ensures.bytes cut));
      only = cut_is_only;
      performs = cuts_perform;
      unfinished = rest_is_unfinished;
    }
