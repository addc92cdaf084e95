use Rattle.std.proofs.Common.{◌≡◌, length, take, drop, sym, ap, ◌∙◌, arith}
use Rattle.std.proofs.lemmas.Bool.{cond-true, cond-false, le-leb, lt-leb}
use Rattle.std.proofs.lemmas.List.{take-append-drop, length-take-le}
use Rattle.page.specs.Stops.{previous_stop}
use Rattle.page.proofs.Flags.{among_first, from_last}
use Rattle.page.proofs.tabs.previous_stop.Goals as goal

pub loop-stop-init : goal.loop-stop-init
loop-stop-init c =
    let stops = c.args.stops.now in
    let k = c.args.count in
    let n = c.args.n in
    let d = c.args.first in
    let long : length (take k stops) ≡ k = length-take-le k stops c.requires in (
      omega (arith, long),
      ap (λ j. previous_stop n (take k stops) j d) long
          ∙ sym (among_first n k d (take k stops) (drop k stops) (omega (arith, long)))
          ∙ ap (λ fs. previous_stop n fs k d) (take-append-drop k stops),
    )

pub returns-then-left-le1 : goal.returns-then-left-le1
returns-then-left-le1 c =
    let e = c.in-Some.ensures.cases in
    sym (from_last c.loop-stop.left c.args.first _ _ _ e.0 e.1 ∙ cond-true _ _ _ c.if-stop.true ∙ cond-true _ _ _ (le-leb _ _ c.if-left-le1.true)) ∙ c.loop-stop.invariant.1

pub loop-stop-preserved-else-left-le1 : goal.loop-stop-preserved-else-left-le1
loop-stop-preserved-else-left-le1 c =
    let e = c.in-Some.ensures.cases in (
      omega (arith, e.1, c.loop-stop.invariant.0),
      sym (from_last c.loop-stop.left c.args.first _ _ _ e.0 e.1 ∙ cond-true _ _ _ c.if-stop.true ∙ cond-false _ _ _ (lt-leb _ _ c.if-left-le1.false)) ∙ c.loop-stop.invariant.1,
    )

pub loop-stop-preserved : goal.loop-stop-preserved
loop-stop-preserved c =
    let e = c.in-Some.ensures.cases in (
      omega (arith, e.1, c.loop-stop.invariant.0),
      sym (from_last c.loop-stop.left c.args.first _ _ _ e.0 e.1 ∙ cond-false _ _ _ c.if-stop.false) ∙ c.loop-stop.invariant.1,
    )
