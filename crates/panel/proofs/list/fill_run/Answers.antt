use Rattle.std.proofs.Common.{◌≡◌, ◌+◌, ◌-◌, ◌++◌, length, take, drop, replicate, ap, ◌∙◌, arith, length-drop, length-take}
use borrow.Rule.Slice.PartMut.{put_mid}
use Rattle.std.proofs.lemmas.List.{drop-drop}
use Rattle.panel.specs.Grids.{erased}
use Rattle.panel.proofs.list.fill_run.Goals as goal

-- put_mid is the checker's own word for a slice of which a part was written: the library's lemmas say it in other words than wiped
pub returns : goal.returns
returns c =
    let xs = c.args.cells.now in
    let i = c.args.at in
    let n = c.args.count in
    let k : (i + n) - i ≡ n = omega arith in
    let m : length (take ((i + n) - i) (drop i xs)) ≡ n = simp (length-take, length-drop) (omega arith) in
    let f : c.fill.new.cells ≡ replicate n erased = c.fill.ensures ∙ ap (λ z. replicate z erased) m in
    ap (λ ys. put_mid i ((i + n) - i) xs ys) f ∙ ap (λ z. put_mid i z xs (replicate n erased)) k ∙ ap (λ ys. take i xs ++ (replicate n erased ++ ys)) (drop-drop n i xs)
