use Rattle.std.proofs.Common.{◌+◌, ◌/◌, ◌%◌, Bool, leb, ap}
use Rattle.std.proofs.lemmas.Bool.{le-leb, lt-leb}
use Rattle.picture.specs.Tape.{Lays, tape}
use Rattle.picture.proofs.Tapes.{lays_none, lays_by, then, being}
use Rattle.picture.proofs.Digits.{only_if, digits_laid}
use Rattle.picture.proofs.out.Out.put_number.Goals as goal
use Rattle.picture.proofs.out.Out.put_number.Goals.{then-n-ge1000, else-n-ge1000, then-n-ge100, else-n-ge100, then-n-ge10, else-n-ge10}

pub returns : goal.returns
returns c =
    let n = c.args.n in
    let w = λ (b : Bool). only_if b (48 + n / 1000) in
    let x = λ (b : Bool). only_if b (48 + n / 100 % 10) in
    let y = λ (b : Bool). only_if b (48 + n / 10 % 10) in
    let thousands : Lays (tape c.args.self.now) (w (leb 1000 n)) (tape c.if-n-ge1000.self) =
    elim c.if-n-ge1000.branch [
      | then-n-ge1000 b ↦ lays_by w (le-leb _ _ b.if-n-ge1000.true) (ap tape b.self-is) b.put.ensures
      | else-n-ge1000 b ↦ lays_by w (lt-leb _ _ b.if-n-ge1000.false) (ap tape b.self-is) lays_none
    ]
    in
    let hundreds : Lays (tape c.if-n-ge1000.self) (x (leb 100 n)) (tape c.if-n-ge100.self) =
    elim c.if-n-ge100.branch [
      | then-n-ge100 b ↦ lays_by x (le-leb _ _ b.if-n-ge100.true) (ap tape b.self-is) b.put-then-n-ge100.ensures
      | else-n-ge100 b ↦ lays_by x (lt-leb _ _ b.if-n-ge100.false) (ap tape b.self-is) lays_none
    ]
    in
    let tens : Lays (tape c.if-n-ge100.self) (y (leb 10 n)) (tape c.if-n-ge10.self) =
    elim c.if-n-ge10.branch [
      | then-n-ge10 b ↦ lays_by y (le-leb _ _ b.if-n-ge10.true) (ap tape b.self-is) b.put-then-n-ge10.ensures
      | else-n-ge10 b ↦ lays_by y (lt-leb _ _ b.if-n-ge10.false) (ap tape b.self-is) lays_none
    ]
    in
    being (then thousands (then hundreds (then tens c.put-2.ensures))) (digits_laid n)
