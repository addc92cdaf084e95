-- Equal pages agree after turns that took the same bytes.
use Rattle.std.proofs.Common.{◌≡◌, List, length, sym, ap, ◌∙◌}
use Rattle.page.specs.Plain.{Plain, OnPanel}
use Rattle.turns.specs.Turns.{Turn, after, taken_in, sent_in}
use Rattle.turns.specs.Running.{turned, Agree}
use Rattle.turns.proofs.SoFar.{same_bytes_same_page}

pub agree : (x y x' y' : OnPanel) (ts us : List Turn) → x' ≡ turned x ts → y' ≡ turned y us → Agree x.plain y.plain ts us x'.plain y'.plain
agree x y x' y' ts us ex ey = λ same took sent.
    let p = x.plain in
    let law = same_bytes_same_page p ts us (took ∙ ap (λ (q : Plain). taken_in q us) (sym same)) (sent ∙ ap (λ (q : Plain). length (sent_in q us)) (sym same)) in (
      ap (λ (o : OnPanel). o.plain) ex ∙ law.0 ∙ ap (λ (q : Plain). after q us) same ∙ ap (λ (o : OnPanel). o.plain) (sym ey),
      law.1 ∙ ap (λ (q : Plain). sent_in q us) same,
    )
