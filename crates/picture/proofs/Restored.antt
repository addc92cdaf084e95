-- The bytes of a picture make any page of its size, outside an SOS string, the page that it is of.
use Rattle.std.proofs.Common.{◌≡◌, ℕ, false, List, [], ◌∷◌, ◌++◌, None, sym, refl, ap, ◌∙◌, ⊎_elim, arith}
use Rattle.reader.specs.Functions.{Function, reset}
use Rattle.reader.specs.Steps.{Standing, rest, standing_after, performed}
use Rattle.reader.specs.Laws.{is_in_sos}
use Rattle.reader.proofs.Parts.{standing_parts, performed_parts}
use Rattle.reader.proofs.Standings.{reads_reset}
use Rattle.page.specs.Sheets.{Sheet, on_state, reading}
use Rattle.page.specs.Effects.{does_all, run}
use Rattle.page.proofs.BytesAct.{bytes_act}
use Rattle.picture.specs.Writing.{written, all_written}
use Rattle.picture.specs.Writable.{Writable}
use Rattle.picture.specs.Pictures.{drawing, picture_bytes}
use Rattle.picture.proofs.Back.{reads_back}
use Rattle.picture.proofs.Drawing.{acts, writes_numbers, writes_cup, writes_sgr}
use Rattle.picture.proofs.CellsDrawn.{Fine, Drawn}
use Rattle.picture.proofs.Drawn.{Ready, drawn_on, each}

writable : Drawn Writable
writable = record {
  cups = writes_cup;
  sgrs = writes_sgr;
  shows = λ c g. g;
  others = λ n f h e. (writes_numbers (n ∷ []) (h, tt) (omega arith), ⊎_elim (λ z. rw z refl) (λ z. rw z refl) e);
  column_stop = refl;
  line_stop = refl;
}

-- RIS, and then bytes as from rest
restarts : (s : Standing) (bs : List ℕ) → is_in_sos s ≡ false → (performed s (0x1B ∷ 0x63 ∷ bs) ≡ reset ∷ performed rest bs) × (standing_after s (0x1B ∷ 0x63 ∷ bs) ≡ standing_after rest bs)
restarts s bs o =
    let r = reads_reset s o in (
      performed_parts s (0x1B ∷ 0x63 ∷ []) bs ∙ (λ i. r.1 i ++ performed (r.0 i) bs),
      standing_parts s (0x1B ∷ 0x63 ∷ []) bs ∙ ap (λ (q : Standing). standing_after q bs) r.0,
    )

-- what a picture performs, from any standing outside an SOS string
pub picture_performs : (a : Sheet) (s : Standing) → Ready a → Fine a.grid.cells → is_in_sos s ≡ false → performed s (picture_bytes a) ≡ reset ∷ drawing a
unfolding written all_written
picture_performs a s ok f o =
    (restarts s (all_written (drawing a)) o).0 ∙ ap (λ (l : List Function). reset ∷ l) (reads_back (drawing a) (each a ok Writable writable f)).0

pub restored : (a b : Sheet) → Ready a → Ready b → b.state.lines ≡ a.state.lines → b.state.columns ≡ a.state.columns → is_in_sos b.state.standing ≡ false
    → a.state.standing ≡ rest → a.state.owed ≡ None → Fine a.grid.cells → run b (picture_bytes a) ≡ a
unfolding written all_written acts
restored a b oa ob el ec o es eo f =
    let fs = drawing a in
    let bs = all_written fs in
    let s = b.state.standing in
    let back = reads_back fs (each a oa Writable writable f) in
    let z = restarts s bs o in
    let functions : performed s (0x1B ∷ 0x63 ∷ bs) ≡ reset ∷ fs = picture_performs a s oa f o in
    let stands : standing_after s (0x1B ∷ 0x63 ∷ bs) ≡ a.state.standing = z.1 ∙ back.1 ∙ sym es in
    let sheet : does_all (performed s (0x1B ∷ 0x63 ∷ bs)) b ≡ a = ap (λ (l : List Function). does_all l b) functions ∙ drawn_on a oa b.grid (sym ob.lines ∙ el) (sym ob.columns ∙ ec) ob.count es eo f in
    bytes_act b (0x1B ∷ 0x63 ∷ bs) ∙ (λ i. on_state (reading (stands i)) (sheet i))
