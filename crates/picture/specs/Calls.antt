-- What reply and picture answer, leave and write.
use Rattle.std.specs.Prelude.{◌≡◌, ℕ, ◌+◌, ◌/◌, ◌%◌, cond, List, [], ◌++◌, length, drop, Some, None, Result, nat_le}
use Rattle.refusal.specs.Table.{Answer, accepted, refused, answer}
use Rattle.refusal.specs.declared.Refusal.{Refusal}
use Rattle.refusal.specs.declared.Layer.TheVariants as layer
use Rattle.refusal.specs.declared.Place.TheVariants.{Length, At}
use Rattle.reader.specs.Steps.{is_at_rest}
use Rattle.page.specs.Plain.{Plain, known, owes, settled, page_refuses}
use Rattle.picture.specs.Pictures.{picture_bytes, reply_bytes, first_foreign}

-- what a call with a buffer answers, what it leaves, and what it writes at the buffer's front
pub record Outcome : Type 0 where
  pub says : Answer ℕ
  pub after : Plain
  pub writes : List ℕ

abbrev pub refuses : Plain → Answer ℕ → Outcome
refuses x a = record { says = a; after = x; writes = [] }

-- bytes at the front of a buffer with so much room, or a refusal that tells their length
abbrev pub front_answer : List ℕ → ℕ → Answer ℕ
front_answer bs room = cond (nat_le (length bs) room) (accepted (length bs)) (refused 8 layer.Writer (Length (length bs)))

abbrev pub front_bytes : List ℕ → ℕ → List ℕ
front_bytes bs room = cond (nat_le (length bs) room) bs []

abbrev pub fronts : Plain → Plain → List ℕ → ℕ → Outcome
fronts x y bs room = record { says = front_answer bs room; after = cond (nat_le (length bs) room) y x; writes = front_bytes bs room }

-- a reply looks at no panel: page not started, nothing owed, buffer too short
abbrev pub replies : ℕ → Plain → Outcome
replies room x =
    cond x.started (cond (owes x) (fronts x (settled x) (reply_bytes x.sheet.state) room) (refuses x (page_refuses 5))) (refuses x (page_refuses 2))

-- a picture: page not known, a reply owed, reader not at rest, a foreign cell, buffer too short
abbrev pub draws : ℕ → Plain → Outcome
draws room x = elim (first_foreign 0 x.sheet.grid.cells) [
  | Some k ↦ refuses x (refused 7 layer.Page (At (k / x.sheet.grid.columns + 1) (k % x.sheet.grid.columns + 1)))
  | None ↦ fronts x x (picture_bytes x.sheet) room
]

abbrev pub pictures : ℕ → Plain → Outcome
pictures room x =
    cond (known x) (cond (owes x) (refuses x (page_refuses 4)) (cond (is_at_rest x.sheet.state.standing) (draws room x) (refuses x (page_refuses 6)))) (refuses x (page_refuses 2))

-- a call did that: its result, the page after it, and the buffer before and after
pub record Does (o : Outcome) (r : Result ℕ Refusal) (after : Plain) (before_buffer after_buffer : List ℕ) : Type 0 where
  pub says : answer r ≡ o.says
  pub leaves : after ≡ o.after
  pub wrote : after_buffer ≡ o.writes ++ drop (length o.writes) before_buffer
