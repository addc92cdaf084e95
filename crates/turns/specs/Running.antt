-- Lists of turns on a page and its panel: what they did, or, where memory failed, how many of them.
use Rattle.std.specs.Prelude.{◌≡◌, ℕ, List, ◌++◌, map, length, take, Result}
use Rattle.refusal.specs.Table.{Answer, accepted, refused, answer}
use Rattle.refusal.specs.declared.Refusal.{Refusal}
use Rattle.panel.specs.Screens.{Beyond}
use Rattle.page.specs.Plain.{Plain, OnPanel}
use Rattle.picture.specs.Calls.{Outcome}
use Rattle.turns.specs.declared.turn.Turn as program
use Rattle.turns.specs.declared.turn.Turn.TheVariants.{Deliver, Reply, Picture}
use Rattle.turns.specs.Turns.{Turn, deliver, reply, picture, after, answers, written_in, taken_in, sent_in}

-- a turn of the program, by its arguments
abbrev pub meant : program.Turn → Turn
meant (Deliver bytes) = deliver bytes.now
meant (Reply room) = reply room
meant (Picture room) = picture room

-- what an answer counts; a refusal counts nothing
abbrev pub count_of : Answer ℕ → ℕ
count_of (accepted n) = n
count_of (refused n l p) = 0

-- one turn did that, and what it wrote was added to what was written before
pub record Did (o : Outcome) (r : Result ℕ Refusal) (beyond : Beyond) (after : OnPanel) (before_it after_it : List ℕ) : Type 0 where
  pub says : answer r ≡ o.says
  pub leaves : after ≡ record { plain = o.after; beyond = beyond }
  pub adds : after_it ≡ before_it ++ o.writes

-- the page and panel after turns; what lies beyond the cells stays
abbrev pub turned : OnPanel → List Turn → OnPanel
turned x ts = record { plain = after x.plain ts; beyond = x.beyond }

-- a transcript, and what is left, are those of the turns
pub record Ran (x : OnPanel) (ts : List Turn) (rs : List (Result ℕ Refusal)) (written : List ℕ) (y : OnPanel) : Type 0 where
  pub answered : map answer rs ≡ answers x.plain ts
  pub wrote : written ≡ written_in x.plain ts
  pub leaves : y ≡ turned x ts

-- whole turns, from the first on, lead from one page to the other
pub record SomeRan (x : OnPanel) (ts : List Turn) (y : OnPanel) : Type 0 where
  pub many : ℕ
  pub leaves : y ≡ turned x (take many ts)

-- equal pages, whose turns took the same bytes and sent equally many replies, are left equal, and the replies are the same
abbrev pub Agree : Plain → Plain → List Turn → List Turn → Plain → Plain → Type 0
Agree x y ts us x' y' = x ≡ y → taken_in x ts ≡ taken_in y us → length (sent_in x ts) ≡ length (sent_in y us) → (x' ≡ y') × (sent_in x ts ≡ sent_in y us)
