-- The turns of a plain page: what each answers, leaves and writes, and what a list of them comes to.
use Rattle.std.specs.Prelude.{ℕ, List, [], ◌∷◌, ◌++◌, take}
use Rattle.refusal.specs.Table.{Answer, accepted, refused}
use Rattle.page.specs.declared.view.Delivered.{Delivered}
use Rattle.page.specs.Plain.{Plain, deliver_answer, delivered}
use Rattle.picture.specs.Calls.{Outcome, replies, pictures}

-- a turn by its arguments alone: the bytes of a delivery, the length of a buffer
pub data Turn : Type 0 where
  deliver : List ℕ → Turn
  reply : ℕ → Turn
  picture : ℕ → Turn

-- a delivery answers the count of the bytes taken
abbrev pub counted : Answer Delivered → Answer ℕ
counted (accepted d) = accepted d.taken
counted (refused n l p) = refused n l p

unfoldable pub turn : Plain → Turn → Outcome
turn x (deliver bs) = record { says = counted (deliver_answer x bs); after = delivered bs x; writes = [] }
turn x (reply room) = replies room x
turn x (picture room) = pictures room x

-- the page after a list of turns
unfoldable pub after : Plain → List Turn → Plain
after x [] = x
after x (t ∷ ts) = after (turn x t).after ts

-- what they answer, and all that they write, in order
unfoldable pub answers : Plain → List Turn → List (Answer ℕ)
answers x [] = []
answers x (t ∷ ts) = (turn x t).says ∷ answers (turn x t).after ts

unfoldable pub written_in : Plain → List Turn → List ℕ
written_in x [] = []
written_in x (t ∷ ts) = (turn x t).writes ++ written_in (turn x t).after ts

-- what an answer stands for, if it accepts
abbrev pub if_accepted : {A : Type 0} → Answer ℕ → (ℕ → List A) → List A
if_accepted (accepted n) f = f n
if_accepted (refused n l p) f = []

-- the bytes that a turn took, and the reply that it sent
abbrev pub took : Turn → Outcome → List ℕ
took (deliver bs) o = if_accepted o.says (λ n. take n bs)
took (reply room) o = []
took (picture room) o = []

abbrev pub gave : Turn → Outcome → List (List ℕ)
gave (deliver bs) o = []
gave (reply room) o = if_accepted o.says (λ n. o.writes ∷ [])
gave (picture room) o = []

-- all the bytes that accepted deliveries took, and the replies sent, in order
unfoldable pub taken_in : Plain → List Turn → List ℕ
taken_in x [] = []
taken_in x (t ∷ ts) = took t (turn x t) ++ taken_in (turn x t).after ts

unfoldable pub sent_in : Plain → List Turn → List (List ℕ)
sent_in x [] = []
sent_in x (t ∷ ts) = gave t (turn x t) ++ sent_in (turn x t).after ts
