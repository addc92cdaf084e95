-- Two pages: one made equal to another by its picture, and whether two are equal.
use Rattle.std.specs.Prelude.{◌≡◌, ℕ, Bool, cond, ◌&&◌, List, [], length, IfOk, Decides, Result, MatchResult, ◌==◌}
use Rattle.refusal.specs.Table.{Answer, accepted, refused, answer}
use Rattle.refusal.specs.declared.Refusal.{Refusal}
use Rattle.panel.specs.Grids.{Grid}
use Rattle.reader.specs.Laws.{is_in_sos}
use Rattle.page.specs.Plain.{Plain, OnPanel, known, owes, page_refuses}
use Rattle.picture.specs.Tape.{over}
use Rattle.picture.specs.Calls.{pictures}

-- the first of two answers, unless it accepts
abbrev pub unless_refused : {A : Type 0} → Answer (Unit {0}) → Answer A → Answer A
unless_refused (accepted u) a = a
unless_refused (refused n l p) a = refused n l p

abbrev pub same_size : Grid → Grid → Bool
same_size g h = g.lines == h.lines && g.columns == h.columns

abbrev pub size_answer : Grid → Grid → Answer (Unit {0})
size_answer g h = cond (same_size g h) (accepted tt) (page_refuses 2)

-- whether a picture's bytes would be taken: page not known, a reply owed, inside an SOS string
abbrev pub takes_picture : Plain → Answer (Unit {0})
takes_picture x = cond (known x) (cond (owes x) (page_refuses 4) (cond (is_in_sos x.sheet.state.standing) (page_refuses 6) (accepted tt))) (page_refuses 2)

-- what copying a page onto another answers: panels of other sizes, what the other page refuses, what the picture refuses
abbrev pub copy_answer : Plain → Plain → ℕ → Answer ℕ
copy_answer x y room = unless_refused (size_answer x.sheet.grid y.sheet.grid) (unless_refused (takes_picture y) (pictures room x).says)

-- accepted, the other page is equal to the first and the buffer holds the picture; refused, both are as they were
pub record Copies (x : Plain) (y : OnPanel) (r : Result ℕ Refusal) (y' : OnPanel) (b b' : List ℕ) : Type 0 where
  pub says : answer r ≡ copy_answer x y.plain (length b)
  pub done : MatchResult r (λ n. (y' ≡ record { plain = x; beyond = y.beyond }) × (b' ≡ over (pictures (length b) x).writes b)) (λ e. (y' ≡ y) × (b' ≡ b))

-- whether an answer accepts, whatever it tells
abbrev pub forget : {A : Type 0} → Answer A → Answer (Unit {0})
forget (accepted x) = accepted tt
forget (refused n l p) = refused n l p

-- bytes that are written only where a call came so far
abbrev pub only_after : Answer (Unit {0}) → List ℕ → List ℕ
only_after (accepted u) bs = bs
only_after (refused n l p) bs = []

-- whether two pages are equal is told by their pictures: panels of other sizes, what the first picture refuses, what the second
-- refuses. Each buffer holds the picture that was written, if one was
pub record Compares (x y : Plain) (r : Result Bool Refusal) (a a' b b' : List ℕ) : Type 0 where
  pub says : forget (answer r) ≡ unless_refused (size_answer x.sheet.grid y.sheet.grid) (unless_refused (forget (pictures (length a) x).says) (forget (pictures (length b) y).says))
  pub decides : IfOk r (λ t. Decides t (x ≡ y))
  pub first : a' ≡ over (only_after (size_answer x.sheet.grid y.sheet.grid) (pictures (length a) x).writes) a
  pub second : b' ≡ over (only_after (unless_refused (size_answer x.sheet.grid y.sheet.grid) (forget (pictures (length a) x).says)) (pictures (length b) y).writes) b
