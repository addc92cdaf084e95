-- The scan for a foreign cell.
use Rattle.std.proofs.Common.{◌≡◌, ℕ, zero, suc, ◌+◌, ◌<◌, ◌≤◌, Bool, true, false, List, [], ◌∷◌, length, get_or, drop, is_some, Some, None, Option, refl, ap, ◌∙◌, arith}
use Rattle.std.proofs.lemmas.Bool.{true≢false}
use Rattle.std.proofs.lemmas.Bool.Decides.{nat_tests}
use Rattle.std.proofs.lemmas.List.{drop_more, drop_all}
use Rattle.panel.specs.declared.cell.Cell.{Cell}
use Rattle.panel.specs.Grids.{erased}
use Rattle.picture.specs.Pictures.{foreign, first_foreign}

-- what the scan of a list comes to, by its first cell
abbrev first_or : Bool → ℕ → List Cell → Option ℕ
first_or b k xs = elim b [ true ↦ Some k | false ↦ first_foreign (k + 1) xs ]

number_small : (c r : ℕ) → foreign (record { code = c; rendition = r }) ≡ false → r < 34992
number_small c r f = grind (arith, nat_tests)

smaller : (b : Bool) (x : Cell) (xs : List Cell) (j k : ℕ) → foreign x ≡ b
    → ((i : ℕ) → first_foreign (j + 1) xs ≡ None → i < length xs → (get_or xs i erased).rendition < 34992)
    → first_or b j xs ≡ None → k < length (x ∷ xs) → (get_or (x ∷ xs) k erased).rendition < 34992
smaller true x xs j k f ih e h = absurd (true≢false (ap is_some e))
smaller false x xs j zero f ih e h = number_small x.code x.rendition f
smaller false x xs j (suc k) f ih e h = ih k e (omega arith)

-- where none is found, every cell has a rendition
pub none_foreign : (xs : List Cell) (j k : ℕ) → first_foreign j xs ≡ None → k < length xs → (get_or xs k erased).rendition < 34992
none_foreign [] j k e h = absurd (omega arith)
none_foreign (x ∷ xs) j k e h = smaller (foreign x) x xs j k refl (none_foreign xs (j + 1)) e h

-- the scan at index k
module _ (xs : List Cell) (k : ℕ) where
  pub foreign_here : k < length xs → foreign (get_or xs k erased) ≡ true → first_foreign k (drop k xs) ≡ Some k
  foreign_here h f = ap (first_foreign k) (drop_more xs k erased h) ∙ ap (λ b. first_or b k (drop (k + 1) xs)) f

  pub foreign_on : k < length xs → foreign (get_or xs k erased) ≡ false → first_foreign k (drop k xs) ≡ first_foreign (k + 1) (drop (k + 1) xs)
  foreign_on h f = ap (first_foreign k) (drop_more xs k erased h) ∙ ap (λ b. first_or b k (drop (k + 1) xs)) f

  pub foreign_none : length xs ≤ k → first_foreign k (drop k xs) ≡ None
  foreign_none h = ap (first_foreign k) (drop_all k xs h)
