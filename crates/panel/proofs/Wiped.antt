-- A run of cells erased.
use Rattle.std.proofs.Common.{◌≡◌, ℕ, ◌+◌, ◌<◌, ◌≤◌, ◌⊎◌, List, length, get_or, take, drop, set, sym, ap, ◌∙◌, inl, inr, ⊎_elim, arith, rules}
use Rattle.std.proofs.lemmas.Bool.{cases_lt, cases_eq}
use Rattle.std.proofs.lemmas.List.{same_lists, places, length-set, length-take, length-drop, length-append, length-replicate, ext_get_or, get_or-set_same, get_or-set_other}
use Rattle.panel.specs.declared.cell.Cell.{Cell}
use Rattle.panel.specs.Grids.{wiped, erased}

pub in_or_out : (i m k : ℕ) → ((i ≤ k) × (k < i + m)) ⊎ (i ≤ k → k < i + m → ⊥)
in_or_out i m k =
    ⊎_elim (λ a. inr (λ b d. omega arith)) (λ a. ⊎_elim (λ b. inl (a, b)) (λ b. inr (λ d e. omega arith)) (cases_lt k (i + m))) (cases_lt k i)

pub length_wiped : (xs : List Cell) (i n : ℕ) → i + n ≤ length xs → length (wiped xs i n) ≡ length xs
length_wiped xs i n h = simp (length-append, length-take, length-replicate, length-drop) (omega arith)

pub drop_wiped : (xs : List Cell) (i n m : ℕ) → i + n ≤ m → m ≤ length xs → drop m (wiped xs i n) ≡ drop m xs
drop_wiped xs i n m h b = same_lists _ _ (search (rules, places)) (λ k d l. grind (arith, places))

pub take_wiped : (xs : List Cell) (i n m : ℕ) → i + n ≤ m → m ≤ length xs → take m (wiped xs i n) ≡ wiped (take m xs) i n
take_wiped xs i n m h b = same_lists _ _ (search (rules, places)) (λ k d l. grind (arith, places))

pub get_or_wiped_in : (xs : List Cell) (i n k : ℕ) → i + n ≤ length xs → i ≤ k → k < i + n → get_or (wiped xs i n) k erased ≡ erased
get_or_wiped_in xs i n k h a b = grind (arith, places)

pub get_or_wiped_below : (xs : List Cell) (i n k : ℕ) → i + n ≤ length xs → k < i → get_or (wiped xs i n) k erased ≡ get_or xs k erased
get_or_wiped_below xs i n k h a = grind (arith, places)

pub get_or_wiped_past : (xs : List Cell) (i n k : ℕ) → i + n ≤ length xs → i + n ≤ k → get_or (wiped xs i n) k erased ≡ get_or xs k erased
get_or_wiped_past xs i n k h a = grind (arith, places)

pub get_or_wiped_out : (xs : List Cell) (i n k : ℕ) → i + n ≤ length xs → (i ≤ k → k < i + n → ⊥) → get_or (wiped xs i n) k erased ≡ get_or xs k erased
get_or_wiped_out xs i n k h out =
    ⊎_elim (get_or_wiped_below xs i n k h) (λ a. ⊎_elim (λ b. absurd (out a b)) (get_or_wiped_past xs i n k h) (cases_lt k (i + n))) (cases_lt k i)

pub wiped_wiped : (xs : List Cell) (i m n : ℕ) → (i + m) + n ≤ length xs → wiped (wiped xs i m) (i + m) n ≡ wiped xs i (m + n)
wiped_wiped xs i m n h = same_lists _ _ (search (rules, places)) (λ k d l. grind (arith, places))

pub wiped_more : (xs : List Cell) (i t : ℕ) → i + t < length xs → set (wiped xs i t) (i + t) erased ≡ wiped xs i (t + 1)
wiped_more xs i t h =
    let l0 = length_wiped xs i t (omega arith) in
    let l1 = length_wiped xs i (t + 1) (omega arith) in
    ext_get_or erased _ _ (length-set (wiped xs i t) (i + t) erased ∙ l0 ∙ sym l1) (λ j b.
    ⊎_elim
    (λ e. ap (λ z. get_or (set (wiped xs i t) (i + t) erased) z erased) e ∙ get_or-set_same (wiped xs i t) (i + t) erased erased (omega arith) ∙ sym (get_or_wiped_in xs i (t + 1) j (omega arith) (omega arith) (omega arith)))
    (λ ne. get_or-set_other (wiped xs i t) (i + t) j erased erased ne ∙
    ⊎_elim
    (λ a. get_or_wiped_in xs i t j (omega arith) a.0 a.1 ∙ sym (get_or_wiped_in xs i (t + 1) j (omega arith) a.0 (let z = a.1 in omega arith)))
    (λ out. get_or_wiped_out xs i t j (omega arith) out ∙ sym (get_or_wiped_out xs i (t + 1) j (omega arith) (λ p q. out p (omega arith))))
    (in_or_out i t j))
    (cases_eq j (i + t)))
