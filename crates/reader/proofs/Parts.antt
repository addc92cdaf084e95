-- Reading in parts, and byte by byte along a slice.
use Rattle.std.proofs.Common.{◌≡◌, ℕ, ◌+◌, ◌<◌, List, [], ◌∷◌, ◌++◌, length, get_or, take, sym, refl, ap, ◌∙◌, append_assoc, append-nil, add-one, length-append, take-suc}
use Rattle.reader.specs.Functions.{Function}
use Rattle.reader.specs.Steps.{Standing, step, standing_after, performed}
use Rattle.reader.specs.Laws.{ReadsInParts}

pub standing_parts : (s : Standing) (xs ys : List ℕ) → standing_after s (xs ++ ys) ≡ standing_after (standing_after s xs) ys
standing_parts s [] ys = refl
standing_parts s (x ∷ xs) ys = standing_parts (step s x).standing xs ys

pub performed_parts : (s : Standing) (xs ys : List ℕ) → performed s (xs ++ ys) ≡ performed s xs ++ performed (standing_after s xs) ys
performed_parts s [] ys = refl
performed_parts s (x ∷ xs) ys = ap (λ (l : List Function). (step s x).performs ++ l) (performed_parts (step s x).standing xs ys) ∙ sym (append_assoc (step s x).performs _ _)

pub reads_in_parts : ReadsInParts
reads_in_parts s xs ys = (standing_parts s xs ys, performed_parts s xs ys)

-- the first i + 1 bytes are the first i and one more
pub standing_more : (s : Standing) (xs : List ℕ) (i : ℕ) → i < length xs → standing_after s (take (i + 1) xs) ≡ (step (standing_after s (take i xs)) (get_or xs i 0)).standing
standing_more s xs i h = rw (add-one, take-suc xs i 0) (standing_parts s (take i xs) (get_or xs i 0 ∷ []))

pub performed_more : (s : Standing) (xs : List ℕ) (i : ℕ) → i < length xs → performed s (take (i + 1) xs) ≡ performed s (take i xs) ++ (step (standing_after s (take i xs)) (get_or xs i 0)).performs
performed_more s xs i h = rw (add-one, take-suc xs i 0, performed_parts s (take i xs) (get_or xs i 0 ∷ [])) (ap (λ (l : List Function). performed s (take i xs) ++ l) (append-nil _))

-- one turn of a loop that reads byte by byte
pub turn_standing : (s t t' : Standing) (xs : List ℕ) (i : ℕ) → i < length xs → t ≡ standing_after s (take i xs) → t' ≡ (step t (get_or xs i 0)).standing → t' ≡ standing_after s (take (i + 1) xs)
turn_standing s t t' xs i h e f = f ∙ ap (λ (z : Standing). (step z (get_or xs i 0)).standing) e ∙ sym (standing_more s xs i h)

pub turn_performed : (fs : List Function) (s t : Standing) (xs : List ℕ) (i n : ℕ) → i < length xs → t ≡ standing_after s (take i xs) → n ≡ length (performed s (take i xs)) → fs ≡ (step t (get_or xs i 0)).performs → n + length fs ≡ length (performed s (take (i + 1) xs))
turn_performed fs s t xs i n h e k f =
    let same : fs ≡ (step (standing_after s (take i xs)) (get_or xs i 0)).performs = f ∙ ap (λ (z : Standing). (step z (get_or xs i 0)).performs) e in
    rw (k, same) (sym (ap length (performed_more s xs i h) ∙ length-append (performed s (take i xs)) _))
