-- Cells seen through indices: what is written at an index that is seen.
use Rattle.std.proofs.Common.{◌≡◌, ℕ, ◌+◌, ◌-◌, ◌<◌, ◌≤◌, List, length, get_or, set, sym, ap, ◌∙◌, ⊎_elim, arith}
use Rattle.std.proofs.lemmas.List.FromFn.{length-map-range_with_len, get_or-map-range_with_len}
use Rattle.std.proofs.lemmas.Bool.{cases_eq}
use Rattle.std.proofs.lemmas.List.{ext_get_or, length-set, get_or-set_same, get_or-set_other}
use Rattle.panel.specs.declared.cell.Cell.{Cell}
use Rattle.panel.specs.Grids.{erased, wiped}
use Rattle.panel.specs.Windows.{seen}
use Rattle.panel.proofs.Wiped.{length_wiped, get_or_wiped_in, get_or_wiped_out, in_or_out}

pub get_or_seen : (u : ℕ → ℕ) (n : ℕ) (xs : List Cell) (k : ℕ) → k < n → get_or (seen u n xs) k erased ≡ get_or xs (u k) erased
get_or_seen u n xs k h = get_or-map-range_with_len _ 0 n k k erased h (omega arith)

pub length_seen : (u : ℕ → ℕ) (n : ℕ) (xs : List Cell) → length (seen u n xs) ≡ n
length_seen u n xs = length-map-range_with_len _ 0 n

abbrev pub OneToOne : (ℕ → ℕ) → ℕ → Type 0
OneToOne u n = (i k : ℕ) → i < n → k < n → u k ≡ u i → k ≡ i

pub seen_set : (u : ℕ → ℕ) (n : ℕ) (xs : List Cell) (i : ℕ) (x : Cell) → i < n → u i < length xs → OneToOne u n →
    seen u n (set xs (u i) x) ≡ set (seen u n xs) i x
seen_set u n xs i x h l inj =
    ext_get_or erased _ _ (length_seen u n _ ∙ sym (length-set _ i x ∙ length_seen u n xs)) (λ k b.
    let m : k < n = omega (arith, length_seen u n (set xs (u i) x)) in
    get_or_seen u n _ k m ∙
    ⊎_elim
    (λ e. ap (λ j. get_or (set xs (u i) x) (u j) erased) e ∙ get_or-set_same xs (u i) x erased l
    ∙ sym (ap (λ j. get_or (set (seen u n xs) i x) j erased) e ∙ get_or-set_same (seen u n xs) i x erased (omega (arith, length_seen u n xs))))
    (λ ne. get_or-set_other xs (u i) (u k) x erased (λ e. ne (inj i k h m e))
    ∙ sym (get_or-set_other (seen u n xs) i k x erased ne ∙ get_or_seen u n xs k m))
    (cases_eq k i))

seen_wiped_at : (u : ℕ → ℕ) (n : ℕ) (xs : List Cell) (i m : ℕ) → i + m ≤ n → u i + m ≤ length xs → OneToOne u n →
    ((t : ℕ) → t < m → u (i + t) ≡ u i + t) → (k : ℕ) → k < n → get_or (wiped xs (u i) m) (u k) erased ≡ get_or (wiped (seen u n xs) i m) k erased
seen_wiped_at u n xs i m h l inj run k b =
    let ls = length_seen u n xs in
    ⊎_elim
    (λ in_run.
    let r = run (k - i) (omega arith) in
    let e : i + (k - i) ≡ k = omega arith in
    let r2 : u k ≡ u i + (k - i) = ap u (sym e) ∙ r in
    get_or_wiped_in xs (u i) m (u k) l (omega arith) (omega arith) ∙ sym (get_or_wiped_in (seen u n xs) i m k (omega arith) in_run.0 in_run.1))
    (λ out.
    get_or_wiped_out xs (u i) m (u k) l (λ a z.
    let r = run (u k - u i) (omega arith) in
    let e : u k ≡ u (i + (u k - u i)) = omega arith in
    let q = inj (i + (u k - u i)) k (omega arith) b e in
    out (omega arith) (omega arith))
    ∙ sym (get_or_wiped_out (seen u n xs) i m k (omega arith) out ∙ get_or_seen u n xs k b))
    (in_or_out i m k)

pub seen_wiped : (u : ℕ → ℕ) (n : ℕ) (xs : List Cell) (i m : ℕ) → i + m ≤ n → u i + m ≤ length xs → OneToOne u n →
    ((t : ℕ) → t < m → u (i + t) ≡ u i + t) → seen u n (wiped xs (u i) m) ≡ wiped (seen u n xs) i m
seen_wiped u n xs i m h l inj run =
    let ls = length_seen u n xs in
    let lw = length_wiped (seen u n xs) i m (omega arith) in
    ext_get_or erased _ _ (length_seen u n _ ∙ sym (lw ∙ ls)) (λ k b.
    let b2 : k < n = omega (arith, length_seen u n (wiped xs (u i) m)) in
    get_or_seen u n _ k b2 ∙ seen_wiped_at u n xs i m h l inj run k b2)
