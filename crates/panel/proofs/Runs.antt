-- A run erased line by line.
use Rattle.std.proofs.Common.{◌≡◌, ℕ, ◌+◌, ◌-◌, ◌*◌, ◌/◌, ◌%◌, ◌^◌, ◌<◌, ◌≤◌, min, max, sym, ap, ◌∙◌, arith}
use Rattle.std.proofs.lemmas.Nat.{mod-mul-add, mul-le}
use Rattle.std.proofs.lemmas.Grind.{div_ceil_times}
use Rattle.std.specs.Int.{div_ceil}
use Rattle.panel.specs.Grids.{with_cells, InLine}
use Rattle.panel.specs.Screens.{Screen, Sound, with_grid, wipe_on}
use Rattle.panel.proofs.Places.{columns_some}
use Rattle.panel.proofs.Wiped.{wiped_wiped}

-- where a run stands that is erased up to a line, counted from 0
abbrev pub up_to : (columns at count line : ℕ) → ℕ
up_to columns at count line = min (at + count) (max at (line * columns))

-- a line that a run goes over
pub record Turn (columns at end line : ℕ) : Type 0 where
  pub low : 0 < columns
  pub start : line * columns < end
  pub end_past : at < (line + 1) * columns
  pub next : (line + 1) * columns < 2 ^ 64

module _ (s : Screen) (h : Sound s) (at count : ℕ) (some : 0 < count) (low : at + count ≤ s.grid.lines * s.grid.columns) (columns : ℕ) (w : columns ≡ s.grid.columns) where
  pub columns_low : 0 < columns
  columns_low = let p = columns_some s.grid.lines s.grid.columns at (omega arith) in omega arith

  pub turn : (line dc : ℕ) → dc ≡ div_ceil (at + count) columns → at / columns ≤ line → line < dc → Turn columns at (at + count) line
  turn line dc i a b =
      let p = columns_low in
      let e = div_ceil_times (at + count) columns p in
      let d : dc * columns < at + count + columns = rw i (e.1) in
      let m : (line + 1) * columns ≤ dc * columns = mul-le (line + 1) columns dc columns (omega arith) (omega arith) in
      let n : (at / columns + 1) * columns ≤ (line + 1) * columns = mul-le (at / columns + 1) columns (line + 1) columns (omega arith) (omega arith) in
      let tall = h.tall in
      let wide = h.wide in
      let all : s.grid.lines * s.grid.columns ≤ 65535 * 65535 = mul-le s.grid.lines s.grid.columns 65535 65535 (omega arith) (omega arith) in
      record { low = p; start = omega arith; end_past = omega arith; next = omega arith }

  pub turn_last : (line dc : ℕ) → dc ≡ div_ceil (at + count) columns → dc ≤ line → up_to columns at count line - at ≡ count
  turn_last line dc i l =
      let e = div_ceil_times (at + count) columns columns_low in
      let d : at + count ≤ dc * columns = rw i (e.0) in
      let m : dc * columns ≤ line * columns = mul-le dc columns line columns l (omega arith) in
      omega arith

  -- the part of the run in one line
  module _ (line : ℕ) (q : Turn columns at (at + count) line) (from to : ℕ) (ef : from ≡ max at (line * columns)) (et : to ≡ min (at + count) ((line + 1) * columns)) where
    pub turn_some : from < to
    turn_some = let a = q.start in let b = q.end_past in let p = q.low in omega arith

    pub turn_in_line : (t : Screen) (k : ℕ) → t ≡ wipe_on s at k → InLine t.grid from (to - from)
    turn_in_line t k e =
        let a = turn_some in
        let m : ((line * columns) + (from - line * columns)) % columns ≡ from - line * columns = mod-mul-add line columns (from - line * columns) (omega arith) in
        let j : line * columns + (from - line * columns) ≡ from = omega arith in
        let n : from % columns ≡ from - line * columns = ap (λ z. z % columns) (sym j) ∙ m in
        let v : from % s.grid.columns ≡ from - line * columns = ap (λ z. from % z) (sym w) ∙ n in
        rw e (record { some = omega arith; line = omega arith; low = omega arith })

    pub turn_next : (t r : Screen) → t ≡ wipe_on s at (up_to columns at count line - at) → r ≡ wipe_on t from (to - from) → r ≡ wipe_on s at (up_to columns at count (line + 1) - at)
    turn_next t r e d =
        let count_all = h.count in
        let a = turn_some in
        let b = q.end_past in
        let k = up_to columns at count line - at in
        let i : at + (up_to columns at count line - at) ≡ from = omega arith in
        let z : (up_to columns at count line - at) + (to - from) ≡ up_to columns at count (line + 1) - at = omega arith in
        d ∙ ap (λ v. wipe_on v from (to - from)) e
        ∙ ap (λ v. wipe_on (wipe_on s at k) v (to - from)) (sym i)
        ∙ ap (λ ys. with_grid s (with_cells s.grid ys)) (wiped_wiped s.grid.cells at k (to - from) (omega arith))
        ∙ ap (wipe_on s at) z
