-- The stops of a picture, set in order on a page without stops.
use Rattle.std.proofs.Common.{◌≡◌, ℕ, ◌+◌, ◌<◌, ◌≤◌, Bool, true, false, List, [], ◌∷◌, ◌++◌, length, set, replicate, sym, ap, ◌∙◌, subst, subst₂, append_assoc, arith, length-append}
use Rattle.reader.specs.Functions.{Function}
use Rattle.page.specs.Sheets.{Sheet}
use Rattle.picture.specs.Pictures.{stops_from}
use Rattle.picture.specs.Writable.{Each}
use Rattle.picture.proofs.Drawing.{acts, acts_append}
use Rattle.picture.proofs.CellsDrawn.{fill}

-- `shows fs q`: the sheet q has the flags fs, and is otherwise as wanted; each flag that is set is written by `at`
module _ (Shows : List Bool → Sheet → Type 0) (at : ℕ → List Function) (n : ℕ)
    (sets : (k : ℕ) (fs : List Bool) (q : Sheet) → k < n → Shows fs q → Shows (set fs k true) (acts q (at (k + 1)))) where
  pub flags : (fs done : List Bool) (k : ℕ) (q : Sheet) → k ≡ length done → k + length fs ≤ n → Shows (done ++ replicate (length fs) false) q
      → Shows (done ++ fs) (acts q (stops_from at (k + 1) fs))
  unfolding acts stops_from
  flags [] done k q ek fits s = s
  flags (false ∷ fs) done k q ek fits s =
      rw append_assoc at (flags fs (done ++ (false ∷ [])) (k + 1) q (omega (arith, length-append done (false ∷ []))) (omega arith) (rw (append_assoc done (false ∷ []) (replicate (length fs) false)) s))
  flags (true ∷ fs) done k q ek fits s =
      let rep = replicate (length fs) false in
      let is : set (done ++ (false ∷ rep)) k true ≡ (done ++ (true ∷ [])) ++ rep = ap (λ j. set (done ++ (false ∷ rep)) j true) ek ∙ fill done false true rep ∙ sym (append_assoc done (true ∷ []) rep) in
      subst₂ Shows (append_assoc done (true ∷ []) fs) (sym (acts_append q (at (k + 1)) (stops_from at (k + 1 + 1) fs)))
      (flags fs (done ++ (true ∷ [])) (k + 1) (acts q (at (k + 1))) (omega (arith, length-append done (true ∷ []))) (omega arith) (subst (λ l. Shows l (acts q (at (k + 1)))) is (sets k _ q (omega arith) s)))

module _ (P : Function → Type 0) where
  pub each_append : (fs gs : List Function) → Each P fs → Each P gs → Each P (fs ++ gs)
  each_append [] gs a b = b
  each_append (f ∷ fs) gs a b = (a.0, each_append fs gs a.1 b)

  pub each_flag : (at : ℕ → List Function) (n : ℕ) → ((k : ℕ) → k ≤ n → Each P (at k)) → (fs : List Bool) (k : ℕ) → k + length fs ≤ n + 1 → Each P (stops_from at k fs)
  unfolding stops_from
  each_flag at n w [] k fits = tt
  each_flag at n w (false ∷ fs) k fits = each_flag at n w fs (k + 1) (omega arith)
  each_flag at n w (true ∷ fs) k fits = each_append (at k) _ (w k (omega arith)) (each_flag at n w fs (k + 1) (omega arith))
