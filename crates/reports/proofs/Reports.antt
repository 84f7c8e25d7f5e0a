-- Eight words set one after the other are a report written. Assumes nothing.
use Prim.Native.Nat.{ℕ}
use mathlib.Core.Path.{◌≡◌, refl}
use mathlib.Core.List.{List, [], ◌∷◌}
use lib.ListN.{set}
use Rattle.reports.specs.declared.Said.{Said}
use Rattle.reports.specs.Said.{report_of, reported}

module _ (s : Said) where
  abbrev pub filled : List ℕ → List ℕ
  filled l =
      let a = set l 0 s.place in
      let b = set a 1 s.microsteps in
      let c = set b 2 s.taken in
      let d = set c 3 s.left in
      let e = set d 4 s.entered in
      let f = set e 5 s.fired in
      let g = set f 6 s.outputs in
      set g 7 s.words

  -- by the number of words that are lent
  pub filled_reports : (l : List ℕ) → filled l ≡ reported (report_of s) l
  unfolding reported
  filled_reports [] = refl
  filled_reports (a ∷ []) = refl
  filled_reports (a ∷ b ∷ []) = refl
  filled_reports (a ∷ b ∷ c ∷ []) = refl
  filled_reports (a ∷ b ∷ c ∷ d ∷ []) = refl
  filled_reports (a ∷ b ∷ c ∷ d ∷ e ∷ []) = refl
  filled_reports (a ∷ b ∷ c ∷ d ∷ e ∷ f ∷ []) = refl
  filled_reports (a ∷ b ∷ c ∷ d ∷ e ∷ f ∷ g ∷ []) = refl
  filled_reports (a ∷ b ∷ c ∷ d ∷ e ∷ f ∷ g ∷ h ∷ l) = refl
