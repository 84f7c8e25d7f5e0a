-- A call that gives an answer, returns its number and writes its report is answered. Assumes nothing.
use Prim.Native.Nat.{ℕ}
use mathlib.Core.Path.{◌≡◌, ap, ◌∙◌}
use mathlib.Core.List.{List}
use Rattle.reports.specs.declared.Said.{Said}
use Rattle.reports.specs.Said.{report_of, reported}
use Rattle.capi.specs.Calls.{Answered}

module _ {A : Type 0} {promise : A → Type 0} {said : A → Said} {before : List ℕ} {number : ℕ} {after : List ℕ} where
  pub answered : (a : A) → promise a → {s : Said} → s ≡ said a
      → (number ≡ s.number) × (after ≡ reported (report_of s) before) → Answered A promise said before number after
  answered a p e told = record {
    answer = a;
    promised = p;
    numbered = told.0 ∙ ap (λ (x : Said). x.number) e;
    written = told.1 ∙ ap (λ (x : Said). reported (report_of x) before) e;
  }
