-- Two outcomes of a call on the same words with the same answer have the same number and report; of flattenings, those with
-- the same number and place. Assumes nothing.
use Rattle.std.specs.Prelude.{Result, Ok, Err}
use Prim.Native.Nat.{ℕ}
use mathlib.Core.Path.{◌≡◌, refl, sym, ap, ◌∙◌}
use mathlib.Core.Logic.{◌≢◌}
use mathlib.Core.List.{List, [], ◌∷◌}
use lib.ListN.{set}
use Rattle.table.specs.Answers.{told}
use Rattle.table.specs.declared.Refusal.{Refusal}
use Rattle.answers.specs.Parts.{table_words_of}
use Rattle.reports.specs.declared.Said.{Said}
use Rattle.reports.specs.Said.{flatten_said, report_of, reported}
use Rattle.capi.specs.Calls.{Answered}

module _ {A : Type 0} {P Q : A → Type 0} {said : A → Said} {before : List ℕ} {m n : ℕ} {x y : List ℕ} where
  pub once : (p : Answered A P said before m x) (q : Answered A Q said before n y) → p.answer ≡ q.answer → (m ≡ n) × (x ≡ y)
  once p q e = (
    p.numbered ∙ ap (λ (a : A). (said a).number) e ∙ sym q.numbered,
    p.written ∙ ap (λ (a : A). reported (report_of (said a)) before) e ∙ sym q.written,
  )

-- ---- flattenings
-- reports that differ in word 7 alone
all_but_7 : (p : ℕ) (v w : ℕ) (l : List ℕ)
    → set (reported (p ∷ 0 ∷ 0 ∷ 0 ∷ 0 ∷ 0 ∷ 0 ∷ v ∷ []) l) 7 0 ≡ set (reported (p ∷ 0 ∷ 0 ∷ 0 ∷ 0 ∷ 0 ∷ 0 ∷ w ∷ []) l) 7 0
unfolding reported
all_but_7 p v w [] = refl
all_but_7 p v w (a ∷ []) = refl
all_but_7 p v w (a ∷ b ∷ []) = refl
all_but_7 p v w (a ∷ b ∷ c ∷ []) = refl
all_but_7 p v w (a ∷ b ∷ c ∷ d ∷ []) = refl
all_but_7 p v w (a ∷ b ∷ c ∷ d ∷ e ∷ []) = refl
all_but_7 p v w (a ∷ b ∷ c ∷ d ∷ e ∷ f ∷ []) = refl
all_but_7 p v w (a ∷ b ∷ c ∷ d ∷ e ∷ f ∷ g ∷ []) = refl
all_but_7 p v w (a ∷ b ∷ c ∷ d ∷ e ∷ f ∷ g ∷ h ∷ l) = refl

-- what is said of a flattening but its words
abbrev place_of : ℕ × ℕ → ℕ → Said
place_of t w = record { number = t.0; place = t.1; microsteps = 0; taken = 0; left = 0; entered = 0; fired = 0; outputs = 0; words = w }

module _ {P Q : Result ℕ Refusal → Type 0} {before : List ℕ} {m n : ℕ} {x y : List ℕ}
    (p : Answered (Result ℕ Refusal) P flatten_said before m x) (q : Answered (Result ℕ Refusal) Q flatten_said before n y)
    (same : told p.answer ≡ told q.answer) where
  pub flatten_number : m ≡ n
  flatten_number = p.numbered ∙ ap (λ (t : ℕ × ℕ). t.0) same ∙ sym q.numbered

  pub flatten_report : set x 7 0 ≡ set y 7 0
  flatten_report =
      ap (λ (l : List ℕ). set l 7 0) p.written
      ∙ all_but_7 (told p.answer).1 (table_words_of p.answer) (table_words_of q.answer) before
      ∙ ap (λ (t : ℕ × ℕ). set (reported (report_of (place_of t (table_words_of q.answer))) before) 7 0) same
      ∙ ap (λ (l : List ℕ). set l 7 0) (sym q.written)

-- a flattening whose number is not 0 is refused
pub refused-by {ℓ} : {X : Type ℓ} (a : Result ℕ Refusal) {m : ℕ} → m ≡ (flatten_said a).number → m ≢ 0 → ((r : Refusal) → a ≡ Err r → X) → X
refused-by (Ok n) e h f = absurd (h e)
refused-by (Err r) e h f = f r refl
