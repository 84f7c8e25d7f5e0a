-- An answer is determined by its number and place, a run's by its numbers, and a refusal leaves the room as it was. Assumes nothing.
use mathlib.Core.Path.{◌≡◌, sym, ap, ◌∙◌}
use mathlib.Core.List.{List}
use Rattle.std.specs.Prelude.{⊤, Result}
use Rattle.table.specs.declared.Refusal.{Refusal}
use Prim.Native.Nat.{ℕ}
use Rattle.table.proofs.Answers.{told_once}
use Rattle.effects.specs.Lent.{Started, start_told}
use Rattle.chart_engine.proofs.Answers.{ran_once}
use Rattle.flat_engine.proofs.Answers.{flat_ran_once}
use Rattle.olivrescum.proofs.Flattened as Flattened
use Rattle.olivrescum.proofs.theorems.determinate.Goals as goal

-- two starts that leave the same
started_once : (a b : Result ⊤ Refusal) (x y : List ℕ) {s : Started} → start_told a x ≡ s → start_told b y ≡ s → (a ≡ b) × (x ≡ y)
started_once a b x y p q =
    let e : start_told a x ≡ start_told b y = p ∙ sym q in
    (told_once a b (ap (λ (s : Started). s.answer) e), ap (λ (s : Started). s.state) e)

pub returns : goal.returns
returns c = record {
  check_chart = λ t a b p q. told_once a b (p.answered ∙ sym q.answered);
  start_chart = λ chart state a b x y p q. started_once a b x y p.answered q.answered;
  run_chart = λ chart state event outputs a b x y v w p q. ran_once a b x y v w (p.answered ∙ sym q.answered);
  flatten = Flattened.determinate;
  check_flat = λ t a b p q. told_once a b (p.answered ∙ sym q.answered);
  start_flat = λ flat state a b x y p q. started_once a b x y p.answered q.answered;
  run_flat = λ flat state event outputs a b x y v w p q. flat_ran_once a b x y v w (p.answered ∙ sym q.answered);
}
