-- What the check's answer and the room make of a call. Assumes nothing.
use Rattle.std.specs.Prelude.{⊤, Result, Ok, Err}
use Prim.Native.Nat.{ℕ, ◌<◌}
use mathlib.Core.Path.{◌≡◌, refl, sym, ap, ◌∙◌}
use mathlib.Core.Bool.{cond}
use mathlib.Core.List.{List}
use lib.ListN.{length}
use lib.Dec.{ltb}
use Rattle.words.proofs.Tests.{ltb_yes}
use Rattle.table.specs.Answers.{told, refusal_told}
use Rattle.table.specs.declared.Refusal.{Refusal}
use Rattle.table.specs.declared.Refusal.TheVariants.{Room}
use Rattle.chart.specs.View.{view}
use Rattle.chart_rules.specs.Rules.{ChartRules}
use Rattle.chart_check.specs.Answer.{chart_answer}
use Rattle.chart_check.proofs.Exact.{exact}
use Rattle.effects.proofs.Calls.{call_refused}
use Rattle.flatten_meaning.specs.Room.{room_needed}
use Rattle.flatten.specs.Wrote.{flatten_answer, Wrote, refuses}

-- ---- what the check's answer v makes of a call
module _ (t : List ℕ) (v : Result ⊤ Refusal) (e : told v ≡ chart_answer t) where
  pub accepted : v ≡ Ok tt → ChartRules t
  accepted h = (exact t).0 (sym e ∙ ap told h)

  pub chart_refused : (room : List ℕ) (r : Refusal) → v ≡ Err r → Wrote t room (Err r) room
  unfolding flatten_answer
  chart_refused room r h =
      let goes_on = cond (ltb (length room) (room_needed (view t))) (refusal_told Room) (0, 0) in
      refuses (sym (call_refused (chart_answer t) goes_on (λ a. a) v e r h))

-- ---- a room that is too small
pub room_refused : (t room : List ℕ) → ChartRules t → length room < room_needed (view t) → Wrote t room (Err Room) room
unfolding flatten_answer
room_refused t room r h =
    refuses {r = Room} (rw ((exact t).1 r, ltb_yes (length room) (room_needed (view t)) h) refl)
