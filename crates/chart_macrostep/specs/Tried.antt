-- A macrostep of a chart that was tried from a lent state.
use Rattle.std.specs.Prelude.{ℕ, ◌≤◌, ◌≡◌, Bool, cond, List, ◌++◌, length, take, drop}
use Rattle.effects.specs.Work.{Going, going, fresh, turns}
use Rattle.effects.specs.declared.Progress.{Progress}
use Rattle.chart.specs.View.{Chart}
use Rattle.chart_meaning.specs.State.{or_states, state_length}
use Rattle.chart_meaning.specs.Steps.{chart_machine, rest}
use Rattle.chart_active.specs.Ors.{Ors}
use Rattle.macrostep.specs.Ends.{told?}

-- Of a chart, `ors` are its or-states, `words` is their number, and the state has its length.
pub record Lent (c : Chart) (ors : List Bool) (words : ℕ) (state : List ℕ) : Type 0 where
  pub ors_are : Ors c ors
  pub number : words ≡ or_states c
  pub few : words ≤ 24
  pub long : length state ≡ state_length c

-- Where the code is after the macrostep for trigger e, from the words and variables of `state`; nothing waits in `queue`.
abbrev pub after_turns : Chart → ℕ → ℕ → List ℕ → List ℕ → List ℕ → Going
after_turns c pairs e state outs queue =
    turns 64 c.events pairs (chart_machine c) e (going fresh (take (or_states c) state) (drop (or_states c) state) outs queue)

-- The progress and the outputs are those; the state is handed back where the macrostep is told, and else as it was.
pub record Tried (c : Chart) (pairs e : ℕ) (state outs queue : List ℕ) (n : Progress) (state' outs' : List ℕ) : Type 0 where
  pub progress : n ≡ (after_turns c pairs e state outs queue).does.n
  pub outs_are : outs' ≡ (after_turns c pairs e state outs queue).does.outs
  pub state_is : state' ≡ cond (told? n (length outs))
      (rest c (after_turns c pairs e state outs queue).words ++ (after_turns c pairs e state outs queue).does.vars) state
