-- What a run leaves of a state is a state. Assumes nothing.
use Prim.Native.Nat.{ℕ}
use mathlib.Core.Path.{◌≡◌}
use mathlib.Core.Bool.{true}
use mathlib.Core.List.{List}
use native.Mathlib.Omega.{arith}
use lib.ListN.{length, length-drop}
use lib.Dec.{eqb, ltb}
use Rattle.words.proofs.Tests.{by_bool}
use Rattle.effects.specs.Run.{Result, ok, refuse, St, macrostep}
use Rattle.chart.specs.View.{Chart, view}
use Rattle.chart_check.specs.Answer.{chart_answer}
use Rattle.chart_meaning.specs.Steps.{chart_machine, rest}
use Rattle.chart_meaning.specs.State.{or_states, state_length, words_of, vars_of, state_of?}
use Rattle.effects.specs.Lent.{pairs_for}
use Rattle.chart_meaning.specs.Calls.{ran_on, ran_accepted, finished, run_chart}
use Rattle.chart_meaning.specs.Theorems.{Children, RunLeavesState}
use Rattle.chart_meaning.proofs.Tree.{Tree, tree}
use Rattle.chart_meaning.proofs.State.{state_children, state_length_lem, state_made}
use Rattle.chart_meaning.proofs.Sets.{microstep_children}
use Rattle.chart_meaning.proofs.Rest.{rest_length, rest_good}
use Rattle.effects.proofs.Keeps.{Holds, done, refused, Kept, macrostep_keeps}

-- what a macrostep from a state keeps
abbrev pub RunKept : Chart → St → Type 0
RunKept c = Kept (Children c) c.variables

module _ {c : Chart} (w : Tree c) (state : List ℕ) (s : state_of? c state ≡ true) where
  pub vars_length : length (vars_of c state) ≡ c.variables
  unfolding state_length
  vars_length = omega (arith, length-drop (or_states c) state, state_length_lem w state s)

  pub run_kept : (e pairs : ℕ)
      → Holds (RunKept c) (macrostep c.events pairs (chart_machine c) e (words_of c state) (vars_of c state))
  run_kept e pairs =
      macrostep_keeps (Children c) c.variables c.events pairs (chart_machine c) (microstep_children c w) e
      (words_of c state) (vars_of c state) (state_children w state s) vars_length

  finish : (r : Result St) (outputs : List ℕ) → Holds (RunKept c) r → state_of? c (finished c r state outputs).state ≡ true
  finish (ok v) outputs (done k) =
      let words = v.words in
      state_made w (rest c words) v.env.vars (rest_length c words) k.vars (rest_good w words k.words)
  finish (refuse r) outputs refused = s

pub run_leaves_state : RunLeavesState
unfolding run_chart ran_accepted ran_on
run_leaves_state chart r state s event outputs =
    let c = view chart in
    by_bool (eqb (chart_answer chart).0 0)
    (λ a. by_bool (ltb event c.events)
    (λ b. rw (a, s, b) (finish (tree r) state s _ outputs (run_kept (tree r) state s event (pairs_for (length outputs)))))
    (λ b. rw (a, s, b) s))
    (λ a. rw a s)
