-- A chart that keeps the rules and the words of its flat table answer alike, from the start and from any two states that
-- agree, however many events come. Assumes nothing.
use Prim.Native.Nat.{ℕ}
use mathlib.Core.Path.{◌≡◌, refl, sym, ap, ap₂, ◌∙◌, subst}
use mathlib.Core.Bool.{true, cond}
use mathlib.Core.List.{List, [], ◌∷◌, ◌++◌}
use native.Mathlib.Nat.{le_refl}
use native.Mathlib.Omega.{arith}
use lib.ListN.{length}
use lib.Seq.{take_at, drop_at}
use lib.Dec.{eqb, ltb}
use Rattle.words.proofs.Tests.{by_bool}
use Rattle.table.specs.declared.Refusal.TheVariants.{NoEvent}
use Rattle.effects.specs.Run.{Result, refuse, Env, written, Machine, St, macrostep}
use Rattle.effects.specs.Lent.{pairs_for, zeros}
use Rattle.effects.proofs.Keeps.{Holds, done, refused}
use Rattle.chart.specs.View.{Chart, view}
use Rattle.chart_rules.specs.Rules.{ChartRules}
use Rattle.chart_check.specs.Answer.{chart_answer}
use Rattle.chart_check.proofs.Exact.{exact}
use Rattle.flat.specs.View.{Flat, flat_view}
use Rattle.flat_check.specs.Answer.{flat_answer}
use Rattle.chart_meaning.specs.Steps.{chart_machine, rest}
use Rattle.chart_meaning.specs.State.{or_states, words_of, vars_of, state_of?, start_words, start_state}
use Rattle.chart_meaning.specs.Calls.{finished, ran_on, ran_accepted, run_chart}
use Rattle.chart_meaning.proofs.Tree.{tree}
use Rattle.chart_meaning.proofs.State.{state_children, start_length, start_is_state}
use Rattle.chart_meaning.proofs.Rest.{rest_length}
use Rattle.chart_meaning.proofs.Run.{run_leaves_state}
use Rattle.flat_meaning.specs.Steps.{flat_machine}
use Rattle.flat_meaning.specs.State.{flat_words_of, flat_vars_of, flat_state_of?, flat_start_words, flat_start_state}
use Rattle.flat_meaning.specs.Calls.{flat_finished, flat_ran_on, flat_ran_accepted, run_flat}
use Rattle.flat_meaning.proofs.State.{state_owned, start_owned, flat_start_is_state}
use Rattle.flat_meaning.proofs.Run.{RunKept, run_kept, flat_run_leaves_state}
use Rattle.flatten_meaning.specs.Tables.{table_machine}
use Rattle.flatten_meaning.specs.Flattened.{flattened}
use Rattle.flatten_meaning.specs.Encoded.{header, encode}
use Rattle.flatten_meaning.specs.Agreement.{SameState, SameAnswer, Call, Agreeing, AgreeFromStart}
use Rattle.flatten_meaning.specs.States.{Agreed}
use Rattle.flatten_meaning.specs.Simulation.{Both, both_ok, both_refuse, Like, Sim}
use Rattle.flatten_meaning.proofs.Encoded.{start_back}
use Rattle.flatten_meaning.proofs.Machine.{machine_back}
use Rattle.flatten_meaning.proofs.Asked.{literals_kept}
use Rattle.flatten_meaning.proofs.Kept.{flat_rules_lem, flat_accepted}
use Rattle.flatten_meaning.proofs.Simulated.{sim_told, sim_start, sim_rest, one_event}
use Rattle.flatten_meaning.proofs.Agreeing.{sim_made, sim_active}

module _ {t : List ℕ} (r : ChartRules t) where
  abbrev c : Chart
  c = view t

  abbrev flat : List ℕ
  flat = encode (flattened c)

  abbrev f : Flat
  f = flat_view flat

  -- ---- states that agree, and words that do
  agreed_words : {state flat-state : List ℕ} → Agreed t flat state flat-state
      → Sim c (words_of c state) (flat_words_of f flat-state)
  agreed_words {state} {flat-state} a =
      sim_made (tree r) (words_of c state) (flat_words_of f flat-state) (state_children (tree r) state a.a_state)
      (state_owned f flat-state a.a_flat_state) a.same.latest_children

  shown : (state flat-state : List ℕ) → Sim c (words_of c state) (flat_words_of f flat-state)
      → vars_of c state ≡ flat_vars_of f flat-state
      → SameState c state (flat_words_of f flat-state) (flat_vars_of f flat-state)
  shown state flat-state s e = record {
    variables = e;
    active_states = λ j h. sim_active (tree r) (words_of c state) (flat_words_of f flat-state) s j;
    latest_children = sim_told (words_of c state) (flat_words_of f flat-state) s;
  }

  -- states made of words that agree, and of variables
  made : (x y vars flat-vars : List ℕ) → length x ≡ or_states c → length y ≡ f.machines
      → state_of? c (x ++ vars) ≡ true → flat_state_of? f (y ++ flat-vars) ≡ true → Sim c x y → vars ≡ flat-vars
      → Agreed t flat (x ++ vars) (y ++ flat-vars)
  made x y vars flat-vars l m a b s e = record {
    a_state = a;
    a_flat_state = b;
    same =
        shown (x ++ vars) (y ++ flat-vars)
        (rw (take_at x vars (or_states c) l, take_at y flat-vars f.machines m) s)
        (drop_at x vars (or_states c) l ∙ e ∙ sym (drop_at y flat-vars f.machines m));
  }

  -- ---- the start
  pub agreed_start : Agreed t (encode (flattened (view t))) (start_state c) (flat_start_state f)
  unfolding start_state flat_start_state encode header flattened
  agreed_start =
      made (start_words c) (flat_start_words f) (zeros c.variables) (zeros f.variables) (start_length (tree r))
      (start_owned f (flat_rules_lem r).machines).long (start_is_state t r) (flat_start_is_state flat (flat_rules_lem r))
      (rw (start_back (flattened c)) (sim_start (tree r))) refl

  -- ---- one event
  chart_accepted : eqb (chart_answer t).0 0 ≡ true
  chart_accepted = rw ((exact t).1 r) refl

  table_accepted : eqb (flat_answer flat).0 0 ≡ true
  table_accepted = rw (flat_accepted r) refl

  machine_is : flat_machine f ≡ table_machine (flattened c)
  machine_is = λ i e words vars. machine_back (flattened c) (flat_rules_lem r) e words vars i

  module _ (state flat-state : List ℕ) (agreed : Agreed t flat state flat-state) (event : ℕ) (lent : List ℕ) where
    abbrev pairs : ℕ
    pairs = pairs_for (length lent)

    -- the macrosteps of both
    abbrev chart_done : Result St
    chart_done = macrostep c.events pairs (chart_machine c) event (words_of c state) (vars_of c state)

    abbrev flat_done : Result St
    flat_done = macrostep f.events pairs (flat_machine f) event (flat_words_of f flat-state) (flat_vars_of f flat-state)

    both_done : Both (Like (Sim c)) chart_done flat_done
    unfolding encode header flattened
    both_done =
        let vars = vars_of c state in
        let flat_words_lem = flat_words_of f flat-state in
        let run : Machine → List ℕ → Result St = λ m. macrostep c.events pairs m event flat_words_lem in
        let same : run (table_machine (flattened c)) vars ≡ flat_done =
        ap₂ run (sym machine_is) agreed.same.variables in
        subst (Both (Like (Sim c)) chart_done) same
        (one_event (tree r) (literals_kept r) pairs event (words_of c state) flat_words_lem vars (agreed_words agreed))

    -- 20 is as a macrostep that refuses
    abbrev chart_gives : Result St
    chart_gives = cond (ltb event c.events) chart_done (refuse NoEvent)

    abbrev flat_gives : Result St
    flat_gives = cond (ltb event f.events) flat_done (refuse NoEvent)

    chart_run : run_chart t state event lent ≡ finished c chart_gives state lent
    unfolding run_chart ran_accepted ran_on
    chart_run =
        by_bool (ltb event c.events) (λ b. rw (chart_accepted, agreed.a_state, b) refl)
        (λ b. rw (chart_accepted, agreed.a_state, b) refl)

    flat_run : run_flat flat flat-state event lent ≡ flat_finished flat_gives flat-state lent
    unfolding run_flat flat_ran_accepted flat_ran_on
    flat_run =
        by_bool (ltb event f.events) (λ b. rw (table_accepted, agreed.a_flat_state, b) refl)
        (λ b. rw (table_accepted, agreed.a_flat_state, b) refl)

    both_give : Both (Like (Sim c)) chart_gives flat_gives
    unfolding encode header flattened
    both_give = by_bool (ltb event c.events) (λ b. rw b both_done) (λ b. rw b both_refuse)

    flat_kept : Holds (RunKept f) flat_gives
    flat_kept =
        by_bool (ltb event f.events)
        (λ b. rw b (run_kept f (flat_rules_lem r).rules flat-state agreed.a_flat_state event pairs)) (λ b. rw b refused)

    left_agreed : {x y : Result St} → Both (Like (Sim c)) x y → Holds (RunKept f) y
        → state_of? c (finished c x state lent).state ≡ true
        → flat_state_of? f (flat_finished y flat-state lent).state ≡ true
        → Agreed t flat (finished c x state lent).state (flat_finished y flat-state lent).state
    left_agreed (both_ok {a = s} {b = s'} l) (done k) p q =
        made (rest c s.words) s'.words s.env.vars s'.env.vars (rest_length c s.words)
        k.words.long p q (sim_rest (tree r) s.words s'.words l.words) (ap (λ (v : Env). v.vars) l.env)
    left_agreed both_refuse k p q = agreed

    answers_same : {x y : Result St} → Both (Like (Sim c)) x y
        → Agreed t flat (finished c x state lent).state (flat_finished y flat-state lent).state
        → SameAnswer t flat (finished c x state lent) (flat_finished y flat-state lent)
    answers_same (both_ok {a = s} {b = s'} l) left = record {
      answer = refl;
      microsteps = l.micro;
      given = ap (λ (v : Env). length v.outs) l.env;
      outputs = ap (λ (v : Env). written 0 v.outs lent) l.env;
      states = left.same;
      fired = omega (arith, l.fired);
    }
    answers_same both_refuse left = record {
      answer = refl;
      microsteps = refl;
      given = refl;
      outputs = refl;
      states = left.same;
      fired = le_refl 0;
    }

    -- both answer alike, and leave states that agree
    pub one_call : SameAnswer t flat (run_chart t state event lent) (run_flat flat flat-state event lent)
        × Agreed t flat (run_chart t state event lent).state (run_flat flat flat-state event lent).state
    one_call =
        let p = rw chart_run at (run_leaves_state t r state agreed.a_state event lent) in
        let q = rw flat_run at (flat_run_leaves_state flat (flat_rules_lem r) flat-state agreed.a_flat_state event lent) in
        let left = left_agreed both_give flat_kept p q in
        rw (chart_run, flat_run) (answers_same both_give left, left)

  -- ---- one event after another
  pub agree_from : (state flat-state : List ℕ) → Agreed t (encode (flattened (view t))) state flat-state
      → (calls : List Call) → Agreeing t (encode (flattened (view t))) state flat-state calls
  agree_from state flat-state agreed [] = tt
  agree_from state flat-state agreed (call ∷ calls) =
      let now = one_call state flat-state agreed call.event call.lent in (
        now.0,
        agree_from (run_chart t state call.event call.lent).state
            (run_flat (encode (flattened (view t))) flat-state call.event call.lent).state now.1 calls,
      )

  pub agree_from_start : AgreeFromStart t (encode (flattened (view t)))
  agree_from_start = agree_from _ _ agreed_start
