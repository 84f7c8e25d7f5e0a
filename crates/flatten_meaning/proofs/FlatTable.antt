-- The words that flattening writes are the flat table of the chart. Assumes nothing.
use Prim.Native.Nat.{ℕ, ◌<◌}
use mathlib.Core.Path.{◌≡◌, ap, ◌∙◌}
use mathlib.Core.Bool.{false, not}
use mathlib.Core.List.{List}
use native.Mathlib.Omega.{arith}
use Rattle.words.proofs.Tests.{eqb_yes, eqb_no}
use Rattle.words.proofs.Ranks.{rank_lt}
use Rattle.chart.specs.View.{view, is_and}
use Rattle.chart_rules.specs.Rules.{ChartRules}
use Rattle.chart_meaning.specs.Active.{is_or, or_rank}
use Rattle.chart_meaning.specs.State.{or_states}
use Rattle.flat.specs.View.{flat_view}
use Rattle.flatten_meaning.specs.Flattened.{flattened}
use Rattle.flatten_meaning.specs.Encoded.{encode}
use Rattle.flatten_meaning.specs.FlatTable.{FlatTableOf}
use Rattle.flatten_meaning.proofs.Encoded.{shows}
use Rattle.flatten_meaning.proofs.Machines.{machines_are, states_are, and_lt, owner_at, initial_at}
use Rattle.flatten_meaning.proofs.Bounds.{guards_bound_lem, literals_bound_lem, rules_bound_lem}
use Rattle.flatten_meaning.proofs.Kept.{flat_accepted}
use Rattle.flatten_meaning.proofs.Agreement.{agree_from_start}

pub flat_table_of : {t : List ℕ} → ChartRules t → FlatTableOf t (encode (flattened (view t)))
unfolding flattened or_rank or_states
flat_table_of {t} r =
    let c = view t in
    let f = flat_view (encode (flattened c)) in
    let s = shows (flattened c) in
    let or_lt : (o : ℕ) → o < c.states → is_and c o ≡ false → or_rank c o < or_states c =
    λ o h a. rank_lt (is_or c) c.states o h (ap not a) in
    record {
      accepted = flat_accepted r;
      events = s.events;
      signals = s.signals;
      outputs = s.outputs;
      variables = s.variables;
      machines = s.machines ∙ machines_are c;
      states = s.states ∙ states_are c;
      initials = λ o h a.
          let e = eqb_no a in
          s.initial (or_rank c o) (omega (arith, or_lt o h e, machines_are c)) ∙ initial_at c o h e;
      owners = λ j h a.
          let e = eqb_yes a in
          s.machine _ (omega (arith, and_lt c j h e, states_are c)) ∙ owner_at c j h e;
      guards = omega (arith, s.guards, guards_bound_lem c);
      literals = omega (arith, s.literals, literals_bound_lem c);
      rules = omega (arith, s.rules, rules_bound_lem c);
      agrees = agree_from_start r;
    }
