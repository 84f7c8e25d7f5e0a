-- Each test tells its rule, and the list gives it its number and places. Assumes nothing.
use Prim.Native.Nat.{ℕ}
use mathlib.Core.Path.{refl}
use mathlib.Core.List.{List}
use Rattle.words.proofs.Tells.{iff}
use Rattle.chart.specs.View.{view}
use Rattle.chart_head.proofs.Told.{form, counts, layout}
use Rattle.chart_rules.proofs.Told.{state, at_state, at_transition, literal, item, source, targets}
use Rattle.chart_check.specs.RuleByRule.{RulesNumbered}

pub numbered : (t : List ℕ) → RulesNumbered t
numbered t =
    let c = view t in
    record {
      nine = refl;
      form = iff (form t);
      form_places = refl;
      counts = iff (counts c);
      counts_places = refl;
      layout = iff (layout t);
      layout_places = refl;
      tree = λ k h. iff (state c k);
      tree_places = refl;
      state_spans = λ k h. iff (at_state c k h);
      transition_spans = λ k h. iff (at_transition c k);
      span_places = refl;
      literals = λ i h. iff (literal c i);
      literal_places = refl;
      items = λ i h. iff (item c i);
      item_places = refl;
      sources = λ k h. iff (source c k);
      source_places = refl;
      targets = λ g places k h. iff (targets c g places k);
      target_places = refl;
    }
