-- Each test tells its rule, and the list gives it its number and places. Assumes nothing.
use Prim.Native.Nat.{ℕ}
use mathlib.Core.Path.{refl}
use mathlib.Core.List.{List}
use Rattle.words.proofs.Tells.{iff}
use Rattle.flat.specs.View.{flat_view}
use Rattle.flat_head.proofs.Told.{form, counts, layout}
use Rattle.flat_rules.proofs.Told.{at_machine, at_state, span, guard, item, rule}
use Rattle.flat_check.specs.RuleByRule.{FlatRulesNumbered}

pub numbered : (t : List ℕ) → FlatRulesNumbered t
numbered t =
    let f = flat_view t in
    record {
      eight = refl;
      form = iff (form t);
      form_places = refl;
      counts = iff (counts f);
      counts_places = refl;
      layout = iff (layout t);
      layout_places = refl;
      machines = λ m h. iff (at_machine f m h);
      states = λ j h. iff (at_state f j);
      machine_places = refl;
      spans = λ k h. iff (span f k);
      span_places = refl;
      guards = λ k h. iff (guard f k);
      guard_places = refl;
      items = λ i h. iff (item f i);
      item_places = refl;
      rules = λ k h. iff (rule f k);
      rule_places = refl;
    }
