-- `flatten::sizes_of` meets its contract: a guard has two words, a rule six. Assumes nothing.
use mathlib.Core.Path.{◌∙◌, sym}
use native.Mathlib.Omega.{arith}
use Rattle.chart.specs.View.{view}
use Rattle.chart_meaning.proofs.Tree.{tree}
use Rattle.flatten_meaning.proofs.Machines.{machines_are, states_are}
use Rattle.flatten_meaning.proofs.Bounds.{or_few, and_few}
use Rattle.flatten.proofs.Written.{guards_counted, rules_counted, guards_most, literals_most, rules_most}
use Rattle.flatten.proofs.sizes_of.Goals as goal

pub overflow_cast-result : goal.overflow_cast-result
overflow_cast-result c = record { fits = omega (arith, or_few (tree c.args.t.rules)) }

pub overflow_cast-result-2 : goal.overflow_cast-result-2
overflow_cast-result-2 c = record { fits = omega (arith, and_few (tree c.args.t.rules)) }

pub overflow_cast-result-3 : goal.overflow_cast-result-3
overflow_cast-result-3 c =
    let counted = guards_counted (view c.args.t.table.words.now) c.lay_guards-guards.ensures.pen in
    record { fits = omega (arith, counted.0, guards_most c.args.t.rules) }

pub overflow_cast-result-4 : goal.overflow_cast-result-4
overflow_cast-result-4 c =
    let counted = guards_counted (view c.args.t.table.words.now) c.lay_guards-guards.ensures.pen in
    record { fits = omega (arith, counted.1, literals_most c.args.t.rules) }

pub overflow_cast-result-5 : goal.overflow_cast-result-5
overflow_cast-result-5 c =
    let counted = rules_counted (view c.args.t.table.words.now) c.lay_rules-rules.ensures.next in
    record { fits = omega (arith, counted, rules_most c.args.t.rules) }

pub returns : goal.returns
returns c =
    let v = view c.args.t.table.words.now in
    let guards = guards_counted v c.lay_guards-guards.ensures.pen in
    let rules = rules_counted v c.lay_rules-rules.ensures.next in
    record {
      machines_are = c.requires.1 ∙ sym (machines_are v);
      states_are = c.requires.2 ∙ sym (states_are v);
      guards_are = omega (arith, guards.0);
      literals_are = guards.1;
      rules_are = omega (arith, rules);
    }
