-- Each test of specs/Tests.antt tells its rule of specs/Rules.antt. Assumes nothing.
use Prim.Native.Nat.{ℕ}
use mathlib.Core.List.{List}
use lib.ListN.{length}
use Rattle.words.proofs.Tells.{Tells, eq, le, said, ◌and◌}
use Rattle.table.proofs.Headers.{between, follow}
use Rattle.table.specs.Layout.{at}
use Rattle.chart.specs.View.{Chart}
use Rattle.chart_head.specs.Rules.{GoodForm, GoodCounts, GoodLayout}
use Rattle.chart_head.specs.Tests.{good_form?, good_counts?, good_layout?}

-- ---- rule 1
pub form : (t : List ℕ) → Tells (good_form? t) (GoodForm t)
unfolding good_form?
form t =
    said (le 16 (length t) and eq (at t 0) 1 and eq (at t 1) (length t))
    (λ r. record { header = r.0; form = r.1.0; total = r.1.1 })
    (λ g. (g.header, (g.form, g.total)))

-- ---- rule 2
pub counts : (c : Chart) → Tells (good_counts? c) (GoodCounts c)
unfolding good_counts?
counts c =
    said
    ((between 2 48 c.states and between 0 48 c.transitions and between 1 32 c.events)
    and (between 0 32 c.signals and between 0 64 c.outputs and between 0 16 c.variables)
    and between 0 192 c.targets and between 0 192 c.literals and between 0 512 c.items)
    (λ r. record {
      states = r.0.0;
      transitions = r.0.1.0;
      events = r.0.1.1;
      signals = r.1.0.0;
      outputs = r.1.0.1.0;
      variables = r.1.0.1.1;
      targets = r.1.1.0;
      literals = r.1.1.1.0;
      items = r.1.1.1.1;
    })
    (λ g. (
      (g.states, (g.transitions, g.events)),
      ((g.signals, (g.outputs, g.variables)), (g.targets, (g.literals, g.items))),
    ))

-- ---- rule 3
pub layout : (t : List ℕ) → Tells (good_layout? t) (GoodLayout t)
unfolding good_layout?
layout t =
    said
    ((eq (at t 11) 16 and follow t 12 11 7 2 and follow t 13 12 8 3)
    and follow t 14 13 1 8 and follow t 15 14 3 9 and follow t 1 15 3 10)
    (λ r. record {
      states = r.0.0;
      transitions = r.0.1.0;
      targets = r.0.1.1;
      literals = r.1.0;
      items = r.1.1.0;
      total = r.1.1.1;
    })
    (λ g. ((g.states, (g.transitions, g.targets)), (g.literals, (g.items, g.total))))
