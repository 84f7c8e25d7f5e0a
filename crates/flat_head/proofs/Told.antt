-- Each test of specs/Tests.antt tells its rule of specs/Rules.antt. Assumes nothing.
use Prim.Native.Nat.{ℕ}
use mathlib.Core.List.{List}
use lib.ListN.{length}
use Rattle.words.proofs.Tells.{Tells, eq, le, said, ◌and◌}
use Rattle.table.proofs.Headers.{between, follow}
use Rattle.table.specs.Layout.{at}
use Rattle.flat.specs.View.{Flat}
use Rattle.flat_head.specs.Rules.{GoodFlatForm, GoodFlatCounts, GoodFlatLayout}
use Rattle.flat_head.specs.Tests.{good_flat_form?, good_flat_counts?, good_flat_layout?}

-- ---- rule 11
pub form : (t : List ℕ) → Tells (good_flat_form? t) (GoodFlatForm t)
unfolding good_flat_form?
form t =
    said (le 18 (length t) and eq (at t 0) 2 and eq (at t 1) (length t))
    (λ r. record { header = r.0; form = r.1.0; total = r.1.1 })
    (λ g. (g.header, (g.form, g.total)))

-- ---- rule 12
pub counts : (f : Flat) → Tells (good_flat_counts? f) (GoodFlatCounts f)
unfolding good_flat_counts?
counts f =
    said
    ((between 1 24 f.machines and between 1 47 f.states and between 1 32 f.events)
    and (between 0 32 f.signals and between 0 64 f.outputs and between 0 16 f.variables)
    and (between 0 2351 f.guards and between 0 6166 f.literals)
    and between 0 512 f.items and between 0 4560 f.rules)
    (λ r. record {
      machines = r.0.0;
      states = r.0.1.0;
      events = r.0.1.1;
      signals = r.1.0.0;
      outputs = r.1.0.1.0;
      variables = r.1.0.1.1;
      guards = r.1.1.0.0;
      literals = r.1.1.0.1;
      items = r.1.1.1.0;
      rules = r.1.1.1.1;
    })
    (λ g. (
      (g.machines, (g.states, g.events)),
      ((g.signals, (g.outputs, g.variables)), ((g.guards, g.literals), (g.items, g.rules))),
    ))

-- ---- rule 13
pub layout : (t : List ℕ) → Tells (good_flat_layout? t) (GoodFlatLayout t)
unfolding good_flat_layout?
layout t =
    said
    ((eq (at t 12) 18 and follow t 13 12 1 2 and follow t 14 13 1 3)
    and (follow t 15 14 2 8 and follow t 16 15 3 9) and follow t 17 16 3 10 and follow t 1 17 6 11)
    (λ r. record {
      machines = r.0.0;
      states = r.0.1.0;
      guards = r.0.1.1;
      literals = r.1.0.0;
      items = r.1.0.1;
      rules = r.1.1.0;
      total = r.1.1.1;
    })
    (λ g. (
      (g.machines, (g.states, g.guards)),
      ((g.literals, g.items), (g.rules, g.total)),
    ))
