-- A table that keeps rules 1 to 3 can be read: its sections follow each other, and the last ends with it. Assumes nothing.
use Prim.Native.Nat.{ℕ}
use mathlib.Core.List.{List}
use native.Mathlib.Omega.{arith}
use Rattle.chart.specs.View.{view}
use Rattle.chart.specs.Readable.{Readable}
use Rattle.chart_head.specs.Rules.{GoodForm, GoodCounts, GoodLayout}

pub readable : {t : List ℕ} → GoodForm t → GoodCounts (view t) → GoodLayout t → Readable t
readable f n l =
    let total = f.total in
    let first = l.states in
    let second = l.transitions in
    let third = l.targets in
    let fourth = l.literals in
    let fifth = l.items in
    let end = l.total in
    record {
      header = f.header;
      some_state = omega (arith, n.states.0);
      states = omega arith;
      transitions = omega arith;
      targets = omega arith;
      literals = omega arith;
      items = omega arith;
    }
