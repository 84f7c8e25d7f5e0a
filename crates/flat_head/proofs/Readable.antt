-- A table that keeps rules 11 to 13 can be read: each section ends where the next begins, and the last where the table ends.
-- Assumes nothing.
use Prim.Native.Nat.{ℕ}
use mathlib.Core.List.{List}
use native.Mathlib.Omega.{arith}
use Rattle.flat.specs.View.{flat_view}
use Rattle.flat.specs.Readable.{FlatReadable}
use Rattle.flat_head.specs.Rules.{GoodFlatForm, GoodFlatCounts, GoodFlatLayout}

pub readable : {t : List ℕ} → GoodFlatForm t → GoodFlatCounts (flat_view t) → GoodFlatLayout t → FlatReadable t
readable f n l = record {
  header = f.header;
  machines = omega (arith, f.total, l.states, l.guards, l.literals, l.items, l.rules, l.total);
  states = omega (arith, f.total, l.guards, l.literals, l.items, l.rules, l.total);
  guards = omega (arith, f.total, l.literals, l.items, l.rules, l.total);
  literals = omega (arith, f.total, l.items, l.rules, l.total);
  items = omega (arith, f.total, l.rules, l.total);
  rules = omega (arith, f.total, l.total);
}
