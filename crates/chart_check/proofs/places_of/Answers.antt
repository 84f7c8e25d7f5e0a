-- `chart_check::places_of` meets its contract: what it returns is what its callees say. Assumes nothing.
use Prim.Native.Nat.{ℕ, ◌+◌, ◌<◌}
use mathlib.Core.Path.{◌≡◌}
use native.Mathlib.Omega.{arith}
use lib.Dec.{lit<}
use Rattle.words.proofs.Tests.{past, only}
use borrow.Author.Rules.{rules}
use Rattle.chart_check.proofs.places_of.Goals as goal

-- words are small, and so is the sum of two
below : {n : ℕ} → n < 65536 → n < 200000
below h = omega arith

sum_below_lem : {m n : ℕ} → m < 65536 → n < 65536 → m + n < 200000
sum_below_lem g h = omega arith

pub returns-in-3 : goal.returns-in-3
returns-in-3 c = record { is = rw c.in-3.is c.number.ensures.is; small = below c.number.ensures.small }

pub returns-in-4 : goal.returns-in-4
returns-in-4 c =
    let states = c.number-in-4.ensures in
    let transitions = c.number-in-4-2.ensures in
    record { is = rw (c.in-4.is, states.is, transitions.is); small = sum_below_lem states.small transitions.small }

pub returns-in-5 : goal.returns-in-5
returns-in-5 c = record { is = rw c.in-5.is c.number-in-5.ensures.is; small = below c.number-in-5.ensures.small }

pub returns-in-6 : goal.returns-in-6
returns-in-6 c = record { is = rw c.in-6.is c.number-in-6.ensures.is; small = below c.number-in-6.ensures.small }

pub returns-in-7 : goal.returns-in-7
returns-in-7 c = record { is = rw c.in-7.is c.number-in-7.ensures.is; small = below c.number-in-7.ensures.small }

pub returns-in_default : goal.returns-in_default
returns-in_default c =
    let n = c.in_default.in_default-own.rest in
    let low = past _ 7 (past _ 6 (past _ 5 (past _ 4 (past _ 3 (past _ 2 (past _ 1 (past _ 0 (search rules) n.0.0.0.0.0.0.0.1) n.0.0.0.0.0.0.1) n.0.0.0.0.0.1) n.0.0.0.0.1) n.0.0.0.1) n.0.0.1) n.0.1) n.1 in
    let z : c.args.k ≡ 8 = only _ 8 low c.requires in
    record { is = rw z c.number-in_default.ensures.is; small = below c.number-in_default.ensures.small }

pub returns-in-0 : goal.returns-in-0
returns-in-0 c = record { is = rw c.in-0.is; small = lit< tt }

pub returns-in-1 : goal.returns-in-1
returns-in-1 c = record { is = rw c.in-1.is; small = lit< tt }

pub returns-in-2 : goal.returns-in-2
returns-in-2 c = record { is = rw c.in-2.is; small = lit< tt }
