-- `table::chart_refusal` meets its contract: what it returns is what its callees say. Assumes nothing.
use Rattle.words.proofs.Tests.{past, only}
use mathlib.Core.Path.{◌≡◌, refl}
use native.Mathlib.Omega.{arith}
use Rattle.table.proofs.chart_refusal.Goals as goal

pub returns-in-1 : goal.returns-in-1
returns-in-1 c =
    let z : c.args.place ≡ 0 = c.requires.3 (omega (arith, c.in-1.is)) in
    rw (c.in-1.is, z) refl

pub returns-in-2 : goal.returns-in-2
returns-in-2 c =
    let z : c.args.place ≡ 0 = c.requires.3 (omega (arith, c.in-2.is)) in
    rw (c.in-2.is, z) refl

pub returns-in-3 : goal.returns-in-3
returns-in-3 c =
    let z : c.args.place ≡ 0 = c.requires.3 (omega (arith, c.in-3.is)) in
    rw (c.in-3.is, z) refl

pub returns-in-4 : goal.returns-in-4
returns-in-4 c = rw c.in-4.is refl

pub returns-in-5 : goal.returns-in-5
returns-in-5 c = rw c.in-5.is refl

pub returns-in-6 : goal.returns-in-6
returns-in-6 c = rw c.in-6.is refl

pub returns-in-7 : goal.returns-in-7
returns-in-7 c = rw c.in-7.is refl

pub returns-in-8 : goal.returns-in-8
returns-in-8 c = rw c.in-8.is refl

pub returns-in_default : goal.returns-in_default
returns-in_default c =
    let n = c.in_default.in_default-own.rest in
    let low = past _ 8 (past _ 7 (past _ 6 (past _ 5 (past _ 4 (past _ 3 (past _ 2 (past _ 1 c.requires.0 n.0.0.0.0.0.0.0.1) n.0.0.0.0.0.0.1) n.0.0.0.0.0.1) n.0.0.0.0.1) n.0.0.0.1) n.0.0.1) n.0.1) n.1 in
    let z : c.args.rule ≡ 9 = only _ 9 low c.requires.1 in
    rw z refl
