-- `table::flat_refusal` meets its contract: what it returns is what its callees say. Assumes nothing.
use Rattle.words.proofs.Tests.{past, only}
use mathlib.Core.Path.{◌≡◌, refl}
use native.Mathlib.Omega.{arith}
use Rattle.table.proofs.flat_refusal.Goals as goal

pub returns-in-11 : goal.returns-in-11
returns-in-11 c =
    let z : c.args.place ≡ 0 = c.requires.3 (omega (arith, c.in-11.is)) in
    rw (c.in-11.is, z) refl

pub returns-in-12 : goal.returns-in-12
returns-in-12 c =
    let z : c.args.place ≡ 0 = c.requires.3 (omega (arith, c.in-12.is)) in
    rw (c.in-12.is, z) refl

pub returns-in-13 : goal.returns-in-13
returns-in-13 c =
    let z : c.args.place ≡ 0 = c.requires.3 (omega (arith, c.in-13.is)) in
    rw (c.in-13.is, z) refl

pub returns-in-14 : goal.returns-in-14
returns-in-14 c = rw c.in-14.is refl

pub returns-in-15 : goal.returns-in-15
returns-in-15 c = rw c.in-15.is refl

pub returns-in-16 : goal.returns-in-16
returns-in-16 c = rw c.in-16.is refl

pub returns-in-17 : goal.returns-in-17
returns-in-17 c = rw c.in-17.is refl

pub returns-in_default : goal.returns-in_default
returns-in_default c =
    let n = c.in_default.in_default-own.rest in
    let low = past _ 17 (past _ 16 (past _ 15 (past _ 14 (past _ 13 (past _ 12 (past _ 11 c.requires.0 n.0.0.0.0.0.0.1) n.0.0.0.0.0.1) n.0.0.0.0.1) n.0.0.0.1) n.0.0.1) n.0.1) n.1 in
    let z : c.args.rule ≡ 18 = only _ 18 low c.requires.1 in
    rw z refl
