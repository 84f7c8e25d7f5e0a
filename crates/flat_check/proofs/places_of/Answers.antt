-- `flat_check::places_of` meets its contract: what it returns is what its callees say. Assumes nothing.
use mathlib.Core.Path.{◌≡◌}
use Rattle.words.proofs.Tests.{past, only}
use borrow.Author.Rules.{rules}
use Rattle.flat_check.proofs.places_of.Goals as goal

pub returns-in-3 : goal.returns-in-3
returns-in-3 c = record { is = rw c.in-3.is cc; small = search rules }

pub returns-in-4 : goal.returns-in-4
returns-in-4 c = record { is = rw c.in-4.is c.number-in-4.ensures.is; small = search rules }

pub returns-in-5 : goal.returns-in-5
returns-in-5 c = record { is = rw c.in-5.is c.number-in-5.ensures.is; small = search rules }

pub returns-in-6 : goal.returns-in-6
returns-in-6 c = record { is = rw c.in-6.is c.number-in-6.ensures.is; small = search rules }

pub returns-in_default : goal.returns-in_default
returns-in_default c =
    let n = c.in_default.in_default-own.rest in
    let few = n.0.0.0 in
    let four = past _ 3 (past _ 2 (past _ 1 (past _ 0 (search rules) few.0.0.0.1) few.0.0.1) few.0.1) few.1 in
    let seven = past _ 6 (past _ 5 (past _ 4 four n.0.0.1) n.0.1) n.1 in
    let z : c.args.k ≡ 7 = only _ 7 seven c.requires in
    record { is = rw z c.number-in_default.ensures.is; small = search rules }
