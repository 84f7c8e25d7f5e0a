-- `flat_check::keeps` meets its contract: what it returns is what its callees say, and the rules before say that they may be
-- called. Assumes nothing.
use mathlib.Core.Path.{◌≡◌}
use native.Mathlib.Omega.{arith}
use Rattle.flat_check.proofs.Before.{header_then, readable_then, span_then}
use Rattle.flat_check.proofs.keeps.Goals as goal

pub good_counts-requires : goal.good_counts-requires
good_counts-requires c = header_then c.args.t.now c.args.k c.requires.2 (omega arith)

pub good_layout-requires : goal.good_layout-requires
good_layout-requires c = header_then c.args.t.now c.args.k c.requires.2 (omega arith)

pub invariant_of-good_machines : goal.invariant_of-good_machines
invariant_of-good_machines c = record { readable = readable_then c.args.t.now c.args.k c.requires.2 (omega arith) }

pub invariant_of-good_span : goal.invariant_of-good_span
invariant_of-good_span c = record { readable = readable_then c.args.t.now c.args.k c.requires.2 (omega arith) }

pub invariant_of-good_guard : goal.invariant_of-good_guard
invariant_of-good_guard c = record { readable = readable_then c.args.t.now c.args.k c.requires.2 (omega arith) }

pub good_guard-requires : goal.good_guard-requires
good_guard-requires c =
    let here = rw c.in-5.is at c.requires.1 in
    (here, span_then c.args.t.now c.args.k c.requires.2 (omega arith) c.args.i here)

pub invariant_of-good_item : goal.invariant_of-good_item
invariant_of-good_item c = record { readable = readable_then c.args.t.now c.args.k c.requires.2 (omega arith) }

pub invariant_of-good_rule : goal.invariant_of-good_rule
invariant_of-good_rule c = record { readable = readable_then c.args.t.now c.args.k c.requires.2 (omega arith) }

pub returns-in-2 : goal.returns-in-2
returns-in-2 c = rw c.in-2.is c.good_layout.ensures

pub returns-in-3 : goal.returns-in-3
returns-in-3 c = rw c.in-3.is c.good_machines.ensures

pub returns-in-5 : goal.returns-in-5
returns-in-5 c = rw c.in-5.is c.good_guard.ensures

pub returns-in_default : goal.returns-in_default
returns-in_default c =
    let seven : c.args.k ≡ 7 = omega arith in
    rw seven c.good_rule.ensures
