-- `chart_check::keeps` meets its contract: what it returns is what its callees say, and the rules before say that they may be
-- called. Assumes nothing.
use mathlib.Core.Path.{◌≡◌}
use native.Mathlib.Omega.{arith}
use Rattle.chart_check.proofs.Before.{header_then, readable_then, targets_then}
use Rattle.chart_check.proofs.keeps.Goals as goal

pub good_counts-requires : goal.good_counts-requires
good_counts-requires c = header_then c.args.t.now c.args.k c.requires.2 (omega (arith, c.in-1.is))

pub good_layout-requires : goal.good_layout-requires
good_layout-requires c = header_then c.args.t.now c.args.k c.requires.2 (omega (arith, c.in-2.is))

pub invariant_of-good_state : goal.invariant_of-good_state
invariant_of-good_state c = record { readable = readable_then c.args.t.now c.args.k c.requires.2 (omega arith) }

pub invariant_of-good_spans : goal.invariant_of-good_spans
invariant_of-good_spans c = record { readable = readable_then c.args.t.now c.args.k c.requires.2 (omega arith) }

pub invariant_of-good_literal : goal.invariant_of-good_literal
invariant_of-good_literal c = record { readable = readable_then c.args.t.now c.args.k c.requires.2 (omega arith) }

pub invariant_of-good_item : goal.invariant_of-good_item
invariant_of-good_item c = record { readable = readable_then c.args.t.now c.args.k c.requires.2 (omega arith) }

pub invariant_of-good_source : goal.invariant_of-good_source
invariant_of-good_source c = record { readable = readable_then c.args.t.now c.args.k c.requires.2 (omega arith) }

pub invariant_of-good_targets : goal.invariant_of-good_targets
invariant_of-good_targets c = record { readable = readable_then c.args.t.now c.args.k c.requires.2 (omega arith) }

pub good_targets-requires : goal.good_targets-requires
good_targets-requires c =
    let ninth : c.args.k ≡ 8 = omega arith in
    let here = rw ninth at c.requires.1 in
    (here, targets_then c.args.t.now c.args.k c.requires.2 (omega arith) c.args.i here)

pub returns-in-0 : goal.returns-in-0
returns-in-0 c = rw c.in-0.is c.good_form.ensures

pub returns-in-1 : goal.returns-in-1
returns-in-1 c = rw c.in-1.is c.good_counts.ensures

pub returns-in-2 : goal.returns-in-2
returns-in-2 c = rw c.in-2.is c.good_layout.ensures

pub returns-in-3 : goal.returns-in-3
returns-in-3 c = rw c.in-3.is c.good_state.ensures

pub returns-in-4 : goal.returns-in-4
returns-in-4 c = rw c.in-4.is c.good_spans.ensures

pub returns-in-5 : goal.returns-in-5
returns-in-5 c = rw c.in-5.is c.good_literal.ensures

pub returns-in-6 : goal.returns-in-6
returns-in-6 c = rw c.in-6.is c.good_item.ensures

pub returns-in-7 : goal.returns-in-7
returns-in-7 c = rw c.in-7.is c.good_source.ensures

pub returns-in_default : goal.returns-in_default
returns-in_default c =
    let ninth : c.args.k ≡ 8 = omega arith in
    rw ninth c.good_targets.ensures
