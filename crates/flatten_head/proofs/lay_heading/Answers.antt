-- `flatten_head::lay_heading` meets its contract: each section is laid where the one before it ends. Assumes nothing.
use native.Mathlib.Omega.{arith}
use Rattle.chart.specs.View.{view}
use Rattle.flatten_meaning.specs.Flattened.{flattened}
use Rattle.flatten_head.specs.Sizes.{heading}
use Rattle.flatten_laying.proofs.Laid.{laid_both}
use Rattle.flatten_head.proofs.Sections.{header_end, initials_few}
use Rattle.flatten_head.proofs.lay_heading.Goals as goal

pub lay_owners-requires : goal.lay_owners-requires
lay_owners-requires c =
    let rules = c.args.t.rules in
    let v = view c.args.t.table.words.now in
    (c.requires.0, omega (arith, initials_few v, rules.counts.states.1))

pub returns : goal.returns
unfolding heading
returns c =
    let g = flattened (view c.args.t.table.words.now) in
    let a = c.lay_initials-states.ensures in
    let b = c.lay_owners.ensures in
    let all = laid_both (header_end g c.args.room.now c.lay_header.ensures) (laid_both a b) in
    record { next = omega (arith, all.place); room = all.laid }
