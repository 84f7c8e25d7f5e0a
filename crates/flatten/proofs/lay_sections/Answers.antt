-- `flatten::lay_sections` meets its contract: each section is laid where the one before it ends. Assumes nothing.
use native.Mathlib.Omega.{arith}
use Rattle.chart.specs.View.{view}
use Rattle.flatten_laying.proofs.Laid.{laid_both}
use Rattle.flatten.specs.Numbers.{sections}
use Rattle.flatten.proofs.Written.{spans_laid, literals_laid, spans_end, literals_end, items_most}
use Rattle.flatten.proofs.lay_sections.Goals as goal

pub lay_guards-literals-requires : goal.lay_guards-literals-requires
lay_guards-literals-requires c =
    let p = c.requires in
    let n = p.0 in
    let end = spans_end c.args.t.rules p.1 c.lay_guards-spans.ensures.pen in
    (n.asked_are, n.ands_are, n.actives_are, n.takens_are, n.first_is, omega arith, omega arith)

pub lay_items-rules-requires : goal.lay_items-rules-requires
lay_items-rules-requires c =
    let p = c.requires in
    let end = spans_end c.args.t.rules p.1 c.lay_guards-spans.ensures.pen in
    let last = literals_end c.args.t.rules end c.lay_guards-literals.ensures.pen in
    omega arith

pub lay_rules-requires : goal.lay_rules-requires
lay_rules-requires c =
    let p = c.requires in
    let n = p.0 in
    let end = spans_end c.args.t.rules p.1 c.lay_guards-spans.ensures.pen in
    let last = literals_end c.args.t.rules end c.lay_guards-literals.ensures.pen in
    let few = items_most c.args.t.rules in
    (n.ands_are, n.actives_are, n.takens_are, n.first_is, omega (arith, c.lay_items-rules.ensures.next))

pub returns : goal.returns
unfolding sections
returns c =
    let v = view c.args.t.table.words.now in
    let a = c.lay_guards-spans.ensures in
    let b = c.lay_guards-literals.ensures in
    let d = c.lay_items-rules.ensures in
    let e = c.lay_rules.ensures in
    let all =
    laid_both (spans_laid v c.args.room.now a.pen a.room)
    (laid_both (literals_laid v _ b.pen b.room)
    (laid_both (record { place = d.next; laid = d.room }) (record { place = e.next; laid = e.room }))) in
    record { next = all.place; room = all.laid }
