-- `flatten::lay_table` meets its contract: the heading is laid, and behind it the other sections. Assumes nothing.
use mathlib.Core.Path.{sym, ◌∙◌}
use Rattle.chart.specs.View.{view}
use Rattle.flatten_meaning.specs.Flattened.{flattened}
use Rattle.flatten_meaning.proofs.Turns.{entered_first}
use Rattle.flatten_laying.proofs.Laid.{laid_both, laid_as}
use Rattle.flatten.proofs.Written.{encode_is, encode_long, encode_end, heading_end, heading_laid}
use Rattle.flatten.proofs.lay_table.Goals as goal

pub sizes_of-sizes-requires : goal.sizes_of-sizes-requires
sizes_of-sizes-requires c = (
  record {
    asked_are = c.asked_set-asked.ensures;
    ands_are = c.and_ranks-states.ensures.ranks;
    actives_are = c.active_numbers-guards.ensures.numbers;
    takens_are = c.taken_numbers-first.ensures.numbers;
    first_is = c.taken_numbers-first.ensures.is ∙ sym (entered_first (view c.args.t.table.words.now));
  },
  c.or_ranks-machines.ensures.is,
  c.and_ranks-states.ensures.is,
)

pub lay_sections-requires : goal.lay_sections-requires
lay_sections-requires c = (
  record {
    asked_are = c.asked_set-asked.ensures;
    ands_are = c.and_ranks-states.ensures.ranks;
    actives_are = c.active_numbers-guards.ensures.numbers;
    takens_are = c.taken_numbers-first.ensures.numbers;
    first_is = c.taken_numbers-first.ensures.is ∙ sym (entered_first (view c.args.t.table.words.now));
  },
  heading_end c.args.t.rules c.lay_heading-at.ensures.next,
)

pub overflow_cast-result : goal.overflow_cast-result
overflow_cast-result c =
    let g = flattened (view c.args.t.table.words.now) in
    let long = encode_long g c.lay_heading-at.ensures.next c.lay_sections.ensures.next in
    record { fits = encode_end c.args.t.rules long }

pub returns : goal.returns
returns c =
    let g = flattened (view c.args.t.table.words.now) in
    let a = c.lay_heading-at.ensures in
    let b = c.lay_sections.ensures in
    let all =
    laid_as (encode_is g)
    (laid_both (heading_laid g c.args.room.now a.next a.room) (record { place = b.next; laid = b.room })) in
    record { long = encode_long g a.next b.next; room = all.laid }
