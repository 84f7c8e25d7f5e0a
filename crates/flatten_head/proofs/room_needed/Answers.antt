-- `flatten_head::room_needed` meets its contract: the three bounds are worked out from the chart's counts. Assumes nothing.
use Rattle.chart.specs.View.{view}
use Rattle.flatten_head.proofs.Sections.{room_is}
use Rattle.flatten_head.proofs.room_needed.Goals as goal

pub returns : goal.returns
returns c =
    room_is (view c.args.t.table.words.now) c.number.ensures.is c.number-k.ensures.is
    c.and_states-a.ensures.is c.product-both.ensures.is c.asked_literals.ensures.is
    c.pairs_of.ensures.is c.number-items.ensures.is
