-- `flatten_head::lay_items` meets its contract: the items' words stand in the chart one behind the other. Assumes nothing.
use Rattle.flatten_head.proofs.Sections.{items_laid}
use Rattle.flatten_head.proofs.lay_items.Goals as goal

pub returns : goal.returns
returns c =
    let s = c.args in
    let first = c.number-first in
    let count = c.number-count in
    let laid =
    items_laid s.t.now s.at first.result count.result first.ensures.is count.ensures.is
    c.put_words.ensures.next c.put_words.ensures.room in
    record { next = laid.place; room = laid.laid }
