-- `effects::run_span` meets its contract: what it returns is what its callees say. Assumes nothing.
use Rattle.effects.proofs.Items.{span_items_lem, span_fits}
use Rattle.effects.proofs.run_span.Goals as goal

pub run_items-requires : goal.run_items-requires
run_items-requires c =
    span_fits c.args.t.now c.args.base c.args.at _ _ _
    c.number_in.ensures.is c.number_in-2.ensures.is c.number_in-count.ensures.is c.requires

pub returns : goal.returns
returns c =
    let s = c.args in
    rw
    (← span_items_lem s.t.now s.base s.at _ _ _
    c.number_in.ensures.is c.number_in-2.ensures.is c.number_in-count.ensures.is)
    c.run_items.ensures

pub number_in-requires : goal.number_in-requires
number_in-requires c = c.requires.base_in

pub number_in-count-requires : goal.number_in-count-requires
number_in-count-requires c = c.requires.span_in
