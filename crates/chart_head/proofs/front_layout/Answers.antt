-- `chart_head::front_layout` meets its contract: what it returns is what its callees say. Assumes nothing.
use Rattle.chart_head.proofs.front_layout.Goals as goal

pub returns : goal.returns
returns c =
    rw (
      c.both-2.ensures,
      c.both.ensures,
      c.follows-targets.ensures,
      c.follows-transitions.ensures,
      c.number_in-states.ensures.is,
    )
