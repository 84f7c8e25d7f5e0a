-- `chart::Table::are_apart` meets its contract: what it returns is what its callees say. Assumes nothing.
use Rattle.chart.specs.Tree.{apart}
use Rattle.chart.proofs.Table.are_apart.Goals as goal

pub returns : goal.returns
unfolding apart
returns c =
    rw (
      c.both-2.ensures,
      c.both.ensures,
      c.is_and.ensures,
      c.meeting_of-m.ensures.is,
    )
