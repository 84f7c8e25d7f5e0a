-- `flat_head::good_form` meets its contract: what it returns is what its callees say. Assumes nothing.
use Rattle.flat_head.specs.Tests.{good_flat_form?}
use Rattle.flat_head.proofs.good_form.Goals as goal

pub returns : goal.returns
unfolding good_flat_form?
returns c =
    rw (
      c.both-2.ensures,
      c.both.ensures,
      c.number-2.ensures.is,
      c.number.ensures.is,
    )
