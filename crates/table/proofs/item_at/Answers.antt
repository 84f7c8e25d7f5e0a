-- `table::item_at` meets its contract: what it returns is what its callees say. Assumes nothing.
use Rattle.table.proofs.item_at.Goals as goal

pub returns : goal.returns
returns c =
    rw (
      c.item_of.ensures,
      c.word_in.ensures,
      c.word_in-2.ensures,
      c.word_in-3.ensures,
    )
