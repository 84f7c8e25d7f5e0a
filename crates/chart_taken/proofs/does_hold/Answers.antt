-- `chart_taken::does_hold` meets its contract: in each arm what is returned is what its callees say. Assumes nothing.
use Rattle.chart_meaning.specs.Taken.{holds}
use Rattle.chart_taken.proofs.does_hold.Goals as goal

pub returns-in-Active : goal.returns-in-Active
unfolding holds
returns-in-Active c = rw (c.in-Active.is, c.has.ensures, c.wide.ensures.is)

pub returns-in-NotActive : goal.returns-in-NotActive
unfolding holds
returns-in-NotActive c = rw (c.in-NotActive.is, c.has-in-NotActive.ensures, c.wide-in-NotActive.ensures.is)

pub returns-in-AtLeast : goal.returns-in-AtLeast
unfolding holds
returns-in-AtLeast c =
    let literal = c.in-AtLeast.is in
    rw (literal, c.is_below.ensures, c.word.ensures, c.wide-in-AtLeast.ensures.is)

pub returns-in-Less : goal.returns-in-Less
unfolding holds
returns-in-Less c =
    let literal = c.in-Less.is in
    rw (literal, c.is_below-in-Less.ensures, c.word-in-Less.ensures, c.wide-in-Less.ensures.is)
