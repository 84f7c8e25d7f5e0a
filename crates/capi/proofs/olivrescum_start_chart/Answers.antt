-- The answer is that of `olivrescum::start_chart`, whose numbers are told. Assumes nothing.
use Rattle.capi.proofs.Answers.{answered}
use Rattle.capi.proofs.olivrescum_start_chart.Goals as goal

pub returns : goal.returns
returns c =
    let call = c.start_chart in
    answered call.result call.ensures c.from.ensures (c.tell.ensures.numbered, c.tell.ensures.written)
