-- The answer is that of `olivrescum::run_chart`, whose numbers are told. Assumes nothing.
use Rattle.capi.proofs.Answers.{answered}
use Rattle.capi.proofs.olivrescum_run_chart.Goals as goal

pub returns : goal.returns
returns c =
    let call = c.run_chart in
    answered call.result call.ensures c.from.ensures (c.tell.ensures.numbered, c.tell.ensures.written)
