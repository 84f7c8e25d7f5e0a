-- The answer is that of `olivrescum::flatten`, whose numbers are told. Assumes nothing.
use Rattle.capi.proofs.Answers.{answered}
use Rattle.capi.proofs.olivrescum_flatten.Goals as goal

pub returns : goal.returns
returns c =
    let call = c.flatten in
    answered call.result call.ensures c.from.ensures (c.tell.ensures.numbered, c.tell.ensures.written)
