-- `flatten_laying::put_words` meets its contract: what is to be laid is to be laid by the words left. Assumes nothing.
use Prim.Native.Nat.{ℕ, ◌+◌}
use mathlib.Core.Path.{sym, ap, ◌∙◌}
use lib.ListN.{get_or, set}
use Rattle.flatten_laying.proofs.Lay.{lay_next, lay_last}
use Rattle.flatten_laying.proofs.put_words.Goals as goal

pub loop-i-preserved : goal.loop-i-preserved
loop-i-preserved c =
    let s = c.args in
    let l = c.loop-i in
    let f : ℕ → ℕ = λ k. get_or s.t.now k 0 in
    let put = c.put.ensures ∙ ap (set l.room (s.at + l.i)) c.word.ensures in
    l.invariant ∙ lay_next f s.at s.from l.i s.count l.room c.loop-i-test.true put

pub returns-clause-room : goal.returns-clause-room
returns-clause-room c =
    let s = c.args in
    let l = c.loop-i in
    let f : ℕ → ℕ = λ k. get_or s.t.now k 0 in
    sym (l.invariant ∙ lay_last f s.at s.from l.i s.count l.room c.loop-i-test.false)
