-- `chart_macrostep::go` meets its contract: what is left to do is to go on from the words, variables, outputs and queue so far.
-- Assumes nothing.
use Prim.Native.Nat.{◌+◌, ◌-◌}
use mathlib.Core.Path.{◌≡◌, sym, ap, ◌∙◌}
use native.Mathlib.Omega.{arith}
use Rattle.effects.specs.declared.Progress.{Progress}
use Rattle.effects.specs.Work.{going}
use Rattle.chart.specs.Shown.{shown}
use Rattle.chart_rules.proofs.Readable.{chart_readable}
use Rattle.chart_meaning.specs.Steps.{chart_machine}
use Rattle.macrostep.proofs.Turns.{ends, goes_on, runs_out}
use Rattle.chart_macrostep.proofs.go.Goals as goal

pub word_in-events-requires : goal.word_in-events-requires
word_in-events-requires c = omega (arith, (chart_readable c.args.t.rules).header)

pub returns-then-has_ended : goal.returns-then-has_ended
returns-then-has_ended c =
    let s = c.args in
    let l = c.loop in
    let f = shown s.t.table in
    sym (l.invariant.4 ∙ ends f.events s.pairs (chart_machine f) (64 - l.counter) l.e.0 l.m _ _ l.next l.vars l.outs l.queue
    _ _ _ _ (omega arith) c.run-m.ensures c.one_more-m.ensures (sym c.has_ended.ensures ∙ c.if-has_ended.true))

pub loop-preserved : goal.loop-preserved
loop-preserved c =
    let s = c.args in
    let l = c.loop in
    let f = shown s.t.table in
    let one_less : 64 - (l.counter + 1) ≡ 64 - l.counter - 1 = omega arith in (
      c.next-1.given ∙ l.invariant.0,
      c.vars-1.given ∙ l.invariant.1,
      c.outs-1.given ∙ l.invariant.2,
      c.queue-1.given ∙ l.invariant.3,
      rw one_less (l.invariant.4 ∙ goes_on f.events s.pairs (chart_machine f) (64 - l.counter) l.e.0 l.m _ _ l.next l.vars l.outs l.queue
          _ _ _ _ (omega arith) c.run-m.ensures c.one_more-m.ensures (sym c.has_ended.ensures ∙ c.if-has_ended.false) _ _
          c.word_in-events.ensures c.oldest-e.ensures _ c.one_more-m-in-loop.ensures),
    )

pub returns : goal.returns
returns c =
    let s = c.args in
    let l = c.loop in
    let f = shown s.t.table in
    ap (λ (p : Progress). going p l.next l.vars l.outs l.queue) c.stop_at.ensures
    ∙ sym (l.invariant.4 ∙ runs_out f.events s.pairs (chart_machine f) (64 - l.counter) l.e.0
    (going l.m l.next l.vars l.outs l.queue) (omega arith))
