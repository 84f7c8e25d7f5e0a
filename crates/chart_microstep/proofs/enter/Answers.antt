-- `chart_microstep::enter` meets its contract: what it returns is what its callees say. Assumes nothing.
use mathlib.Core.Path.{sym, ◌∙◌}
use Rattle.chart.specs.View.{view}
use Rattle.chart_microstep.proofs.Fires.{enters_same, entered_parent}
use Rattle.chart_microstep.proofs.enter.Goals as goal

pub enter_all-requires : goal.enter_all-requires
enter_all-requires c =
    let s = c.args in
    let pre = c.requires in
    let rules = c.args.t.rules in (
      pre.0,
      λ j e. entered_parent s.t.table.words.now rules s.next.now s.k j (sym (c.entered_set-entered.ensures j) ∙ e),
    )

pub returns : goal.returns
returns c =
    let s = c.args in
    let v = view s.t.table.words.now in
    enters_same v s.pairs _ _ _ _ c.entered_set-entered.ensures c.enter_all.ensures
