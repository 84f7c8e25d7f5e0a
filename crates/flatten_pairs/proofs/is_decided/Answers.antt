-- `flatten_pairs::is_decided` meets its contract: what it returns is what its callees say. Assumes nothing.
use mathlib.Core.Path.{ap, ap₂, ◌∙◌}
use mathlib.Core.Bool.{Bool, not, ◌&&◌}
use Rattle.chart.specs.View.{view}
use Rattle.chart_meaning.specs.Entered.{keeps_word, enters_latest, aimed}
use Rattle.flatten_meaning.specs.Flattened.{decides}
use Rattle.flatten_pairs.proofs.is_decided.Goals as goal

pub returns : goal.returns
unfolding decides enters_latest
returns c =
    let s = c.args in
    let v = view s.t.table.words.now in
    let o = c.state_word-o.ensures.is in
    let aims = c.is_aimed.ensures ∙ ap (aimed v s.k) o in
    c.both.ensures
    ∙ ap₂ (λ (x y : Bool). not x && y) aims (c.keeps_word.ensures ∙ ap (keeps_word v) o)
