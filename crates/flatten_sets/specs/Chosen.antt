-- Which child of an or-state a transition can enter, as far as the table says.
use Rattle.std.specs.Prelude.{ℕ, Bool, true, cond, eqb}
use Rattle.chart.specs.View.{Chart}
use Rattle.chart_meaning.specs.Entered.{enters_latest, aimed, leads}

-- j is the child towards a target if there is one, else any child if there is history, else the initial child.
abbrev pub can_choose : Chart → ℕ → ℕ → Bool
can_choose c t j =
    let o = c.parent j in
    cond (aimed c t o) (leads c t j) (cond (enters_latest c t o) true (eqb (c.initial o) j))
