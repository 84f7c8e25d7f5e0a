-- How a chart table is answered: 01's numbers 1 to 9, each rule with its places.
use Rattle.std.specs.Prelude.{ℕ, ◌+◌, List, [], ◌∷◌}
use Rattle.table.specs.Check.{Rule, whole, answer}
use Rattle.chart.specs.View.{view}
use Rattle.chart_head.specs.Tests.{good_form?, good_counts?, good_layout?}
use Rattle.chart_rules.specs.Tests.{good_state?, good_spans?, literal_kept, item_kept, good_source?, good_targets?}

-- 01, What a call can say, rows 1 to 9: the rules in rising number, with their places.
abbrev pub chart_rules : List ℕ → List Rule
chart_rules t =
    let c = view t in
    whole (good_form? t)
    ∷ whole (good_counts? c)
    ∷ whole (good_layout? t)
    ∷ record { places = c.states; keeps = good_state? c }
    ∷ record { places = c.states + c.transitions; keeps = good_spans? c }
    ∷ record { places = c.literals; keeps = literal_kept c }
    ∷ record { places = c.items; keeps = item_kept c }
    ∷ record { places = c.transitions; keeps = good_source? c }
    ∷ record { places = c.transitions; keeps = good_targets? c }
    ∷ []

-- The number and place that a table gets; (0, 0) is done.
unfoldable pub chart_answer : List ℕ → ℕ × ℕ
chart_answer t = answer 1 (chart_rules t)
