-- What the rules ask of the table as a whole, of one state and of one transition: the tests that a walk over the records asks at once.
use Rattle.std.specs.Prelude.{ℕ, Bool, ◌&&◌, List}
use Rattle.chart.specs.View.{Chart, view}
use Rattle.chart_head.specs.Tests.{good_form?, good_counts?, good_layout?}
use Rattle.chart_rules.specs.Tests.{good_state?, good_state_spans?, good_transition_spans?, good_source?, good_targets?}

-- rules 1 to 3
abbrev pub whole_kept : List ℕ → Bool
whole_kept t = good_form? t && (good_counts? (view t) && good_layout? t)

-- rules 4 and 5
abbrev pub state_kept : Chart → ℕ → Bool
state_kept c k = good_state? c k && good_state_spans? c k

-- rules 5, 8 and 9
abbrev pub transition_kept : Chart → ℕ → Bool
transition_kept c k = good_transition_spans? c k && (good_source? c k && good_targets? c k)
