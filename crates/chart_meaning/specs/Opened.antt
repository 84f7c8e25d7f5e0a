-- `unfolding opened` opens every definition of a check, a start and a run, for examples that compute.
use Rattle.words.specs.Loops.{first_bad, greatest}
use Rattle.table.specs.Check.{answer}
use Rattle.table.specs.Items.{item_of}
use Rattle.table.specs.Rows.{good_item?}
use Rattle.effects.specs.Run.{emit_to, raise_to, set_var, item, items, written, after, steps, with_queue, next, loop, start, macrostep}
use Rattle.chart.specs.Literals.{literal_of}
use Rattle.chart.specs.Tree.{within, within_at, meeting, apart}
use Rattle.chart_head.specs.Tests.{good_form?, good_counts?, good_layout?}
use Rattle.chart_rules.specs.Tests.{good_place?, good_body?, good_state_spans?, good_transition_spans?, good_spans?, good_literal?, good_source?, apart_from?, good_target?, good_targets?}
use Rattle.chart_check.specs.Answer.{chart_answer}
use Rattle.chart_meaning.specs.Active.{or_rank, child, active_at, actives, active}
use Rattle.chart_meaning.specs.Scope.{beneath, targets_of, above_all, scope, scoped, related}
use Rattle.chart_meaning.specs.Taken.{holds, literals_of, condition, enabled, taken_at, takens}
use Rattle.chart_meaning.specs.Entered.{keeps_word, enters_latest, aimed, leads, chosen, reached, entered_at, entereds}
use Rattle.chart_meaning.specs.Steps.{items_of, leave_step, take_step, enter_step, left?, leaves, enters, fires, chart_machine, rest_word, rest}
use Rattle.chart_meaning.specs.State.{or_states, state_length, good_word?, state_of?, start_words, start_state}
use Rattle.chart_meaning.specs.Calls.{started_on, start_chart, ran_on, ran_accepted, run_chart}

unfoldable pub opened : Unit {0}
unfolding first_bad greatest answer item_of good_item? emit_to raise_to set_var item items written after steps with_queue next loop start macrostep literal_of within within_at meeting apart good_form? good_counts? good_layout? good_place? good_body? good_state_spans? good_transition_spans? good_spans? good_literal? good_source? apart_from? good_target? good_targets? chart_answer or_rank child active_at actives active beneath targets_of above_all scope scoped related holds literals_of condition enabled taken_at takens keeps_word enters_latest aimed leads chosen reached entered_at entereds items_of leave_step take_step enter_step left? leaves enters fires chart_machine rest_word rest or_states state_length good_word? state_of? start_words start_state started_on start_chart ran_on ran_accepted run_chart
opened = tt
