-- `unfolding opened` opens every definition of a check, a start and a run of a flat table, for examples that compute.
use Rattle.words.specs.Loops.{first_bad}
use Rattle.table.specs.Check.{answer}
use Rattle.table.specs.Items.{item_of}
use Rattle.table.specs.Rows.{good_item?}
use Rattle.effects.specs.Run.{emit_to, raise_to, set_var, item, items, written, after, steps, with_queue, next, loop, start, macrostep}
use Rattle.flat.specs.Literals.{flat_literal_of}
use Rattle.flat_head.specs.Tests.{good_flat_form?, good_flat_counts?, good_flat_layout?}
use Rattle.flat_rules.specs.Tests.{good_machines?, good_flat_literal?, good_guard?, good_rule?}
use Rattle.flat_check.specs.Answer.{flat_answer}
use Rattle.flat_meaning.specs.Guards.{current?, holds_flat, flat_literals_of, all_hold, value_at, values}
use Rattle.flat_meaning.specs.Steps.{flat_items_of, target_set, rule_step, fires?, firing, flat_machine}
use Rattle.flat_meaning.specs.State.{flat_length, good_flat_word?, flat_state_of?, flat_start_words, flat_start_state}
use Rattle.flat_meaning.specs.Calls.{flat_started_on, start_flat, flat_ran_on, flat_ran_accepted, run_flat}

unfoldable pub flat_opened : Unit {0}
unfolding first_bad answer item_of good_item? emit_to raise_to set_var item items written after steps with_queue next loop start macrostep flat_literal_of good_flat_form? good_flat_counts? good_flat_layout? good_machines? good_flat_literal? good_guard? good_rule? flat_answer current? holds_flat flat_literals_of all_hold value_at values flat_items_of target_set rule_step fires? firing flat_machine flat_length good_flat_word? flat_state_of? flat_start_words flat_start_state flat_started_on start_flat flat_ran_on flat_ran_accepted run_flat
flat_opened = tt
