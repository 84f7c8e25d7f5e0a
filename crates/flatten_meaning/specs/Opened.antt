-- `unfolding flatten_opened` opens every definition of a flat table, of its machine and of its words, for examples that compute.
use Rattle.chart_meaning.specs.Opened.{opened}
use Rattle.flatten_meaning.specs.Numbers.{and_rank, and_states}
use Rattle.flatten_meaning.specs.Tables.{current_in, holds_in, value_in, values_in, step_of, fires_in, table_machine}
use Rattle.flatten_meaning.specs.Flattened.{meets_at, meets, quits, wants, asked, active_guard, active_guards, active_literals, flat_literal, blocks, bare, taken_guard, taken_guards, taken_literals, may_at, may, decides, comes, forks, entered_guard, above_at, refer_at, refers, above, refer, entered_literals, entered_guards_of, all_guards, exit_rule, own_rule, entry_rule, rules_of, flattened}
use Rattle.flatten_meaning.specs.Room.{asked_literals, guards_bound, literals_bound, rules_bound, room_needed}
use Rattle.flatten_meaning.specs.Encoded.{literal_triple, spans_from, all_literals, states_at, guards_at, literals_at, items_at, rules_at, total, header, guard_words, literal_words, item_words, rule_words, encode}

unfoldable pub flatten_opened : Unit {0}
unfolding opened and_rank and_states current_in holds_in value_in values_in step_of fires_in table_machine meets_at meets quits wants asked active_guard active_guards active_literals flat_literal blocks bare taken_guard taken_guards taken_literals may_at may decides comes forks entered_guard above_at refer_at refers above refer entered_literals entered_guards_of all_guards exit_rule own_rule entry_rule rules_of flattened asked_literals guards_bound literals_bound rules_bound room_needed literal_triple spans_from all_literals states_at guards_at literals_at items_at rules_at total header guard_words literal_words item_words rule_words encode
flatten_opened = tt
