-- The flat table as a machine: the steps of a microstep are the rules that fire.
use Rattle.std.specs.Prelude.{ℕ, Bool, not, ◌&&◌, List, eqb}
use Rattle.words.specs.Loops.{join_up, many, when}
use Rattle.table.specs.Items.{item_in}
use Rattle.table.specs.Span.{Span}
use Rattle.table.specs.declared.Item.{Item}
use Rattle.effects.specs.Run.{Step, Machine, fire}
use Rattle.flat.specs.View.{Flat}
use Rattle.flat_meaning.specs.Guards.{in_cells, values}

unfoldable pub flat_items_of : Flat → Span → List Item
flat_items_of f s = many (λ i. item_in (f.item i)) s.first s.count

-- 01: the rule's "target becomes current when the microstep ends"; 65535 is no target. A machine's word stands at the
-- machine's number.
unfoldable pub target_set : Flat → ℕ → List (ℕ × ℕ)
target_set f k = when (not (eqb (f.target k) 65535)) (f.machine (f.target k), f.target k)

-- 01: "the rule fires, its items run"; of the targets "a later rule for that machine prevails".
unfoldable pub rule_step : Flat → ℕ → Step
rule_step f k = record { tag = fire; does = flat_items_of f (f.does k); sets = target_set f k }

-- 01: "Rules in order: where the trigger matches and both guards hold, the rule fires". `known` says which guards are true.
unfoldable pub fires? : Flat → ℕ → (ℕ → Bool) → ℕ → Bool
fires? f e known k = eqb (f.trigger k) e && (known (f.first_guard k) && known (f.second_guard k))

unfoldable pub firing : Flat → ℕ → (ℕ → Bool) → List Step
firing f e known = join_up (λ k. when (fires? f e known k) (rule_step f k)) f.rules

-- A microstep reads the guards on the words and variables at its start; the targets take effect at its end.
unfoldable pub flat_machine : Flat → Machine
flat_machine f e words vars = let cells = values f words vars in firing f e (in_cells cells)
