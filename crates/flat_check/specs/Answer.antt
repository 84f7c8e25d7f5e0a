-- How a flat table is answered: 01's numbers 11 to 18, each rule with its places.
use Rattle.std.specs.Prelude.{ℕ, ◌+◌, List, [], ◌∷◌}
use Rattle.table.specs.Check.{Rule, whole, answer}
use Rattle.flat.specs.View.{flat_view}
use Rattle.flat_head.specs.Tests.{good_flat_form?, good_flat_counts?, good_flat_layout?}
use Rattle.flat_rules.specs.Tests.{good_machines?, good_span?, good_guard?, flat_item_kept, good_rule?}

-- 01, What a call can say, rows 11 to 18: the rules in rising number, with their places.
abbrev pub flat_rules : List ℕ → List Rule
flat_rules t =
    let f = flat_view t in
    whole (good_flat_form? t)
    ∷ whole (good_flat_counts? f)
    ∷ whole (good_flat_layout? t)
    ∷ record { places = f.machines + f.states; keeps = good_machines? f }
    ∷ record { places = f.guards; keeps = good_span? f }
    ∷ record { places = f.guards; keeps = good_guard? f }
    ∷ record { places = f.items; keeps = flat_item_kept f }
    ∷ record { places = f.rules; keeps = good_rule? f }
    ∷ []

-- The number and place that a table gets; (0, 0) is done.
unfoldable pub flat_answer : List ℕ → ℕ × ℕ
flat_answer t = answer 11 (flat_rules t)
