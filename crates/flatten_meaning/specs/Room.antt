-- How large a flat table can be: 01's three formulas, and the room that they need.
use Rattle.std.specs.Prelude.{ℕ, ◌+◌, ◌*◌, ◌-◌, ◌/◌}
use Rattle.chart.specs.View.{Chart}
use Rattle.flatten_meaning.specs.Numbers.{and_states}
use Rattle.flatten_meaning.specs.Flattened.{sum_below}

-- 01, Flat words: "S the sum of the transitions' literal counts".
unfoldable pub asked_literals : Chart → ℕ
asked_literals c = sum_below (λ t. (c.asks t).count) c.transitions

-- "guards <= A + T + T·A"
unfoldable pub guards_bound : Chart → ℕ
guards_bound c = let a = and_states c in let t = c.transitions in a + t + t * a

-- "literals <= 2A + T + S + T(T-1)/2 + 2·T·A"
unfoldable pub literals_bound : Chart → ℕ
literals_bound c =
    let a = and_states c in
    let t = c.transitions in
    2 * a + t + asked_literals c + t * (t - 1) / 2 + 2 * t * a

-- "rules <= T(2A+1)"
unfoldable pub rules_bound : Chart → ℕ
rules_bound c = c.transitions * (2 * and_states c + 1)

-- "The room needed is 18 + n + 2·guards + 3·literals + 3·items + 6·rules at these bounds".
unfoldable pub room_needed : Chart → ℕ
room_needed c = 18 + c.states + 2 * guards_bound c + 3 * literals_bound c + 3 * c.items + 6 * rules_bound c
