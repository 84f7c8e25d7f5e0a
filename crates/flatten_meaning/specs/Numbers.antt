-- 01, Flat words: "In flattening, machine i stands for the i-th or-state and flat state j for the j-th and-state."
use Rattle.std.specs.Prelude.{ℕ}
use Rattle.words.specs.Loops.{rank}
use Rattle.chart.specs.View.{Chart, is_and}

-- The flat state of and-state j. The machine of or-state o is `or_rank c o`.
unfoldable pub and_rank : Chart → ℕ → ℕ
and_rank c j = rank (is_and c) j

unfoldable pub and_states : Chart → ℕ
and_states c = rank (is_and c) c.states
