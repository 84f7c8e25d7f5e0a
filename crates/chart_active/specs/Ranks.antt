-- The places of the or-states' words, worked out once for a table.
use Rattle.std.specs.Prelude.{ℕ, ◌<◌, ◌≡◌, List, get_or}
use Rattle.chart.specs.View.{Chart}
use Rattle.chart_meaning.specs.Active.{or_rank}

-- Cell k is the place of or-state k's word.
abbrev pub Ranks : Chart → List ℕ → Type 0
Ranks c ranks = (k : ℕ) → k < c.states → get_or ranks k 0 ≡ or_rank c k
