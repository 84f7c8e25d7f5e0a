-- The examples of 01, gathered in one statement.
use Rattle.std.specs.Prelude.{ℕ, ◌≡◌, List, [], ◌∷◌}
use Rattle.words.specs.Adds.{Adds}
use Rattle.chart.specs.Aid.{aid}
use Rattle.chart_meaning.specs.Calls.{start_chart, run_chart}

-- Room for four outputs.
abbrev pub no_outputs : List ℕ
no_outputs = 0 ∷ 0 ∷ 0 ∷ 0 ∷ 0 ∷ 0 ∷ 0 ∷ 0 ∷ []

-- The aid chart's start, whatever words are lent, and its seven steps for the events 0 3 2 2 1 0 2: each begins with the
-- state that the one before left. The word 40000 is -25536. Then the adds.
pub record Examples : Type 0 where
  pub started : (a b c d : ℕ)
      → start_chart aid (a ∷ b ∷ c ∷ d ∷ []) ≡ record { answer = (0, 0); state = 1 ∷ 4 ∷ 7 ∷ 0 ∷ [] }
  pub first : run_chart aid (1 ∷ 4 ∷ 7 ∷ 0 ∷ []) 0 no_outputs ≡ record {
    answer = (0, 0);
    microsteps = 1;
    taken = 1;
    left = 1;
    entered = 3;
    given = 1;
    state = 2 ∷ 4 ∷ 7 ∷ 20000 ∷ [];
    outputs = 1 ∷ 20000 ∷ 0 ∷ 0 ∷ 0 ∷ 0 ∷ 0 ∷ 0 ∷ [];
  }
  pub second : run_chart aid (2 ∷ 4 ∷ 7 ∷ 20000 ∷ []) 3 no_outputs ≡ record {
    answer = (0, 0);
    microsteps = 2;
    taken = 2;
    left = 2;
    entered = 2;
    given = 1;
    state = 2 ∷ 5 ∷ 8 ∷ 20000 ∷ [];
    outputs = 2 ∷ 0 ∷ 0 ∷ 0 ∷ 0 ∷ 0 ∷ 0 ∷ 0 ∷ [];
  }
  pub third : run_chart aid (2 ∷ 5 ∷ 8 ∷ 20000 ∷ []) 2 no_outputs ≡ record {
    answer = (0, 0);
    microsteps = 1;
    taken = 2;
    left = 2;
    entered = 2;
    given = 2;
    state = 2 ∷ 4 ∷ 7 ∷ 20000 ∷ [];
    outputs = 0 ∷ 0 ∷ 3 ∷ 0 ∷ 0 ∷ 0 ∷ 0 ∷ 0 ∷ [];
  }
  pub fourth : run_chart aid (2 ∷ 4 ∷ 7 ∷ 20000 ∷ []) 2 no_outputs ≡ record {
    answer = (0, 0);
    microsteps = 1;
    taken = 1;
    left = 1;
    entered = 1;
    given = 1;
    state = 2 ∷ 5 ∷ 7 ∷ 20000 ∷ [];
    outputs = 2 ∷ 0 ∷ 0 ∷ 0 ∷ 0 ∷ 0 ∷ 0 ∷ 0 ∷ [];
  }
  pub fifth : run_chart aid (2 ∷ 5 ∷ 7 ∷ 20000 ∷ []) 1 no_outputs ≡ record {
    answer = (0, 0);
    microsteps = 1;
    taken = 1;
    left = 3;
    entered = 1;
    given = 1;
    state = 1 ∷ 5 ∷ 7 ∷ 20000 ∷ [];
    outputs = 3 ∷ 0 ∷ 0 ∷ 0 ∷ 0 ∷ 0 ∷ 0 ∷ 0 ∷ [];
  }
  pub sixth : run_chart aid (1 ∷ 5 ∷ 7 ∷ 20000 ∷ []) 0 no_outputs ≡ record {
    answer = (0, 0);
    microsteps = 1;
    taken = 1;
    left = 1;
    entered = 3;
    given = 2;
    state = 2 ∷ 5 ∷ 7 ∷ 40000 ∷ [];
    outputs = 1 ∷ 40000 ∷ 2 ∷ 0 ∷ 0 ∷ 0 ∷ 0 ∷ 0 ∷ [];
  }
  pub seventh : run_chart aid (2 ∷ 5 ∷ 7 ∷ 40000 ∷ []) 2 no_outputs ≡ record {
    answer = (0, 0);
    microsteps = 1;
    taken = 1;
    left = 1;
    entered = 1;
    given = 1;
    state = 2 ∷ 4 ∷ 7 ∷ 40000 ∷ [];
    outputs = 3 ∷ 0 ∷ 0 ∷ 0 ∷ 0 ∷ 0 ∷ 0 ∷ 0 ∷ [];
  }
  pub adds : Adds
