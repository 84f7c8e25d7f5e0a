-- The aid chart flattened: how large its table is and can be, and what it does on 01's seven events. proofs/Aid.antt proves it, by
-- computation.
use Rattle.std.specs.Prelude.{ℕ, ◌≡◌, List, [], ◌∷◌, length}
use Rattle.chart.specs.View.{view}
use Rattle.chart.specs.Aid.{aid}
use Rattle.flat_meaning.specs.Calls.{FlatRan, start_flat, run_flat}
use Rattle.flatten_meaning.specs.Tables.{Table}
use Rattle.flatten_meaning.specs.Flattened.{flattened}
use Rattle.flatten_meaning.specs.Room.{guards_bound, literals_bound, rules_bound, room_needed}
use Rattle.flatten_meaning.specs.Encoded.{all_literals, encode}

abbrev pub flat_aid : Table
flat_aid = flattened (view aid)

-- Its words: the header; three machines; six states; nine guards; 18 literals; six items; 16 rules.
abbrev pub flat_words : List ℕ
flat_words =
    2 ∷ 213 ∷ 3 ∷ 6 ∷ 4 ∷ 1 ∷ 4 ∷ 1 ∷ 9 ∷ 18 ∷ 6 ∷ 16 ∷
    18 ∷ 21 ∷ 27 ∷ 45 ∷ 99 ∷ 117 ∷
    0 ∷ 2 ∷ 4 ∷
    0 ∷ 0 ∷ 1 ∷ 1 ∷ 2 ∷ 2 ∷
    0 ∷ 1 ∷ 1 ∷ 1 ∷ 2 ∷ 2 ∷ 4 ∷ 2 ∷ 6 ∷ 2 ∷ 8 ∷ 2 ∷ 10 ∷ 2 ∷ 12 ∷ 5 ∷ 17 ∷ 1 ∷
    0 ∷ 0 ∷ 0 ∷ 0 ∷ 1 ∷ 0 ∷ 0 ∷ 2 ∷ 0 ∷ 4 ∷ 1 ∷ 0 ∷ 0 ∷ 3 ∷ 0 ∷ 4 ∷ 1 ∷ 0 ∷ 0 ∷ 4 ∷ 0 ∷ 4 ∷ 1 ∷ 0 ∷ 0 ∷ 5 ∷ 0 ∷
    4 ∷ 1 ∷ 0 ∷ 4 ∷ 2 ∷ 0 ∷ 4 ∷ 5 ∷ 0 ∷ 4 ∷ 1 ∷ 0 ∷ 3 ∷ 0 ∷ 0 ∷ 5 ∷ 5 ∷ 0 ∷ 5 ∷ 2 ∷ 0 ∷ 5 ∷ 3 ∷ 0 ∷ 0 ∷ 3 ∷ 0 ∷
    2 ∷ 0 ∷ 20000 ∷ 5 ∷ 1 ∷ 0 ∷ 0 ∷ 0 ∷ 0 ∷ 1 ∷ 0 ∷ 0 ∷ 0 ∷ 2 ∷ 0 ∷ 0 ∷ 3 ∷ 0 ∷
    0 ∷ 0 ∷ 0 ∷ 0 ∷ 2 ∷ 65535 ∷ 0 ∷ 0 ∷ 0 ∷ 0 ∷ 0 ∷ 1 ∷ 0 ∷ 0 ∷ 8 ∷ 4 ∷ 1 ∷ 65535 ∷ 0 ∷ 0 ∷ 0 ∷ 0 ∷ 0 ∷ 4 ∷
    1 ∷ 1 ∷ 3 ∷ 5 ∷ 1 ∷ 65535 ∷ 1 ∷ 1 ∷ 1 ∷ 0 ∷ 0 ∷ 0 ∷ 2 ∷ 5 ∷ 5 ∷ 2 ∷ 1 ∷ 65535 ∷ 2 ∷ 5 ∷ 5 ∷ 0 ∷ 0 ∷ 4 ∷
    2 ∷ 2 ∷ 2 ∷ 4 ∷ 1 ∷ 3 ∷ 2 ∷ 3 ∷ 3 ∷ 5 ∷ 1 ∷ 65535 ∷ 2 ∷ 3 ∷ 3 ∷ 0 ∷ 0 ∷ 2 ∷ 3 ∷ 4 ∷ 4 ∷ 3 ∷ 1 ∷ 65535 ∷
    3 ∷ 4 ∷ 4 ∷ 0 ∷ 0 ∷ 5 ∷ 4 ∷ 6 ∷ 6 ∷ 4 ∷ 1 ∷ 3 ∷ 2 ∷ 7 ∷ 3 ∷ 5 ∷ 1 ∷ 65535 ∷ 2 ∷ 7 ∷ 7 ∷ 0 ∷ 0 ∷ 0 ∷ []

-- How large it is ..
pub record Sizes : Type 0 where
  pub guards : length flat_aid.guards ≡ 9
  pub literals : length (all_literals flat_aid) ≡ 18
  pub rules : length flat_aid.rules ≡ 16
  pub words : length (encode flat_aid) ≡ 213

-- .. and can be. 01, The aid chart: "Its flat bounds are 62 guards, 146 literals, 104 rules, 1,231 words".
pub record Bounds : Type 0 where
  pub guards : guards_bound (view aid) ≡ 62
  pub literals : literals_bound (view aid) ≡ 146
  pub rules : rules_bound (view aid) ≡ 104
  pub words : room_needed (view aid) ≡ 1231

-- Room for four outputs.
abbrev pub no_outputs : List ℕ
no_outputs = 0 ∷ 0 ∷ 0 ∷ 0 ∷ 0 ∷ 0 ∷ 0 ∷ 0 ∷ []

-- An event that is done in `micro` microsteps.
abbrev pub done : ℕ → ℕ → ℕ → List ℕ → List ℕ → FlatRan
done micro fired given state outputs = record {
  answer = (0, 0);
  microsteps = micro;
  fired = fired;
  given = given;
  state = state;
  outputs = outputs;
}

-- The words of the aid chart's flat table on 01's seven events: the chart's answers, microsteps, outputs and variables. The
-- and-states 1 2 4 5 7 8 are the flat states 0 to 5; the word 40000 is -25536.
pub record SevenEvents (flat : List ℕ) : Type 0 where
  pub started : (a b c d : ℕ) → start_flat flat (a ∷ b ∷ c ∷ d ∷ []) ≡ record { answer = (0, 0); state = 0 ∷ 2 ∷ 4 ∷ 0 ∷ [] }
  pub first : run_flat flat (0 ∷ 2 ∷ 4 ∷ 0 ∷ []) 0 no_outputs
      ≡ done 1 3 1 (1 ∷ 2 ∷ 4 ∷ 20000 ∷ []) (1 ∷ 20000 ∷ 0 ∷ 0 ∷ 0 ∷ 0 ∷ 0 ∷ 0 ∷ [])
  pub second : run_flat flat (1 ∷ 2 ∷ 4 ∷ 20000 ∷ []) 3 no_outputs
      ≡ done 2 3 1 (1 ∷ 3 ∷ 5 ∷ 20000 ∷ []) (2 ∷ 0 ∷ 0 ∷ 0 ∷ 0 ∷ 0 ∷ 0 ∷ 0 ∷ [])
  pub third : run_flat flat (1 ∷ 3 ∷ 5 ∷ 20000 ∷ []) 2 no_outputs
      ≡ done 1 4 2 (1 ∷ 2 ∷ 4 ∷ 20000 ∷ []) (0 ∷ 0 ∷ 3 ∷ 0 ∷ 0 ∷ 0 ∷ 0 ∷ 0 ∷ [])
  pub fourth : run_flat flat (1 ∷ 2 ∷ 4 ∷ 20000 ∷ []) 2 no_outputs
      ≡ done 1 1 1 (1 ∷ 3 ∷ 4 ∷ 20000 ∷ []) (2 ∷ 0 ∷ 0 ∷ 0 ∷ 0 ∷ 0 ∷ 0 ∷ 0 ∷ [])
  pub fifth : run_flat flat (1 ∷ 3 ∷ 4 ∷ 20000 ∷ []) 1 no_outputs
      ≡ done 1 2 1 (0 ∷ 3 ∷ 4 ∷ 20000 ∷ []) (3 ∷ 0 ∷ 0 ∷ 0 ∷ 0 ∷ 0 ∷ 0 ∷ 0 ∷ [])
  pub sixth : run_flat flat (0 ∷ 3 ∷ 4 ∷ 20000 ∷ []) 0 no_outputs
      ≡ done 1 4 2 (1 ∷ 3 ∷ 4 ∷ 40000 ∷ []) (1 ∷ 40000 ∷ 2 ∷ 0 ∷ 0 ∷ 0 ∷ 0 ∷ 0 ∷ [])
  pub seventh : run_flat flat (1 ∷ 3 ∷ 4 ∷ 40000 ∷ []) 2 no_outputs
      ≡ done 1 2 1 (1 ∷ 2 ∷ 4 ∷ 40000 ∷ []) (3 ∷ 0 ∷ 0 ∷ 0 ∷ 0 ∷ 0 ∷ 0 ∷ 0 ∷ [])
