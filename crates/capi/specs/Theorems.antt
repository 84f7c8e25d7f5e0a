-- What is proved of the promises for C. 01, What the promises say: "inputs determine the answer and every lent word
-- afterwards, refusals too".
use Rattle.std.specs.Prelude.{ℕ, ◌≡◌, List, ◌≢◌, set}
use Rattle.capi.specs.Calls.{ChartCheckedForC, ChartStartedForC, ChartRanForC, ChartFlattenedForC, FlatCheckedForC, FlatStartedForC, FlatRanForC}

-- For each call: two outcomes that keep the promise on the same words return the same number, m and n, and leave the same
-- words: the report's, x and y, and those of state, outputs and room.
pub record DeterminateForC : Type 0 where
  pub check_chart : (chart before : List ℕ) (m n : ℕ) (x y : List ℕ)
      → ChartCheckedForC chart before m x → ChartCheckedForC chart before n y → (m ≡ n) × (x ≡ y)
  pub start_chart : (chart state before : List ℕ) (m n : ℕ) (state-m state-n x y : List ℕ)
      → ChartStartedForC chart state before m state-m x → ChartStartedForC chart state before n state-n y
      → (m ≡ n) × (x ≡ y) × (state-m ≡ state-n)
  pub run_chart : (chart state : List ℕ) (event : ℕ) (outputs before : List ℕ) (m n : ℕ)
      (state-m state-n outputs-m outputs-n x y : List ℕ)
      → ChartRanForC chart state event outputs before m state-m outputs-m x
      → ChartRanForC chart state event outputs before n state-n outputs-n y
      → (m ≡ n) × (x ≡ y) × (state-m ≡ state-n) × (outputs-m ≡ outputs-n)
  -- "The one exception .. is the flat table's text": a refusal leaves one report and one room; a table that is written may be
  -- another, and with it word 7 of the report, its length.
  pub flatten : (chart room before : List ℕ) (m n : ℕ) (room-m room-n x y : List ℕ)
      → ChartFlattenedForC chart room before m room-m x → ChartFlattenedForC chart room before n room-n y
      → (m ≡ n) × (set x 7 0 ≡ set y 7 0) × (m ≢ 0 → (x ≡ y) × (room-m ≡ room-n))
  pub check_flat : (flat before : List ℕ) (m n : ℕ) (x y : List ℕ)
      → FlatCheckedForC flat before m x → FlatCheckedForC flat before n y → (m ≡ n) × (x ≡ y)
  pub start_flat : (flat state before : List ℕ) (m n : ℕ) (state-m state-n x y : List ℕ)
      → FlatStartedForC flat state before m state-m x → FlatStartedForC flat state before n state-n y
      → (m ≡ n) × (x ≡ y) × (state-m ≡ state-n)
  pub run_flat : (flat state : List ℕ) (event : ℕ) (outputs before : List ℕ) (m n : ℕ)
      (state-m state-n outputs-m outputs-n x y : List ℕ)
      → FlatRanForC flat state event outputs before m state-m outputs-m x
      → FlatRanForC flat state event outputs before n state-n outputs-n y
      → (m ≡ n) × (x ≡ y) × (state-m ≡ state-n) × (outputs-m ≡ outputs-n)
